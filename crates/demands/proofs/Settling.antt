-- An accepted segment, line by line: its record is fair to what it covers, and what no record covers is held.
use Rattle.std.specs.Prelude.{if◌then◌else◌, Option, Some, None}
use Prim.Native.Nat.{ℕ, ◌+◌, ◌≤◌, ◌<◌, ◌^◌}
use mathlib.Core.Path.{◌≡◌, refl, sym, ap, ◌∙◌}
use mathlib.Core.Bool.{Bool, true, false, not, ◌&&◌}
use mathlib.Core.List.{List, [], ◌∷◌, ◌++◌, map, append-nil}
use native.Mathlib.Nat.{zero-add}
use native.Mathlib.Omega.{arith}
use borrow.Author.Tests.{leb-false, eqb-true, ne_eqb, lt-ltb, le-leb}
use lib.Dec.{eqb, leb}
use lib.ListN.{length, take, drop, get_or, set, length-drop, drop_of_length-le}
use lib.Seq.{take_all}
use Rattle.octets.proofs.Splice.{splice-length}
use Rattle.rules.specs.Numbers.{place_start, store_least, place_count, stretch_length}
use Rattle.rules.specs.Layout.{is_unsegmented}
use Rattle.rules.specs.Records.{delivered, lost, FilledKey}
use Rattle.rules.specs.Places.{no_place, free_place, is_open, is_free, holds, place_of, lowest_free, place_at, is_at}
use Rattle.rules.specs.Soundness.{sound}
use Rattle.rules.specs.Receiving.{information_of, save_at, begun, longer, record_with, Effect, effect_of, is_start, line_of, line_at}
use Rattle.rules.specs.Delivery.{part_of, part_of_place, delivery}
use Rattle.rules.specs.declared.Key.{Key}
use Rattle.rules.specs.declared.Place.{Place}
use Rattle.rules.specs.declared.Table.{Table}
use Rattle.rules.specs.declared.Fields.{Fields}
use Rattle.rules.specs.declared.Line.{Line}
use Rattle.rules.specs.declared.Line.TheVariants.{Unsegmented, Broken, Restart, Start, Final, Next}
use Rattle.rules.specs.declared.Part.TheVariants.{OfParameter, OfStore}
use Rattle.rules.specs.declared.Decision.{Decision}
use Rattle.rules.specs.declared.Decision.TheVariants.{Saved, Delivered, Lost}
use Rattle.rules.proofs.Keys.{same_self}
use Rattle.rules.proofs.Records.{AllFit}
use Rattle.rules.proofs.Places.{IsFirst, place_is, free-is}
use Rattle.demands.specs.Machine.{All}
use Rattle.demands.specs.History.{Segment, Cover, joined, is_none, remaining_of, filed, is_restart, covers_in, left_in}
use Rattle.demands.specs.Demand3.{ended, ending_of, endings_of, Counted, Fair, owed, view_of, held_from, owing}
use Rattle.demands.proofs.Holding.{none-held, owing-none, tells, joined-owed, owing-more, counted-more, counted-all, viewed, filed-same, filed-again, filed-none}
use Rattle.demands.proofs.Placing.{Apart, own-owed, freed, renewed, started, save-read, octets-short, apart-save}
use Rattle.demands.proofs.ByLine.{line-cases}

-- what a segment's line must do: a record at most, the line's; fair to what it covers, and delivered so; and what no record covers is held
pub record Arrived (u : Key → List Segment) (k : Key) (x : Segment) (s : List ℕ) (line : Line) (e : Effect) : Type 0 where
  pub fits : AllFit e.records
  pub one : length e.records ≤ 1
  pub ends : map ending_of e.records ≡ endings_of k line
  pub fair : All Fair (covers_in (is_restart line) u k x e.records)
  pub handed : delivery e.decision s e.store ≡ owed (covers_in (is_restart line) u k x e.records)
  pub exact : (k' : Key) → held_from e.store k' 0 e.places ≡ owing (left_in (is_restart line) u k x e.records k')

pub record KeyFits (k : Key) : Type 0 where
  pub addresses : FilledKey k
  pub association : k.association < 2 ^ 16
  pub context : k.context.0 < 2 ^ 16

part-tail : (s : List ℕ) (i : ℕ) → part_of s i (length (drop i s)) ≡ drop i s
part-tail s i = go (leb (i + length (drop i s)) (length s)) refl
  where
    go : (b : Bool) → leb (i + length (drop i s)) (length s) ≡ b → (if b then take (length (drop i s)) (drop i s) else []) ≡ drop i s
    go true e = take_all (length (drop i s)) (drop i s) (omega arith)
    go false e = let l : length s < i + length (drop i s) = leb-false (i + length (drop i s)) (length s) e in let d = length-drop i s in sym (drop_of_length-le s {i = i} (omega arith))

counted-one : (x : Segment) (l : List Segment) (c : Cover) → l ≡ [] → c.made.segments ≡ 1 → c.made.octets ≡ length x.octets → c.made.instruction ≡ x.instruction
    → Counted c (l ++ (x ∷ []))
counted-one x [] c e a b d = (a, b ∙ ap length (sym (append-nil x.octets)), d)
counted-one x (y ∷ l) c e a b d = absurd (let z : ◌≡◌ {A = ℕ} 0 1 = cc in omega arith)

abbrev pub segment_from : Fields → List ℕ → ℕ → ℕ → ℕ → Segment
segment_from f octets time number ticks =
    record {
      number = number;
      new = f.heading.new;
      remaining = f.heading.remaining.0;
      instruction = f.heading.instruction;
      octets = octets;
      time = time;
      ticks = ticks;
    }

module _ (t : Table) (store s : List ℕ) (f : Fields) (k : Key) (u : Key → List Segment) (exact : (k' : Key) → held_from store k' 0 t.places ≡ owing (u k')) (number ticks : ℕ)
    (good : sound t ≡ true) (count : length t.places ≡ place_count) (wide : store_least ≤ length store) (short : length s ≤ 255) (fit : KeyFits k) where
  abbrev octets : List ℕ
  octets = information_of s f

  abbrev x : Segment
  x = segment_from f octets t.clock number ticks

  -- a record of the key, and that it covers the segment and all before it
  abbrev covering : ℕ → ℕ → ℕ → ℕ → ℕ → Cover
  covering kind cause instruction segments size = record { made = record_with kind cause k instruction segments size; segments = u k ++ (x ∷ []) }

  small : length octets ≤ 255
  small = simp length-drop (omega arith)

  abbrev Done : Line → Effect → Type 0
  Done line e = Arrived u k x s line e

  -- one record of the segment and all before it; none, and the segment is held too
  ended_by_lem : (line : Line) → is_restart line ≡ false → (d : Decision) (kind cause instruction segments size : ℕ) (ps : List Place) (store' : List ℕ) → size < 2 ^ 16
      → ended k kind cause ∷ [] ≡ endings_of k line
      → Counted (record { made = record_with kind cause k instruction segments size; segments = u k ++ (x ∷ []) }) (u k ++ (x ∷ []))
      → delivery d s store' ≡ (if eqb kind delivered then joined (u k ++ (x ∷ [])) ++ [] else [])
      → ((k' : Key) → held_from store' k' 0 ps ≡ owing (filed u k [] k'))
      → Done line (record { decision = d; records = record_with kind cause k instruction segments size ∷ []; places = ps; store = store' })
  ended_by_lem line fresh d kind cause instruction segments size ps store' b l c h e =
      record {
        fits = (record { addresses = fit.addresses; association = fit.association; context = fit.context; octets = b }, tt);
        one = omega arith;
        ends = l;
        fair = rw (fresh, filed-same u k (u k ++ (x ∷ []))) (c, tt);
        handed = rw (fresh, filed-same u k (u k ++ (x ∷ []))) h;
        exact = λ k'. rw fresh (e k' ∙ ap owing (sym (filed-again u k (u k ++ (x ∷ [])) [] k')));
      }

  saved-by : (line : Line) → is_restart line ≡ false → endings_of k line ≡ [] → (p : ℕ) (ps : List Place) (store' : List ℕ)
      → ((k' : Key) → held_from store' k' 0 ps ≡ owing (filed u k (u k ++ (x ∷ [])) k')) → Done line (record { decision = Saved p; records = []; places = ps; store = store' })
  unfolding delivery
  saved-by line fresh l p ps store' e = record { fits = tt; one = omega arith; ends = sym l; fair = rw fresh tt; handed = rw fresh; exact = λ k'. rw fresh (e k') }

  -- nothing of the key is held: the segment alone is covered
  module _ (none : u k ≡ []) where
    stays : (k' : Key) → held_from store k' 0 t.places ≡ owing (filed u k [] k')
    stays k' = exact k' ∙ ap owing (sym (filed-none u k none k'))

    alone-done : (place vacant : Option ℕ) (p : Place) → Done Unsegmented (effect_of Unsegmented t store k f octets place p vacant)
    unfolding effect_of delivery
    alone-done place vacant p =
        ended_by_lem Unsegmented refl (Delivered (OfParameter f.information (length octets))) delivered 0 f.heading.instruction 1 (length octets) t.places store
        (omega (arith, small)) refl
        (counted-one x (u k) (covering delivered 0 f.heading.instruction 1 (length octets)) none refl refl refl)
        (part-tail s f.information ∙ rw none (simp append-nil))
        stays

    lone-done : (cause : ℕ) (vacant : Option ℕ) → Done (Broken cause) (effect_of (Broken cause) t store k f octets None free_place vacant)
    unfolding effect_of delivery
    lone-done cause vacant =
        ended_by_lem (Broken cause) refl (Lost cause None) lost cause f.heading.instruction (0 + 1) (0 + length octets) t.places store (omega (arith, small)) refl
        (counted-one x (u k) (covering lost cause f.heading.instruction (0 + 1) (0 + length octets)) none (omega arith) (omega arith) refl) refl stays

  -- a place's stretch is in the store
  within : (i : ℕ) → i < length t.places → (at : ℕ) → at + length octets ≤ 2048 → place_start i + at + length octets ≤ length store
  within i l at h = omega arith

  begun-view : (i : ℕ) → i < length t.places → view_of (save_at store i 0 octets) i (begun t.clock k f.heading (length octets)) ∷ [] ≡ owing (x ∷ [])
  begun-view i l =
      let n = append-nil octets in
      let b = small in
      let r : take (length octets) (drop (place_start i) (save_at store i 0 octets)) ≡ octets = rw zero-add at (save-read store i 0 octets (within i l 0 (omega arith))) in
      λ j. viewed f.heading.remaining.0 1 (length (sym n j)) f.heading.instruction t.clock ((r ∙ sym n) j) ∷ []

  begun-holds : holds k (begun t.clock k f.heading (length octets)) ≡ true
  begun-holds = same_self k

  apart0 : (i : ℕ) → Apart store (save_at store i 0 octets) t.places i
  apart0 i = let b = small in apart-save t good store i 0 octets (omega arith)

  -- the key's place
  module _ (i : ℕ) (inside : i < length t.places) (op : holds k (get_or t.places i no_place) ≡ true) where
    abbrev p : Place
    p = get_or t.places i no_place

    owed-here : view_of store i p ∷ [] ≡ owing (u k)
    owed-here = own-owed store store t.places u exact i p inside (λ j l e. refl) k op

    size : p.octets + length octets < 2 ^ 16
    size = let o = octets-short t good i inside in let b = small in omega arith

    broken-done : (cause : ℕ) (vacant : Option ℕ) → Done (Broken cause) (effect_of (Broken cause) t store k f octets (Some i) p vacant)
    unfolding effect_of delivery
    broken-done cause vacant =
        ended_by_lem (Broken cause) refl (Lost cause (Some i)) lost cause p.instruction (p.segments + 1) (p.octets + length octets) (set t.places i free_place) store size refl
        (counted-more (view_of store i p) x (u k) (covering lost cause p.instruction (p.segments + 1) (p.octets + length octets)) owed-here refl refl refl) refl
        (freed store store t.places u exact i free_place inside (λ j l e. refl) k op refl)

    restart-done : (vacant : Option ℕ) → Done Restart (effect_of Restart t store k f octets (Some i) p vacant)
    unfolding effect_of delivery
    restart-done vacant =
        record {
          fits = (record { addresses = fit.addresses; association = fit.association; context = fit.context; octets = let z = size in omega arith }, tt);
          one = omega arith;
          ends = refl;
          fair = (counted-all (view_of store i p) (u k) (record { made = record_with lost 3 k p.instruction p.segments p.octets; segments = u k }) owed-here refl refl refl, tt);
          handed = refl;
          exact = λ k'.
              renewed store (save_at store i 0 octets) t.places u exact i (begun t.clock k f.heading (length octets)) inside (apart0 i) k (x ∷ []) op begun-holds (begun-view i inside) k'
              ∙ ap owing (sym (filed-again u k [] (x ∷ []) k'))
              ∙ ap (λ (l : List Segment). owing (filed (filed u k []) k (l ++ (x ∷ [])) k')) (sym (filed-same u k []));
        }

    module _ (vacant : Option ℕ) (fits : p.octets + length octets ≤ 2048) where
      abbrev store' : List ℕ
      store' = save_at store i p.octets octets

      read : take (p.octets + length octets) (drop (place_start i) store') ≡ (view_of store i p).saved ++ octets
      read = save-read store i p.octets octets (within i inside p.octets fits)

      part : part_of_place store' i (p.octets + length octets) ≡ take (p.octets + length octets) (drop (place_start i) store')
      part =
          let w = within i inside p.octets fits in
          let l = splice-length store (place_start i + p.octets) octets in
          simp (lt-ltb i place_count (omega arith), le-leb (p.octets + length octets) stretch_length fits, le-leb (place_start i + (p.octets + length octets)) (length store') (omega arith))

      final-done : Done Final (effect_of Final t store k f octets (Some i) p vacant)
      unfolding effect_of delivery
      final-done =
          ended_by_lem Final refl (Delivered (OfStore i (p.octets + length octets))) delivered 0 p.instruction (p.segments + 1) (p.octets + length octets)
          (set t.places i free_place) store' size refl
          (counted-more (view_of store i p) x (u k) (covering delivered 0 p.instruction (p.segments + 1) (p.octets + length octets)) owed-here refl refl refl)
          (part ∙ read ∙ sym (joined-owed (view_of store i p) x (u k) owed-here) ∙ sym (append-nil (joined (u k ++ (x ∷ [])))))
          (freed store store' t.places u exact i free_place inside (apart-save t good store i p.octets octets fits) k op refl)

      next-done : Done Next (effect_of Next t store k f octets (Some i) p vacant)
      unfolding effect_of
      next-done =
          saved-by Next refl refl i (set t.places i (longer p k f.heading (length octets))) store'
          (renewed store store' t.places u exact i (longer p k f.heading (length octets)) inside (apart-save t good store i p.octets octets fits) k
          (u k ++ (x ∷ [])) op (same_self k)
          (ap (λ (b : List ℕ). viewed f.heading.remaining.0 (p.segments + 1) (p.octets + length octets) p.instruction p.start b ∷ []) read
          ∙ owing-more (view_of store i p) x (u k) owed-here))

  start-done : (i : ℕ) (place : Option ℕ) (q : Place) → i < length t.places → is_open (get_or t.places i no_place) ≡ false → u k ≡ []
      → Done Start (effect_of Start t store k f octets place q (Some i))
  unfolding effect_of
  start-done i place q inside shut none =
      saved-by Start refl refl i (set t.places i (begun t.clock k f.heading (length octets))) (save_at store i 0 octets)
      (λ k'. started store (save_at store i 0 octets) t.places u exact i (begun t.clock k f.heading (length octets)) inside (apart0 i) k (x ∷ []) shut
      (exact k ∙ ap owing none) begun-holds (begun-view i inside) k'
      ∙ ap (λ (l : List Segment). owing (filed u k (l ++ (x ∷ [])) k')) (sym none))

  never : {A : Type 0} → true ≡ false → A
  never e = absurd (let z : ◌≡◌ {A = ℕ} 0 1 = cc in omega arith)

  starts : (vacant : Option ℕ) → IsFirst is_free t.places vacant → not (is_at vacant) ≡ false → u k ≡ [] → Done Start (effect_of Start t store k f octets None free_place vacant)
  starts (Some i) h e none =
      let m = eqb-true (get_or t.places i no_place).mark 0 h.1 in
      start-done i None free_place h.0 (ne_eqb (get_or t.places i no_place).mark 1 (omega arith)) none
  starts None h e none = never e

  -- the line by what no record covers
  abbrev told : List Segment → Line
  told l = line_of (not (is_none l)) (remaining_of l) (length (joined l)) f.heading (length octets)

  told-open : (l : List Segment) (i : ℕ) (q : Place) → view_of store i q ∷ [] ≡ owing l → line_of true q.remaining.0 q.octets f.heading (length octets) ≡ told l
  told-open [] i q e = absurd (let z : ◌≡◌ {A = ℕ} 0 1 = cc in omega arith)
  told-open (y ∷ l) i q e = let w = tells (view_of store i q) y l e in rw (w.remaining, w.octets)

  none-there : IsFirst (holds k) t.places None → u k ≡ []
  none-there h = owing-none (u k) (sym (exact k) ∙ none-held store k 0 t.places h)

  -- is the table's
  pub line-told : line_at t k f.heading (length octets) ≡ told (u k)
  line-told = go (place_of k t.places) (place_is k t.places)
    where
      go : (place : Option ℕ) → IsFirst (holds k) t.places place
          → line_of (is_at place) (place_at t.places place).remaining.0 (place_at t.places place).octets f.heading (length octets) ≡ told (u k)
      go (Some i) h = told-open (u k) i (get_or t.places i no_place) (owed-here i h.0 h.1)
      go None h = rw (none-there h)

  -- every line
  pub segment-done : (is_unsegmented f.heading.new f.heading.remaining.0 ≡ true → u k ≡ [])
      → (is_start (line_at t k f.heading (length octets)) && not (is_at (lowest_free t.places))) ≡ false
      → Done (line_at t k f.heading (length octets))
      (effect_of (line_at t k f.heading (length octets)) t store k f octets (place_of k t.places) (place_at t.places (place_of k t.places)) (lowest_free t.places))
  segment-done alone = go (place_of k t.places) (place_is k t.places)
    where
      go : (place : Option ℕ) → IsFirst (holds k) t.places place
          → (is_start (line_of (is_at place) (place_at t.places place).remaining.0 (place_at t.places place).octets f.heading (length octets))
          && not (is_at (lowest_free t.places))) ≡ false
          → Done (line_of (is_at place) (place_at t.places place).remaining.0 (place_at t.places place).octets f.heading (length octets))
          (effect_of (line_of (is_at place) (place_at t.places place).remaining.0 (place_at t.places place).octets f.heading (length octets)) t store k f octets place
          (place_at t.places place) (lowest_free t.places))
      go (Some i) h =
          let q : Place = get_or t.places i no_place in
          line-cases (λ (line : Line). (is_start line && not (is_at (lowest_free t.places))) ≡ false → Done line (effect_of line t store k f octets (Some i) q (lowest_free t.places)))
          true q.remaining.0 q.octets f.heading (length octets)
          (λ a e. alone-done (alone a) (Some i) (lowest_free t.places) q)
          (λ cause l b e. broken-done i h.0 h.1 cause (lowest_free t.places))
          (λ b o e. restart-done i h.0 h.1 (lowest_free t.places))
          (λ b o e. never o)
          (λ b o l e. final-done i h.0 h.1 (lowest_free t.places) l)
          (λ b o l e. next-done i h.0 h.1 (lowest_free t.places) l)
      go None h =
          let none : u k ≡ [] = none-there h in
          line-cases (λ (line : Line). (is_start line && not (is_at (lowest_free t.places))) ≡ false → Done line (effect_of line t store k f octets None free_place (lowest_free t.places)))
          false 0 0 f.heading (length octets)
          (λ a e. alone-done none None (lowest_free t.places) free_place)
          (λ cause l b e. lone-done none cause (lowest_free t.places))
          (λ b o e. never (sym o))
          (λ b o e. starts (lowest_free t.places) (free-is t.places) e none)
          (λ b o l e. never (sym o))
          (λ b o l e. never (sym o))
