-- Opening gives a sound table and every call keeps it sound.
use Rattle.std.specs.Prelude.{Option, Some, None}
use Prim.Native.Nat.{ℕ, ◌+◌, ◌-◌, ◌≤◌, ◌<◌}
use mathlib.Core.Path.{◌≡◌, refl, sym, ◌∙◌}
use mathlib.Core.Bool.{Bool, true, false, not, ◌&&◌, ◌||◌, and-eq-true_iff, true≢false}
use mathlib.Core.List.{List, [], ◌∷◌}
use native.Mathlib.Omega.{arith}
use borrow.Author.Tests.{eqb-true, leb-true, ne_eqb, not-true, not-false}
use lib.Dec.{leb}
use lib.ListN.{length, drop, get_or, length-drop}
use Rattle.rules.specs.General.{every, every_two}
use Rattle.rules.specs.Numbers.{entries_most, timer_in_range, elapsed}
use Rattle.rules.specs.Refusals.{Check, ◌when◌, accepted, first}
use Rattle.rules.specs.Registry.{kind_of, entries_of, is_cut, is_unused, is_entry, is_usable, entries_apart, lists_registry}
use Rattle.rules.specs.Layout.{is_unsegmented, context_of, origin_at, past_address, fields_of, reading_checks}
use Rattle.rules.specs.Places.{no_place, free_place, holds, is_at, place_of, place_at, put_place, lowest_free}
use Rattle.rules.specs.Soundness.{address_sound, free_sound, place_sound, places_apart, sound}
use Rattle.rules.specs.Opening.{empty_table, opening_checks}
use Rattle.rules.specs.Receiving.{key_of, information_of, open_place, begun, line_of, effect_of, Reception}
use Rattle.rules.specs.Sweep.{Sweeping, clock_checks, release_checks}
use Rattle.rules.specs.Summary.{summary_sound, clock_checks_with, release_checks_with}
use Rattle.rules.specs.Arrival.{whole_checks, arrival_checks}
use Rattle.rules.specs.Sending.{sending_checks}
use Rattle.rules.specs.Calls.{State, Arrival, Call, Opens, Arrives, Ticks, Releases, Sends, Opening, step}
use Rattle.rules.specs.declared.Entry.{Entry}
use Rattle.rules.specs.declared.Key.{Key}
use Rattle.rules.specs.declared.Place.{Place}
use Rattle.rules.specs.declared.Table.{Table}
use Rattle.rules.specs.declared.Fields.{Fields}
use Rattle.rules.specs.declared.Line.{Line}
use Rattle.rules.specs.declared.Opened.{Opened}
use Rattle.rules.proofs.Refusals.{Least, first-each, accepted-first}
use Rattle.rules.proofs.Registry.{every-unused, padded-apart}
use Rattle.rules.proofs.Reading.{parameter-short, origin-short, destination-short, context-registered, reference-short}
use Rattle.rules.proofs.Places.{IsFirst, place_is}
use Rattle.rules.proofs.Held.{every-at, open_is}
use Rattle.rules.proofs.Arrived.{arrived}
use Rattle.rules.proofs.Answers.{opened-by, segment-by, segment-accepted, clock-by, release-by}
use Rattle.rules.proofs.Lines.{line-cases}
use Rattle.rules.proofs.Apart.{every_set, two_at, two-set, apart-new, apart-own, apart-free}
use Rattle.rules.proofs.Sweeping.{open-place, clock-sound, release-sound}
use Rattle.rules.proofs.Soundness.{SoundTable, sound-parts, sound-of, OpenPlace, open-parts, open_of, free-sound, span-sound}
use Rattle.demands.specs.Machine.{ours, checks_of, clocked_by, is_opening, SoundSummary}
use Rattle.demands.specs.Seen.{seen_by}
use Rattle.demands.specs.History.{Told, deeds_of, after}
use Rattle.demands.specs.Soundness.{LeavesSound, NotBy1, Sound}
use Rattle.demands.proofs.Refused.{number, accepted-zero, zero-accepted, ones, others-least}
use Rattle.demands.proofs.Counted.{summary-emptied, summary-kept}
use Rattle.demands.proofs.Parts.{segmented, arrival-state}
use Rattle.demands.proofs.Running.{meets, still-opened}

-- a place as a sound table has it
abbrev SoundIn : Table → Place → Type 0
SoundIn t p = place_sound t.registry t.timer t.clock p ≡ true

-- what a table's places keep to
abbrev Good : Table → List Place → Type 0
Good t ps = (every (place_sound t.registry t.timer t.clock) ps ≡ true) × (every_two places_apart ps ≡ true)

module _ (t : Table) (ok : SoundTable t) where
  abbrev ps : List Place
  ps = t.places

  same_good : Good t ps
  same_good = (ok.places, ok.apart)

  -- a place may be put where it is apart from the others
  put-good : (i : ℕ) (x : Place) → SoundIn t x → ((j : ℕ) → j < length ps → (j ≡ i → ⊥) → places_apart x (get_or ps j no_place) ≡ true) → Good t (put_place ps (Some i) x)
  put-good i x s h = (every_set _ ps i x s ok.places, two-set ps i x ok.apart h)

  free-good : (f : Option ℕ) → Good t (put_place ps f free_place)
  free-good (Some i) = put-good i free_place (free-sound t.registry t.timer t.clock) (λ j b d. apart-free (get_or ps j no_place))
  free-good None = same_good

  module _ (k : Key) where
    own-good : (f : Option ℕ) → IsFirst (holds k) ps f → (x : Place) → x.key ≡ k → SoundIn t x → Good t (put_place ps f x)
    own-good (Some i) h x e s =
        put-good i x s (λ j b d. apart-own k x (get_or ps i no_place) (get_or ps j no_place) e h.1 (two_at ps i j ok.apart h.0 b (λ z. d (sym z))))
    own-good None h x e s = same_good

    new-good : (f : Option ℕ) → IsFirst (holds k) ps f → is_at f ≡ false → (vacant : Option ℕ) (x : Place) → x.key ≡ k → SoundIn t x → Good t (put_place ps vacant x)
    new-good f h n None x e s = same_good
    new-good (Some j) h n (Some i) x e s = let z : ◌≡◌ {A = ℕ} 0 1 = cc in let y : ⊥ = omega arith in absurd y
    new-good None h n (Some i) x e s = put-good i x s (λ j b d. apart-new k x (get_or ps j no_place) e (h j b))

    own_open : (f : Option ℕ) → IsFirst (holds k) ps f → is_at f ≡ true → OpenPlace t.registry t.timer t.clock (place_at ps f)
    own_open (Some i) h a =
        let p : Place = get_or ps i no_place in
        let s = every-at (place_sound t.registry t.timer t.clock) ps no_place i ok.places h.0 in
        open-parts t.registry t.timer t.clock p (open_is t.registry t.timer t.clock p s ((and-eq-true_iff _ _).0 h.1).0)
    own_open None h a = let z : ◌≡◌ {A = ℕ} 0 1 = cc in let y : ⊥ = omega arith in absurd y

not-alone : (new : Bool) (r : ℕ) → 1 ≤ r → is_unsegmented new r ≡ false
not-alone true r h = ne_eqb r 0 (λ e. omega arith)
not-alone false r h = refl

-- the place of a parameter that is read and is one of several
module _ (t : Table) (association : ℕ) (s : List ℕ) (reading : accepted (reading_checks t.registry s) ≡ true) where
  abbrev f : Fields
  f = fields_of t.registry s

  abbrev key : Key
  key = key_of association s f

  origin-sound : address_sound (kind_of t.registry key.context.0) key.origin ≡ true
  unfolding fields_of
  origin-sound = span-sound (kind_of t.registry (context_of s)) s (origin_at s) (origin-short t.registry s reading)

  destination-sound : address_sound (kind_of t.registry key.context.0) key.destination ≡ true
  unfolding fields_of
  destination-sound = span-sound (kind_of t.registry (context_of s)) s (past_address s (origin_at s)) (destination-short t.registry s reading)

  registered : kind_of t.registry key.context.0 ≡ 0 → ⊥
  unfolding fields_of
  registered = context-registered t.registry s reading

  reference : 1 ≤ f.heading.remaining.0 → key.reference.0 ≤ 127
  unfolding fields_of
  reference some = reference-short t.registry s reading (not-alone f.heading.new f.heading.remaining.0 some)

  instruction : f.heading.instruction ≤ 3
  unfolding fields_of
  instruction = omega arith

  information : length (information_of s f) ≤ 255
  information = let short = parameter-short t.registry s reading in rw length-drop (omega arith)

  open-sound : (instruction segments octets start : ℕ) → 1 ≤ f.heading.remaining.0 → f.heading.remaining.0 ≤ 9 → instruction ≤ 3 → 1 ≤ segments
      → segments + f.heading.remaining.0 ≤ 10 → octets ≤ 2048 → elapsed t.clock start < t.timer
      → SoundIn t (open_place key f.heading.remaining instruction segments octets start)
  open-sound instruction segments octets start some nine three one ten most young =
      let p : Place = open_place key f.heading.remaining instruction segments octets start in
      open-place t.registry t.timer t.clock p refl
      (open_of t.registry t.timer t.clock p
      (record {
        registered = registered;
        reference = reference some;
        instruction = three;
        left = some;
        most = nine;
        begun = one;
        count = ten;
        octets = most;
        origin = origin-sound;
        destination = destination-sound;
        young = young;
      }))

elapsed-none : (time : ℕ) → elapsed time time ≡ 0
unfolding elapsed
elapsed-none time = omega arith

-- every line keeps the places good
module _ (t : Table) (ok : SoundTable t) (association : ℕ) (s : List ℕ) (reading : accepted (reading_checks t.registry s) ≡ true) where
  abbrev g : Fields
  g = fields_of t.registry s

  abbrev k : Key
  k = key_of association s g

  abbrev octets : List ℕ
  octets = information_of s g

  fresh : 1 ≤ g.heading.remaining.0 → g.heading.remaining.0 ≤ 9 → SoundIn t (begun t.clock k g.heading (length octets))
  fresh some nine =
      let one = leb-true 1 t.timer ((and-eq-true_iff (leb 1 t.timer) (leb t.timer 1000000)).0 ok.timer).0 in
      open-sound t association s reading _ _ _ _ some nine (instruction t association s reading) (omega arith) (omega arith)
      (omega (arith, information t association s reading)) (omega (arith, elapsed-none t.clock))

  segment-good : (store : List ℕ) (place : Option ℕ) → IsFirst (holds k) t.places place → (vacant : Option ℕ)
      → let p : Place = place_at t.places place in
      Good t (effect_of (line_of (is_at place) p.remaining.0 p.octets g.heading (length octets)) t store k g octets place p vacant).places
  unfolding effect_of
  segment-good store place h vacant =
      let p : Place = place_at t.places place in
      line-cases (λ (line : Line). Good t (effect_of line t store k g octets place p vacant).places) (is_at place) p.remaining.0 p.octets g.heading (length octets)
      (record {
        unsegmented = λ a b. same_good t ok;
        beyond = λ a. free-good t ok place;
        restart = λ a b some nine. own-good t ok k place h _ refl (fresh some nine);
        start = λ a b some nine. new-good t ok k place h b vacant _ refl (fresh some nine);
        stray = λ a b c. free-good t ok place;
        gap = λ a b c d. free-good t ok place;
        over = λ a b c d e. free-good t ok place;
        final = λ a b c d e. free-good t ok place;
        next = λ a b some nine follows fits.
            let o = own_open t ok k place h b in
            let count = o.count in
            own-good t ok k place h _ refl (open-sound t association s reading _ _ _ _ some nine o.instruction (omega arith) (omega arith) fits o.young);
      })

entries-usable : (es : List Entry) → every is_entry es ≡ true → every is_usable es ≡ true
entries-usable [] h = refl
entries-usable (e ∷ es) h =
    let all = (and-eq-true_iff (is_entry e) (every is_entry es)).0 h in
    let one : is_usable e ≡ true = go (is_unused e) (is_entry e) all.0 in
    rw (one, entries-usable es all.1)
  where
    go : (a b : Bool) → b ≡ true → (a || b) ≡ true
    go true b t = refl
    go false b t = t

empty-sound : (registry : List ℕ) (timer time : ℕ) → accepted (opening_checks registry timer) ≡ true → sound (empty_table (entries_of registry) timer time) ≡ true
unfolding free_sound
empty-sound registry timer time e =
    let checks = (and-eq-true_iff (not (not (timer_in_range timer))) _).0 e in
    let listed = (and-eq-true_iff (not (not (lists_registry registry))) true).0 checks.1 in
    let lists = not-false (lists_registry registry) (not-true _ listed.0) in
    let es : List Entry = entries_of registry in
    let whole : Bool = not (is_cut registry) && leb (length es) entries_most in
    let all = (and-eq-true_iff (whole && every is_entry es) (every_two entries_apart es)).0 lists in
    let entries = (and-eq-true_iff whole (every is_entry es)).0 all.0 in
    let usable = every-unused is_usable refl es (entries_most - length es) ∙ entries-usable es entries.1 in
    sound-of _
    (record {
      timer = not-false (timer_in_range timer) (not-true _ checks.0);
      registry = rw (usable, padded-apart (entries_of registry)) all.1;
      places = refl;
      apart = refl;
    })

pub opened : (st : State) (x : Opening) → accepted (opening_checks x.registry x.timer) ≡ true → sound (step st (Opens x)).state.table ≡ true
unfolding step
opened st x ok =
    opened-by (λ (o : Opened). sound o.table ≡ true) x.registry x.timer x.time (empty-sound x.registry x.timer x.time) (λ e. cc)

segment-sound : (st : State) (x : Arrival) → sound st.table ≡ true → sound (segmented st x).state.table ≡ true
segment-sound st x s =
    let t : Table = st.table in
    let ok = sound-parts t s in
    let key : Key = key_of x.association x.parameter (fields_of t.registry x.parameter) in
    segment-by t st.summary st.store x.report x.association x.parameter (λ (o : Reception). sound o.answer.table ≡ true)
    (λ e.
    let own = (segment-accepted t st.summary st.store x.report x.association x.parameter e).0.own in
    let reading = (arrived t st.store x.report x.association x.parameter own).reading in
    let good = segment-good t ok x.association x.parameter reading st.store (place_of key t.places) (place_is key t.places) (lowest_free t.places) in
    sound-of _ (record { timer = ok.timer; registry = ok.registry; places = good.0; apart = good.1 }))
    (λ e. s)

pub kept : (st : State) (c : Call) → is_opening c ≡ false → sound st.table ≡ true → sound (step st c).state.table ≡ true
unfolding step
kept st (Opens x) h s = cc
kept st (Arrives x) h s =
    let after = clock-sound st.table x.report x.time s in
    arrival-state st x (λ (st : State). sound st.table ≡ true) s (λ e. after) (λ e f. segment-sound (clocked_by st x) x after)
kept st (Ticks x) h s =
    clock-by st.table st.summary x.report x.time (λ (o : Sweeping). sound o.answer.table ≡ true)
    (λ e. clock-sound st.table x.report x.time s)
    (λ e. s)
kept st (Releases x) h s =
    release-by st.table st.summary x.report x.association (λ (o : Sweeping). sound o.answer.table ≡ true)
    (λ e. release-sound st.table x.report x.association s) (λ e. s)
kept st (Sends x) h s = s

-- a sound table and a sound summary pass their checks, and no other has the number 1
over-1 : (cs : List Check) → Least 2 cs → first cs ≡ 1 → ⊥
over-1 cs h e = go (accepted cs) refl
  where
    go : (b : Bool) → accepted cs ≡ b → ⊥
    go true a = omega (arith, accepted-first cs a)
    go false a = omega (arith, first-each (λ k. 2 ≤ k) cs h a)

first-passed : (b : Bool) (n : ℕ) (cs : List Check) → b ≡ true → first (n when not b ∷ cs) ≡ first cs
first-passed b n cs e = rw e

pub passes-1 : (st : State) (c : Call) → is_opening c ≡ false → sound st.table ≡ true → summary_sound st.summary st.table.places ≡ true → first (checks_of st c) ≡ 1 → ⊥
unfolding arrival_checks whole_checks clock_checks_with clock_checks release_checks_with release_checks sending_checks
passes-1 st c o s m e = go c o (others-least st c) e
  where
    both : (cs : List Check) → Least 2 cs → first (1 when not (summary_sound st.summary st.table.places) ∷ 1 when not (sound st.table) ∷ cs) ≡ 1 → ⊥
    both cs h e = over-1 cs h (sym (first-passed (summary_sound st.summary st.table.places) 1 (1 when not (sound st.table) ∷ cs) m ∙ first-passed (sound st.table) 1 cs s) ∙ e)

    go : (c : Call) → is_opening c ≡ false → Least 2 (drop (ones c) (checks_of st c)) → first (checks_of st c) ≡ 1 → ⊥
    go (Opens x) o h e = let z : ◌≡◌ {A = ℕ} 0 1 = cc in omega arith
    go (Arrives x) o h e = both (drop 2 (checks_of st (Arrives x))) h e
    go (Ticks x) o h e = both (drop 2 (checks_of st (Ticks x))) h e
    go (Releases x) o h e = both (drop 2 (checks_of st (Releases x))) h e
    go (Sends x) o h e = over-1 (drop 1 (checks_of st (Sends x))) h (sym (first-passed (sound st.table) 1 (drop 1 (checks_of st (Sends x))) s) ∙ e)

pub leaves-sound : (st : State) (c : Call) → LeavesSound (seen_by ours st c)
leaves-sound st c = record { opened = go c; kept = kept st c; emptied = new c; counted = summary-kept st c }
  where
    new : (c : Call) → is_opening c ≡ true → SoundSummary (step st c).state
    new (Opens x) o = summary-emptied st x
    new (Arrives x) o = absurd (true≢false (sym o))
    new (Ticks x) o = absurd (true≢false (sym o))
    new (Releases x) o = absurd (true≢false (sym o))
    new (Sends x) o = absurd (true≢false (sym o))

    go : (c : Call) → is_opening c ≡ true → accepted (checks_of st c) ≡ true → sound (step st c).state.table ≡ true
    go (Opens x) o ok = opened st x ok
    go (Arrives x) o ok = cc
    go (Ticks x) o ok = cc
    go (Releases x) o ok = cc
    go (Sends x) o ok = cc

-- where the last opening was accepted the table is sound, and after any the summary
record SoundOnce (st : State) (h : Told) : Type 0 where
  table : h.opened ≡ true → sound st.table ≡ true
  summary : SoundSummary st

-- an opening has no check with the number 1
pub opening-over-1 : (st : State) (o : Opening) → (step st (Opens o)).answer.refusal ≡ 1 → ⊥
opening-over-1 st o e = go (accepted (checks_of st (Opens o))) refl
  where
    least : Least 2 (checks_of st (Opens o))
    least = (omega arith, (omega arith, tt))

    go : (b : Bool) → accepted (checks_of st (Opens o)) ≡ b → ⊥
    go true a = omega (arith, accepted-zero st (Opens o) a)
    go false a = omega (arith, number st (Opens o), first-each (λ k. 2 ≤ k) (checks_of st (Opens o)) least a)

pub soundness : Sound ours
unfolding after deeds_of
soundness =
    record {
      every = leaves-sound;
      never1 = meets NotBy1 SoundOnce
          (λ st h o r. (
            λ e. opening-over-1 st o,
            record { table = λ e. opened st o (zero-accepted st (Opens o) (eqb-true (step st (Opens o)).answer.refusal 0 e)); summary = summary-emptied st o },
          ))
          (λ st h s c r o. (
            λ e z. passes-1 st c o (s.table e) s.summary.sound (sym (number st c) ∙ z),
            record { table = λ e. kept st c o (s.table (sym (still-opened h (seen_by ours st c) o) ∙ e)); summary = summary-kept st c o r s.summary },
          ));
    }
