-- BALANCE of the machine that the rules are: of every association, what was taken is what the records cover and what its open places hold.
use Rattle.std.specs.Prelude.{if◌then◌else◌, Option, Some, None}
use Prim.Native.Nat.{ℕ, zero, suc, ◌+◌, ◌<◌}
use mathlib.Core.Path.{◌≡◌, refl, sym, ap, ◌∙◌}
use mathlib.Core.Bool.{Bool, true, false, not, ◌&&◌, and-eq-true_iff, true≢false}
use mathlib.Core.List.{List, [], ◌∷◌, ◌++◌, map, append-nil, append_assoc}
use native.Mathlib.Nat.{add-zero}
use native.Mathlib.Omega.{arith}
use borrow.Author.Tests.{eqb-true, ne_eqb}
use lib.Dec.{eqb}
use lib.ListN.{length, get_or, set, replicate}
use Rattle.rules.specs.General.{those}
use Rattle.rules.specs.Numbers.{place_count}
use Rattle.rules.specs.Layout.{fields_of}
use Rattle.rules.specs.Records.{delivered, lost}
use Rattle.rules.specs.Places.{no_place, free_place, is_open, is_free, same_key, holds, place_of, lowest_free, is_at, place_at}
use Rattle.rules.specs.Receiving.{key_of, information_of, begun, longer, Effect, effect_of, is_start, line_of, line_at}
use Rattle.rules.specs.Sweep.{loss_of, freed_by, losses_by}
use Rattle.rules.specs.Summary.{number_at, is_used}
use Rattle.rules.specs.Calls.{State, Call, Opens, Opening, step}
use Rattle.rules.specs.declared.Key.{Key}
use Rattle.rules.specs.declared.Place.{Place}
use Rattle.rules.specs.declared.Table.{Table}
use Rattle.rules.specs.declared.Fields.{Fields}
use Rattle.rules.specs.declared.Record.{Record}
use Rattle.rules.specs.declared.Opened.{Opened}
use Rattle.rules.specs.declared.Line.{Line}
use Rattle.rules.specs.declared.Line.TheVariants.{Unsegmented, Broken, Restart, Start, Final, Next}
use Rattle.rules.proofs.Keys.{same-equal}
use Rattle.rules.proofs.Places.{IsFirst, place_is, free-is}
use Rattle.rules.proofs.Arrived.{arrived as arrived-good}
use Rattle.rules.proofs.Answers.{opened-by, segment-accepted}
use Rattle.demands.specs.Machine.{ours, is_opening, All, InRange}
use Rattle.demands.specs.Seen.{Seen, seen_by}
use Rattle.demands.specs.History.{Segment, Taken, Cover, Told, joined, filed, covers_of, key_in, segment_in, line_in, is_restart, arrived, covers_in, deeds_of, after}
use Rattle.demands.specs.Demand3.{ending_of, IsLost, Fair}
use Rattle.demands.specs.Totals.{segments_taken, octets_taken, is_billed, segments_covered, octets_covered, is_held, segments_held, octets_held, associations_from, Balanced, Balance}
use Rattle.demands.proofs.ByLine.{line-cases}
use Rattle.demands.proofs.Sweeping.{losses-lost}
use Rattle.demands.proofs.Accepting.{vacant-left}
use Rattle.demands.proofs.Kept.{effect}
use Rattle.demands.proofs.Doing.{Took, Swept, call_by}
use Rattle.demands.proofs.Rowed.{marked}
use Rattle.demands.proofs.Totalling.{segments-taken, octets-taken, segments-covered, octets-covered, Kind, by_kind, counts_of, Proper, line-proper, Counting, counting-opened, counting-call}
use Rattle.demands.proofs.Running.{meets}

-- SEGMENTS OR OCTETS

abbrev pick : Bool → ℕ → ℕ → ℕ
pick true s o = s
pick false s o = o

pick-none : (w : Bool) → pick w 0 0 ≡ 0
pick-none true = refl
pick-none false = refl

pick_more : (w : Bool) (s o n : ℕ) → pick w (s + 1) (o + n) ≡ pick w s o + pick w 1 n
pick_more true s o n = refl
pick_more false s o n = refl

abbrev taken_by : Bool → ℕ → List Taken → ℕ
taken_by true b l = segments_taken b l
taken_by false b l = octets_taken b l

abbrev covered_by : Bool → ℕ → ℕ → List Cover → ℕ
covered_by true kind b cs = segments_covered kind b cs
covered_by false kind b cs = octets_covered kind b cs

abbrev held_by : Bool → ℕ → List Place → ℕ
held_by true b ps = segments_held b ps
held_by false b ps = octets_held b ps

abbrev weight : Bool → ℕ → Place → ℕ
weight w b p = if is_held b p then pick w p.segments p.octets else 0

-- what the records of an association count
abbrev made_by : Bool → ℕ → List Record → ℕ
made_by w b [] = 0
made_by w b (r ∷ rs) = (if eqb r.key.association b then pick w r.segments r.octets else 0) + made_by w b rs

nought : (e : Bool) → ◌≡◌ {A = ℕ} 0 (if e then 0 else 0)
nought true = refl
nought false = refl

module _ (w : Bool) (b : ℕ) where
  held_none : held_by w b [] ≡ 0
  held_none = go w
    where
      go : (w : Bool) → held_by w b [] ≡ 0
      go true = refl
      go false = refl

  held_cons : (p : Place) (ps : List Place) → held_by w b (p ∷ ps) ≡ weight w b p + held_by w b ps
  held_cons p ps = go w
    where
      go : (w : Bool) → held_by w b (p ∷ ps) ≡ weight w b p + held_by w b ps
      go true = refl
      go false = refl

  -- another place: less what was there, and what is there now more
  put-held : (ps : List Place) (i : ℕ) (q : Place) → i < length ps → held_by w b (set ps i q) + weight w b (get_or ps i no_place) ≡ held_by w b ps + weight w b q
  put-held [] i q h = absurd (omega arith)
  put-held (p ∷ ps) zero q h = omega (arith, held_cons p ps, held_cons q ps)
  put-held (p ∷ ps) (suc i) q h = omega (arith, held_cons p ps, held_cons p (set ps i q), put-held ps i q (omega arith))

  own-weight : (k : Key) (p : Place) → holds k p ≡ true → weight w b p ≡ (if eqb k.association b then pick w p.segments p.octets else 0)
  own-weight k p e =
      let both = (and-eq-true_iff (is_open p) (same_key p.key k)).0 e in
      let same : p.key.association ≡ k.association = ap (λ (k : Key). k.association) (same-equal p.key k both.1) in
      let open_own : is_held b p ≡ eqb k.association b = ap (λ (o : Bool). o && eqb p.key.association b) both.0 ∙ ap (λ (a : ℕ). eqb a b) same in
      ap (λ (o : Bool). if o then pick w p.segments p.octets else 0) open_own

-- A SEGMENT: what was held and what is taken is what the record counts and what is held then
weigh : (e : Bool) (old new before now made was is told one : ℕ) → new + before ≡ old + now → before ≡ (if e then was else 0) → now ≡ (if e then is else 0) → made ≡ (if e then told else 0)
    → was + one ≡ told + is → old + (if e then one else 0) ≡ made + new
weigh true old new before now made was is told one a b c d f = omega arith
weigh false old new before now made was is told one a b c d f = omega arith

module _ (w : Bool) (b : ℕ) (t : Table) (store : List ℕ) (k : Key) (f : Fields) (octets : List ℕ) where
  abbrev one : ℕ
  one = pick w 1 (length octets)

  abbrev own : Bool
  own = eqb k.association b

  abbrev Even : Effect → Type 0
  Even e = held_by w b t.places + (if own then one else 0) ≡ made_by w b e.records + held_by w b e.places

  -- one record, and no place changes
  alone-even : (told : ℕ) → told ≡ one → held_by w b t.places + (if own then one else 0) ≡ ((if own then told else 0) + 0) + held_by w b t.places
  alone-even told e = rw e (omega arith)

  module _ (i : ℕ) (inside : i < length t.places) where
    abbrev p : Place
    p = get_or t.places i no_place

    abbrev saved : ℕ
    saved = pick w p.segments p.octets

    -- a place that is put, and at most one record
    put-even : (q : Place) (was is told made : ℕ) → weight w b p ≡ (if own then was else 0) → weight w b q ≡ (if own then is else 0) → made ≡ (if own then told else 0)
        → was + one ≡ told + is → held_by w b t.places + (if own then one else 0) ≡ made + held_by w b (set t.places i q)
    put-even q was is told made x y z e = weigh own (held_by w b t.places) _ (weight w b p) (weight w b q) _ was is told one (put-held w b t.places i q inside) x y z e

    module _ (op : holds k p ≡ true) where
      freed-even : held_by w b t.places + (if own then one else 0)
          ≡ ((if own then pick w (p.segments + 1) (p.octets + length octets) else 0) + 0) + held_by w b (set t.places i free_place)
      freed-even = put-even free_place saved 0 _ _ (own-weight w b k p op) (nought own) (add-zero _) (omega (arith, pick_more w p.segments p.octets (length octets)))

      broken-even : (cause : ℕ) (vacant : Option ℕ) → Even (effect_of (Broken cause) t store k f octets (Some i) p vacant)
      unfolding effect_of
      broken-even cause vacant = freed-even

      final-even : (vacant : Option ℕ) → Even (effect_of Final t store k f octets (Some i) p vacant)
      unfolding effect_of
      final-even vacant = freed-even

      restart-even : (vacant : Option ℕ) → Even (effect_of Restart t store k f octets (Some i) p vacant)
      unfolding effect_of
      restart-even vacant = put-even (begun t.clock k f.heading (length octets)) saved one saved _ (own-weight w b k p op) refl (add-zero _) refl

      next-even : (vacant : Option ℕ) → Even (effect_of Next t store k f octets (Some i) p vacant)
      unfolding effect_of
      next-even vacant =
          put-even (longer p k f.heading (length octets)) saved (pick w (p.segments + 1) (p.octets + length octets)) 0 0 (own-weight w b k p op) refl (nought own)
          (omega (arith, pick_more w p.segments p.octets (length octets)))

    start-even : is_free p ≡ true → (place : Option ℕ) (q : Place) → Even (effect_of Start t store k f octets place q (Some i))
    unfolding effect_of
    start-even e place q =
        let mark = eqb-true p.mark 0 e in
        put-even (begun t.clock k f.heading (length octets)) 0 one 0 0 (rw (ne_eqb p.mark 1 (omega arith)) (nought own)) refl (nought own) (omega arith)

  unsegmented-even : (place : Option ℕ) (q : Place) (vacant : Option ℕ) → Even (effect_of Unsegmented t store k f octets place q vacant)
  unfolding effect_of
  unsegmented-even place q vacant = alone-even one refl

  lone-even : (cause : ℕ) (vacant : Option ℕ) → Even (effect_of (Broken cause) t store k f octets None free_place vacant)
  unfolding effect_of
  lone-even cause vacant = alone-even (pick w (0 + 1) (0 + length octets)) (omega (arith, pick_more w 0 0 (length octets), pick-none w))

  starts-even : (vacant : Option ℕ) → IsFirst is_free t.places vacant → not (is_at vacant) ≡ false → Even (effect_of Start t store k f octets None free_place vacant)
  starts-even (Some i) h e = start-even i h.0 h.1 None free_place
  starts-even None h e = absurd (true≢false e)

  -- every line
  segment-even : let line : Line = line_at t k f.heading (length octets) in
      (is_start line && not (is_at (lowest_free t.places))) ≡ false
      → Even (effect_of line t store k f octets (place_of k t.places) (place_at t.places (place_of k t.places)) (lowest_free t.places))
  segment-even = go (place_of k t.places) (place_is k t.places)
    where
      go : (place : Option ℕ) → IsFirst (holds k) t.places place
          → let q : Place = place_at t.places place in
          let line : Line = line_of (is_at place) q.remaining.0 q.octets f.heading (length octets) in
          (is_start line && not (is_at (lowest_free t.places))) ≡ false → Even (effect_of line t store k f octets place q (lowest_free t.places))
      go (Some i) h =
          let q : Place = get_or t.places i no_place in
          line-cases (λ (line : Line). (is_start line && not (is_at (lowest_free t.places))) ≡ false → Even (effect_of line t store k f octets (Some i) q (lowest_free t.places)))
          true q.remaining.0 q.octets f.heading (length octets)
          (λ a e. unsegmented-even (Some i) q (lowest_free t.places))
          (λ cause l s e. broken-even i h.0 h.1 cause (lowest_free t.places))
          (λ s o e. restart-even i h.0 h.1 (lowest_free t.places))
          (λ s o e. absurd (true≢false o))
          (λ s o l e. final-even i h.0 h.1 (lowest_free t.places))
          (λ s o l e. next-even i h.0 h.1 (lowest_free t.places))
      go None h =
          line-cases (λ (line : Line). (is_start line && not (is_at (lowest_free t.places))) ≡ false → Even (effect_of line t store k f octets None free_place (lowest_free t.places)))
          false 0 0 f.heading (length octets)
          (λ a e. unsegmented-even None free_place (lowest_free t.places))
          (λ cause l s e. lone-even cause (lowest_free t.places))
          (λ s o e. absurd (true≢false (sym o)))
          (λ s o e. starts-even (lowest_free t.places) (free-is t.places) e)
          (λ s o l e. absurd (true≢false (sym o)))
          (λ s o l e. absurd (true≢false (sym o)))

-- A SWEEP: what was held is what the losses count and what is held then
module _ (w : Bool) (b : ℕ) (test : Place → Bool) (opens : (p : Place) → test p ≡ true → is_open p ≡ true) (cause : ℕ) where
  swept-even : (ps : List Place) → held_by w b ps ≡ made_by w b (losses_by test cause ps) + held_by w b (map (freed_by test) ps)
  swept-even [] = omega arith
  swept-even (p ∷ ps) = go (test p) refl (swept-even ps)
    where
      go : (x : Bool) → test p ≡ x → held_by w b ps ≡ made_by w b (losses_by test cause ps) + held_by w b (map (freed_by test) ps)
          → held_by w b (p ∷ ps)
          ≡ made_by w b (map (loss_of cause) (if x then p ∷ those test ps else those test ps)) + held_by w b ((if x then free_place else p) ∷ map (freed_by test) ps)
      go true e rest =
          let mine : weight w b p ≡ (if eqb p.key.association b then pick w p.segments p.octets else 0) = rw (opens p e) in
          omega (arith, held_cons w b p ps, held_cons w b free_place (map (freed_by test) ps))
      go false e rest = omega (arith, held_cons w b p ps, held_cons w b p (map (freed_by test) ps))

-- THE LOG
taken-one : (w : Bool) (b : ℕ) (l : List Taken) (x : Taken) → taken_by w b (l ++ (x ∷ [])) ≡ taken_by w b l + (if eqb x.key.association b then pick w 1 (length x.segment.octets) else 0)
taken-one true b l x = segments-taken b l x
taken-one false b l x = octets-taken b l x

covered_one : (w : Bool) (kind b : ℕ) (cs : List Cover) (k : Cover)
    → covered_by w kind b (cs ++ (k ∷ [])) ≡ covered_by w kind b cs + (if is_billed kind b k then pick w (length k.segments) (length (joined k.segments)) else 0)
covered_one true kind b cs k = segments-covered kind b cs k
covered_one false kind b cs k = octets-covered kind b cs k

abbrev all_covered : Bool → ℕ → List Cover → ℕ
all_covered w b cs = covered_by w delivered b cs + covered_by w lost b cs

module _ (w : Bool) (b : ℕ) where
  cover_one : (cs : List Cover) (k : Cover) → Fair k → Kind k.made.kind
      → all_covered w b (cs ++ (k ∷ [])) ≡ all_covered w b cs + (if eqb k.made.key.association b then pick w k.made.segments k.made.octets else 0)
  cover_one cs k fair kind =
      go (eqb k.made.kind delivered) kind
      ∙ (λ j. all_covered w b cs + (if eqb k.made.key.association b then pick w (sym n.0 j) (sym n.1 j) else 0))
    where
      n : (k.made.segments ≡ length k.segments) × (k.made.octets ≡ length (joined k.segments))
      n = counts_of k k.segments fair

      go : (d : Bool) → k.made.kind ≡ (if d then delivered else lost)
          → all_covered w b (cs ++ (k ∷ []))
          ≡ all_covered w b cs + (if eqb k.made.key.association b then pick w (length k.segments) (length (joined k.segments)) else 0)
      go true e = omega (arith, rw (by_kind k b delivered _ e) at (covered_one w delivered b cs k), rw (by_kind k b lost _ e) at (covered_one w lost b cs k))
      go false e = omega (arith, rw (by_kind k b delivered _ e) at (covered_one w delivered b cs k), rw (by_kind k b lost _ e) at (covered_one w lost b cs k))

  covers-all : (cs : List Cover) (u : Key → List Segment) (rs : List Record) → All Fair (covers_of u rs) → All (λ (r : Record). Kind r.kind) rs
      → all_covered w b (cs ++ covers_of u rs) ≡ all_covered w b cs + made_by w b rs
  covers-all cs u [] f k = rw append-nil (omega arith)
  covers-all cs u (r ∷ rs) f k =
      let c : Cover = record { made = r; segments = u r.key } in
      let later : all_covered w b (cs ++ (c ∷ covers_of (filed u r.key []) rs)) ≡ all_covered w b (cs ++ (c ∷ [])) + made_by w b rs =
      rw append_assoc at (covers-all (cs ++ (c ∷ [])) (filed u r.key []) rs f.1 k.1) in
      omega (arith, cover_one cs c f.0 k.0)

  covers-in : (cs : List Cover) (restart : Bool) (u : Key → List Segment) (k : Key) (x : Segment) (rs : List Record) → All Fair (covers_in restart u k x rs)
      → All (λ (r : Record). Kind r.kind) rs → all_covered w b (cs ++ covers_in restart u k x rs) ≡ all_covered w b cs + made_by w b rs
  covers-in cs true u k x rs f g = covers-all cs u rs f g
  covers-in cs false u k x rs f g = covers-all cs (arrived u k x) rs f g

proper-kinds : (k : Key) (rs : List Record) → All (Proper k) (map ending_of rs) → All (λ (r : Record). Kind r.kind) rs
proper-kinds k [] p = tt
proper-kinds k (r ∷ rs) p = (p.0.0, proper-kinds k rs p.1)

lost-kinds : (cause : ℕ) (rs : List Record) → All (IsLost cause) rs → All (λ (r : Record). Kind r.kind) rs
lost-kinds cause [] p = tt
lost-kinds cause (r ∷ rs) p = (rw p.0.kind, lost-kinds cause rs p.1)

-- CALLS
abbrev Evens : List Place → Told → Type 0
Evens ps h = (w : Bool) (b : ℕ) → taken_by w b h.taken ≡ all_covered w b h.covered + held_by w b ps

record Balancing (st : State) (h : Told) : Type 0 where
  counting : Counting st h
  evens : Evens st.table.places h

abbrev EvensIn : State → Told → Type 0
EvensIn st h = Evens st.table.places h

takes : Took EvensIn
takes st h inv sums evens x e ruled fair w b =
    let s : List ℕ = x.parameter in
    let f : Fields = fields_of st.table.registry s in
    let k : Key = key_in h x.association s in
    let rs : List Record = (effect st h inv x).records in
    let good = arrived-good st.table st.store x.report x.association s (segment-accepted st.table st.summary st.store x.report x.association s e).0.own in
    let even = segment-even w b st.table st.store (key_of x.association s f) f (information_of s f) (vacant-left _ _ good.vacant) in
    let size : length (segment_in h s).octets ≡ length (information_of s f) = rw inv.agrees.registry in
    let one = taken-one w b h.taken (record { key = k; segment = segment_in h s })
    ∙ ap (λ (n : ℕ). taken_by w b h.taken + (if eqb x.association b then pick w 1 n else 0)) size in
    let kinds = proper-kinds k rs (rw ruled.ends (line-proper k (line_in h x.association s))) in
    omega (arith, evens w b, covers-in w b h.covered (is_restart (line_in h x.association s)) h.uncovered k (segment_in h s) rs fair kinds)

sweeps : Swept EvensIn
sweeps st h inv sums evens test opens cause clock time ticks fair w b =
    let rs : List Record = losses_by test cause st.table.places in
    let kinds = lost-kinds cause rs (losses-lost test cause st.table.places) in
    rw append-nil (omega (arith, evens w b, swept-even w b test opens cause st.table.places, covers-all w b h.covered h.uncovered rs fair kinds))

module _ (st : State) (h : Told) (i : Balancing st h) where
  -- a used row is an association's
  balanced : (row : ℕ) → row < 64 → is_used st.summary row ≡ true → Balanced st row
  balanced row h' u =
      let r = i.counting.counts in
      let mark = eqb-true (number_at st.summary 0 row) 1 u in
      let lt = marked st.summary _ h.taken h.covered r row h' (λ z. omega arith) in
      let a : ℕ = get_or (associations_from [] h.taken) row 0 in
      record {
        segments = rw (r.used 2 row (omega arith) lt, r.used 4 row (omega arith) lt, r.used 6 row (omega arith) lt, r.used 1 row (omega arith) lt) (i.evens true a);
        octets = rw (r.used 3 row (omega arith) lt, r.used 5 row (omega arith) lt, r.used 7 row (omega arith) lt, r.used 1 row (omega arith) lt) (i.evens false a);
      }

none_open : (w : Bool) (b : ℕ) → taken_by w b [] ≡ all_covered w b [] + held_by w b (replicate place_count free_place)
none_open true b = refl
none_open false b = refl

opened : (st : State) (h : Told) (x : Opening) → Balancing (step st (Opens x)).state (after h (seen_by ours st (Opens x)))
unfolding step after deeds_of
opened st h x =
    record {
      counting = counting-opened st h x;
      evens = opened-by (λ (o : Opened). (w : Bool) (b : ℕ) → taken_by w b [] ≡ all_covered w b [] + held_by w b o.table.places) x.registry x.timer x.time
          (λ e. none_open) (λ e. none_open);
    }

called : (st : State) (h : Told) → Balancing st h → (c : Call) → InRange c → is_opening c ≡ false → Balancing (step st c).state (after h (seen_by ours st c))
called st h i c r o =
    record {
      counting = counting-call st h i.counting c r o;
      evens = call_by EvensIn takes sweeps (λ st h e. e) st h i.counting.inv i.counting.sound i.evens c r o;
    }

pub balance : Balance ours
balance =
    meets (λ (h : Told) (x : Seen). (row : ℕ) → row < 64 → is_used x.left.summary row ≡ true → Balanced x.left row) Balancing
    (λ st h x r. let n = opened st h x in (balanced _ _ n, n))
    (λ st h i c r o. let n = called st h i c r o in (balanced _ _ n, n))
