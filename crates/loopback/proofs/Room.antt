-- A segment adds little to any total, so that the summary can count each of a loopback's.
use Rattle.std.specs.Prelude.{Option, Some, None}
use Prim.Native.Nat.{ℕ, zero, suc, ◌+◌, ◌*◌, ◌-◌, ◌≤◌, ◌<◌, ◌^◌}
use mathlib.Core.Path.{◌≡◌, refl, sym, ap, subst, ◌∙◌}
use Rattle.std.specs.List.{list_all}
use mathlib.Core.Bool.{Bool, true, false, ◌&&◌, or-true, and-eq-true_iff, true≢false}
use mathlib.Core.List.{List, [], ◌∷◌, ◌++◌}
use native.Mathlib.Omega.{arith}
use borrow.Author.Tests.{eqb-true, eqb-false, leb-true, leb-false, le-leb, lt-leb}
use lib.Dec.{eqb, leb}
use lib.ListN.{length, drop, get_or, length-drop}
use Rattle.std.proofs.lemmas.List.{get_or-drop}
use Rattle.rules.specs.General.{every}
use Rattle.rules.specs.Numbers.{store_least}
use Rattle.rules.specs.Refusals.{accepted}
use Rattle.rules.specs.Layout.{fields_of}
use Rattle.rules.specs.Places.{no_place, is_open, is_at, place_of, place_at, lowest_free}
use Rattle.rules.specs.Soundness.{place_sound, sound}
use Rattle.rules.specs.Receiving.{Reception, key_of, information_of, effect_of, received_at}
use Rattle.rules.specs.Summary.{Counted, every_below, total_count, total_most, tally, seat, row_of, row_for, unused_row, or_else, took_at, took, column_of, bill_at, bill, billed, fits, row_checks, segment_sums, segment_checks_with}
use Rattle.rules.specs.Arrival.{arrival_least, both_checks}
use Rattle.rules.specs.Sweep.{Sweeping}
use Rattle.rules.specs.Calls.{State, Arrival, Arrives, state_of, after_arrival, step}
use Rattle.rules.specs.declared.Key.{Key}
use Rattle.rules.specs.declared.Entry.{Entry}
use Rattle.rules.specs.declared.Place.{Place}
use Rattle.rules.specs.declared.Table.{Table}
use Rattle.rules.specs.declared.Fields.{Fields}
use Rattle.rules.specs.declared.Record.{Record}
use Rattle.rules.specs.declared.Line.{Line}
use Rattle.rules.specs.declared.Line.TheVariants.{Unsegmented, Broken, Restart, Start, Final, Next}
use Rattle.rules.proofs.Below.{below_at, below-from, below-same}
use Rattle.rules.proofs.Rows.{total-count, row-of-within, row-for-within}
use Rattle.rules.proofs.Fitting.{tally-first, tally-second, tally-other, seat-totals, length-seat, length-took, column-within}
use Rattle.rules.proofs.Seats.{took-sound, billed-keeps}
use Rattle.rules.proofs.Answers.{segment-with}
use Rattle.rules.proofs.Sweeping.{none-due}
use Rattle.rules.proofs.Arrival.{quiet, quiet-work, own-whole, own-time}
use Rattle.rules.proofs.Held.{open_is, places-sound}
use Rattle.rules.proofs.Soundness.{open-parts, free-holds}
use Rattle.demands.specs.Machine.{clock_of, whole_of, All, SoundSummary, CanCount}
use Rattle.demands.proofs.Counted.{summary-kept}
use Rattle.demands.proofs.Sound.{kept as sound-kept}
use Rattle.loopback.specs.Loopback.{is_roomy}

-- HOW MUCH A NUMBER GROWS

tally-most : (m : List ℕ) (column row s o : ℕ) → length m ≡ 512 → column < 7 → row < 64 → (k : ℕ) → get_or (tally m column row s o) k 0 ≤ get_or m k 0 + s + o
tally-most m column row s o long hc hr k = go (eqb k (64 * column + row)) refl (eqb k (64 * (column + 1) + row)) refl
  where
    go : (x : Bool) → eqb k (64 * column + row) ≡ x → (y : Bool) → eqb k (64 * (column + 1) + row) ≡ y → get_or (tally m column row s o) k 0 ≤ get_or m k 0 + s + o
    go true e y f = let at : k ≡ 64 * column + row = eqb-true _ _ e in rw at (omega (arith, tally-first m column row s o long hc hr))
    go false e true f = let at : k ≡ 64 * (column + 1) + row = eqb-true _ _ f in rw at (omega (arith, tally-second m column row s o long hc hr))
    go false e false f = omega (arith, tally-other m column row s o k (eqb-false _ _ e) (eqb-false _ _ f))

took-most : (m : List ℕ) (a n : ℕ) → length m ≡ 512 → (k : ℕ) → get_or (took m a n) (128 + k) 0 ≤ get_or m (128 + k) 0 + 1 + n
took-most m a n long k = go (row_for m a) refl
  where
    go : (r : Option ℕ) → row_for m a ≡ r → get_or (took_at m r a n) (128 + k) 0 ≤ get_or m (128 + k) 0 + 1 + n
    go (Some row) e =
        let hr = row-for-within m a row e in
        omega (arith, seat-totals m row a hr k, tally-most (seat m row a) 2 row 1 n (length-seat m row a ∙ long) (omega arith) hr (128 + k))
    go None e = omega arith

bill-most : (m : List ℕ) (r : Record) → length m ≡ 512 → (k : ℕ) → get_or (bill m r) k 0 ≤ get_or m k 0 + r.segments + r.octets
bill-most m r long k = go (row_of m r.key.association) refl
  where
    go : (f : Option ℕ) → row_of m r.key.association ≡ f → get_or (bill_at m f r) k 0 ≤ get_or m k 0 + r.segments + r.octets
    go (Some row) e =
        tally-most m (column_of r.kind) row r.segments r.octets long (column-within r.kind).1 (row-of-within m r.key.association row e) k
    go None e = omega arith

-- WHAT A SEGMENT BILLS: no record, or one that counts little

abbrev Slight : List Record → Type 0
Slight [] = Unit {0}
Slight (r ∷ []) = (r.segments ≤ 11) × (r.octets ≤ 2303)
Slight (r ∷ r' ∷ rs) = ⊥

billed-most : (m : List ℕ) (rs : List Record) → length m ≡ 512 → Slight rs → (k : ℕ) → get_or (billed m rs) k 0 ≤ get_or m k 0 + 2314
billed-most m [] long s k = omega arith
billed-most m (r ∷ []) long s k = omega (arith, bill-most m r long k, s.0, s.1)
billed-most m (r ∷ r' ∷ rs) long s k = absurd s

-- what a place of a sound table holds
record Small (p : Place) : Type 0 where
  segments : p.segments ≤ 10
  octets : p.octets ≤ 2048

none-small : Small no_place
none-small = record { segments = omega arith; octets = omega arith }

module _ (registry : List Entry) (timer clock : ℕ) where
  place-small : (p : Place) → place_sound registry timer clock p ≡ true → Small p
  place-small p e = go (is_open p) refl
    where
      go : (b : Bool) → is_open p ≡ b → Small p
      go true o =
          let h = open-parts registry timer clock p (open_is registry timer clock p e o) in
          record { segments = omega (arith, h.count); octets = h.octets }
      go false o =
          let z = free-holds registry timer clock p e o in
          record { segments = omega (arith, z.1); octets = omega (arith, z.0) }

  places-small : (ps : List Place) → every (place_sound registry timer clock) ps ≡ true → (i : ℕ) → Small (get_or ps i no_place)
  places-small [] e i = none-small
  places-small (p ∷ ps) e zero = place-small p ((and-eq-true_iff (place_sound registry timer clock p) (every (place_sound registry timer clock) ps)).0 e).0
  places-small (p ∷ ps) e (suc i) = places-small ps ((and-eq-true_iff (place_sound registry timer clock p) (every (place_sound registry timer clock) ps)).0 e).1 i

found-small : (t : Table) → sound t ≡ true → (f : Option ℕ) → Small (place_at t.places f)
found-small t s (Some i) = places-small t.registry t.timer t.clock t.places (places-sound t s) i
found-small t s None = record { segments = omega arith; octets = omega arith }

effect-slight : (line : Line) (t : Table) (store : List ℕ) (key : Key) (f : Fields) (octets : List ℕ) (place : Option ℕ) (p : Place) (vacant : Option ℕ)
    → Small p → length octets ≤ 255 → Slight (effect_of line t store key f octets place p vacant).records
unfolding effect_of
effect-slight Unsegmented t store key f octets place p vacant h n = (omega arith, omega arith)
effect-slight (Broken cause) t store key f octets place p vacant h n = (omega (arith, h.segments), omega (arith, h.octets))
effect-slight Restart t store key f octets place p vacant h n = (omega (arith, h.segments), omega (arith, h.octets))
effect-slight Start t store key f octets place p vacant h n = tt
effect-slight Final t store key f octets place p vacant h n = (omega (arith, h.segments), omega (arith, h.octets))
effect-slight Next t store key f octets place p vacant h n = tt

-- A SEGMENT of at most 255 octets, at a sound table

sums-most : (t : Table) (m store report : List ℕ) (association : ℕ) (s : List ℕ) → sound t ≡ true → length m ≡ 512 → length s ≤ 255
    → (k : ℕ) → get_or (segment_sums t m store report association s) (128 + k) 0 ≤ get_or m (128 + k) 0 + 2570
unfolding segment_sums
sums-most t m store report association s good long short k =
    let f : Fields = fields_of t.registry s in
    let key : Key = key_of association s f in
    let place : Option ℕ = place_of key t.places in
    let n : ℕ = length (information_of s f) in
    let within : n ≤ 255 = omega (arith, length-drop f.information s) in
    let made : List Record = (received_at t store report association s).made in
    omega (
      arith,
      took-most m association n long k,
      billed-most (took m association n) made (length-took m association n ∙ long) (effect-slight _ t store key f (information_of s f) place _ (lowest_free t.places) (found-small t good place) within) (128 + k),
    )

-- .. that arrives at the table's own time
abbrev pub own_arrival : State → List ℕ → ℕ → List ℕ → Arrival
own_arrival st report association s = record { time = st.table.clock; association = association; parameter = s; report = report }

module _ (st : State) (report : List ℕ) (long : arrival_least ≤ length report) (association : ℕ) (s : List ℕ) where
  -- what holds of the segment's rule holds of it
  own-by : (P : State → Type 0) → (accepted (segment_checks_with st.table st.summary st.store report association s) ≡ true
      → P (state_of (received_at st.table st.store report association s).answer.table (segment_sums st.table st.summary st.store report association s) (received_at st.table st.store report association s).store))
      → P st → P (step st (Arrives (own_arrival st report association s))).state
  unfolding step
  own-by P taken refused =
      rw (own-time st.table st.summary st.store report association s long)
      (segment-with st.table st.summary st.store report association s (λ (o : Counted Reception). P (after_arrival o).state) taken (λ e. refused))

  after-most : sound st.table ≡ true → length st.summary ≡ 512 → length s ≤ 255
      → (k : ℕ) → get_or (step st (Arrives (own_arrival st report association s))).state.summary (128 + k) 0 ≤ get_or st.summary (128 + k) 0 + 2570
  after-most good size short k =
      own-by (λ (u : State). get_or u.summary (128 + k) 0 ≤ get_or st.summary (128 + k) 0 + 2570)
      (λ e. sums-most st.table st.summary st.store report association s good size short k) (omega arith)

  after-clock : (step st (Arrives (own_arrival st report association s))).state.table.clock ≡ st.table.clock
  after-clock = own-by (λ (u : State). u.table.clock ≡ st.table.clock) (λ e. refl) refl

  -- who has a row can count in it
  own_row : (m : List ℕ) → is_at (row_of m association) ≡ true → is_at (row_for m association) ≡ true
  own_row m e = go (row_of m association) e
    where
      go : (f : Option ℕ) → is_at f ≡ true → is_at (or_else f (unused_row m)) ≡ true
      go (Some i) h = refl
      go None h = absurd (true≢false (sym h))

  after-row : association < 2 ^ 16 → SoundSummary st → is_at (row_for st.summary association) ≡ true
      → is_at (row_for (step st (Arrives (own_arrival st report association s))).state.summary association) ≡ true
  unfolding segment_sums
  after-row small h row =
      let n : ℕ = length (information_of s (fields_of st.table.registry s)) in
      let one = took-sound st.summary st.table.places association n h.size small row h.sound in
      own-by (λ (u : State). is_at (row_for u.summary association) ≡ true)
      (λ e. own_row (billed (took st.summary association n) (received_at st.table st.store report association s).made)
      (billed-keeps (took st.summary association n) (received_at st.table st.store report association s).made st.table.places one.0 association one.1)) row

-- A LOOPBACK, after k of its segments: each adds at most 2,570 to a total

abbrev pub leaves : List ℕ → ℕ → Bool
leaves m k = leb (get_or m (128 + k) 0 + 65536) total_most

pub record Countable (association : ℕ) (m : List ℕ) (k : ℕ) (st : State) : Type 0 where
  pub table : sound st.table ≡ true
  pub clock : st.table.clock < 2 ^ 32
  pub summary : SoundSummary st
  pub row : is_at (row_for st.summary association) ≡ true
  pub totals : (i : ℕ) → get_or st.summary (128 + i) 0 ≤ get_or m (128 + i) 0 + 6000 * k

module _ (association : ℕ) (m : List ℕ) (k : ℕ) (st : State) (h : Countable association m k st) (s report : List ℕ) (short : length s ≤ 255) (long : arrival_least ≤ length report) where
  abbrev y : Arrival
  y = own_arrival st report association s

  pub counts-on : association < 2 ^ 16 → Countable association m (suc k) (step st (Arrives y)).state
  counts-on small =
      record {
        table = sound-kept st (Arrives y) refl h.table;
        clock = rw (after-clock st report long association s) h.clock;
        summary = summary-kept st (Arrives y) refl (h.clock, small) h.summary;
        row = after-row st report long association s small h.summary h.row;
        totals = λ i. omega (arith, h.totals i, after-most st report long association s h.table h.summary.size short i);
      }

  -- its clock work is none
  still : clock_of st y ≡ quiet st.table st.summary report st.table.clock
  still = quiet-work st.table st.summary report st.table.clock (none-due st.table h.table)

  pub timely : store_least ≤ length st.store → accepted (whole_of st y) ≡ true
  timely stores = own-whole st.table st.summary st.store report association s long h.table h.summary.sound stores

  pub silent : (P : Record → Type 0) → All P (clock_of st y).call.made
  silent P = subst (All P) (sym (ap (λ (w : Counted Sweeping). w.call.made) still)) tt

  pub can-count : is_roomy m ≡ true → k < 10 → CanCount st (Arrives y)
  unfolding is_roomy fits both_checks
  can-count roomy few =
      let sums : List ℕ = segment_sums st.table st.summary st.store report association s in
      let room : fits st.summary sums ≡ true
      = below-from _ total_count
      (λ i l.
      let start = leb-true (get_or m (128 + i) 0 + 65536) total_most (below_at (leaves m) total_count roomy i l) in
      let most = sums-most st.table st.summary st.store report association s h.table h.summary.size short i in
      rw (le-leb (get_or sums (128 + i) 0) total_most (omega (arith, h.totals i))) (or-true (eqb (get_or sums (128 + i) 0) (get_or st.summary (128 + i) 0)))) in
      subst (λ (w : Counted Sweeping). accepted (row_checks w.summary association ++ both_checks w st.store association s) ≡ true) (sym still) (rw (h.row, room))

-- ROOM, as the code asks for it: of all the numbers of the columns of totals, and without a sum, which might not fit 64 bits

-- a test of each number below a limit, from the first on
below-front : (f : ℕ → Bool) (n : ℕ) → every_below (suc n) f ≡ (f 0 && every_below n (λ k. f (suc k)))
below-front f zero = refl
below-front f (suc n) = rw (below-front f n) (go (f (suc n)) (f 0) (every_below n (λ k. f (suc k))))
  where
    go : (a b c : Bool) → (a && (b && c)) ≡ (b && (a && c))
    go true b c = refl
    go false true c = refl
    go false false c = refl

below-all : (test : ℕ → Bool) (xs : List ℕ) → list_all test xs ≡ every_below (length xs) (λ k. test (get_or xs k 0))
below-all test [] = refl
below-all test (x ∷ xs) = rw (below-all test xs) (sym (below-front (λ k. test (get_or (x ∷ xs) k 0)) (length xs)))

without-sum : (n : ℕ) → leb n (total_most - 65536) ≡ leb (n + 65536) total_most
without-sum n = go (leb n (total_most - 65536)) refl
  where
    go : (b : Bool) → leb n (total_most - 65536) ≡ b → b ≡ leb (n + 65536) total_most
    go true e = sym (le-leb (n + 65536) total_most (omega (arith, leb-true n (total_most - 65536) e)))
    go false e = sym (lt-leb (n + 65536) total_most (omega (arith, leb-false n (total_most - 65536) e)))

pub all-roomy : (m : List ℕ) → length m ≡ 512 → list_all (λ n. leb n (total_most - 65536)) (drop 128 m) ≡ is_roomy m
unfolding is_roomy
all-roomy m long =
    let count : length (drop 128 m) ≡ total_count = omega (arith, total-count, length-drop 128 m) in
    below-all (λ n. leb n (total_most - 65536)) (drop 128 m)
    ∙ rw count
    (below-same (λ k. leb (get_or (drop 128 m) k 0) (total_most - 65536)) (leaves m) total_count
    (λ k h. rw (get_or-drop 128 m k 0) (without-sum (get_or m (128 + k) 0))))
