-- AN ARRIVAL IN ITS PARTS: the clock's work, and the segment's rule at what that leaves. What both keep an arrival keeps.
use mathlib.Core.Path.{◌≡◌, sym, ap, subst, ◌∙◌}
use mathlib.Core.Bool.{true, false, true≢false}
use mathlib.Core.List.{List, ◌++◌}
use native.Mathlib.Omega.{arith}
use borrow.Author.Tests.{le-ltb}
use lib.ListN.{length}
use Rattle.rules.specs.Numbers.{store_least}
use Rattle.rules.specs.Refusals.{Check, accepted, fault}
use Rattle.rules.specs.Records.{record_length}
use Rattle.rules.specs.Soundness.{sound}
use Rattle.rules.specs.Receiving.{Reception, lent_checks, own_checks, segment_checks, received_at, unreceived}
use Rattle.rules.specs.Sweep.{Sweeping}
use Rattle.rules.specs.Summary.{Counted, counting, summary_checks, row_checks, segment_sums, segment_checks_with, segment_with, clock_checks_with}
use Rattle.rules.specs.Arrival.{table_after, behind, part_checks, both_checks, arrival_checks, clocked_with, both_with}
use Rattle.rules.specs.Calls.{State, state_of, Arrival, Arrives, Tick, Ticks, Outcome, after_arrival, step}
use Rattle.rules.proofs.Refusals.{accepted-both, both-accepted}
use Rattle.rules.proofs.Arrival.{Whole, whole_parts, arrival-by, clock-accepts, clock-is, sound-after, summary-after}
use Rattle.demands.specs.Machine.{checks_of, clock_of, clocked_by, whole_of}

-- the clock's call with an arrival's time and report
abbrev pub tick_of : Arrival → Tick
tick_of x = record { time = x.time; report = x.report }

-- the segment's rule at a state, with the whole report lent
abbrev pub checks_at : State → Arrival → List Check
checks_at st x = segment_checks_with st.table st.summary st.store x.report x.association x.parameter

abbrev pub segment_at : State → Arrival → Counted Reception
segment_at st x = segment_with st.table st.summary st.store x.report x.association x.parameter

abbrev pub segmented : State → Arrival → Outcome
segmented st x = after_arrival (segment_at st x)

-- the segment's own checks, and its last
abbrev pub part_of : State → Arrival → List Check
part_of st x = part_checks (clock_of st x) x.association x.parameter

abbrev pub both_of : State → Arrival → List Check
both_of st x = both_checks (clock_of st x) st.store x.association x.parameter

-- what the segment's rule does where it accepts, with the report behind the clock's records lent
abbrev pub taken_by : State → Arrival → Counted Reception
taken_by st x =
    let w : Counted Sweeping = clock_of st x in
    counting (segment_sums (table_after w) w.summary st.store (behind w) x.association x.parameter) (received_at (table_after w) st.store (behind w) x.association x.parameter)

module _ (st : State) (x : Arrival) where
  abbrev parts : accepted (whole_of st x) ≡ true → Whole st.table st.summary st.store x.report x.time x.association x.parameter
  parts e = whole_parts st.table st.summary st.store x.report x.time x.association x.parameter e

  -- the clock's work is its call's
  pub clocked-is : accepted (whole_of st x) ≡ true → (step st (Ticks (tick_of x))).state ≡ clocked_by st x
  unfolding step
  clocked-is e =
      ap (λ (o : Counted Sweeping). state_of o.call.answer.table o.summary st.store)
      (clock-is st.table st.summary st.store x.report x.time x.association x.parameter e)

  pub clock-allowed : accepted (whole_of st x) ≡ true → accepted (clock_checks_with st.table st.summary x.report x.time) ≡ true
  clock-allowed e = clock-accepts st.table st.summary st.store x.report x.time x.association x.parameter e

  -- where all is accepted, the segment's rule accepts at what the clock's work leaves
  pub second-accepted : accepted (whole_of st x) ≡ true → accepted (part_of st x) ≡ true → accepted (both_of st x) ≡ true → accepted (checks_at (clocked_by st x) x) ≡ true
  unfolding segment_checks_with segment_checks part_checks both_checks segment_sums
  second-accepted e f g =
      let w : Counted Sweeping = clock_of st x in
      let own : List Check = own_checks (table_after w) x.association x.parameter in
      let rows : List Check = row_checks w.summary x.association in
      let lent : List Check = lent_checks record_length (sound (table_after w)) (length st.store) (length x.report) in
      let two = accepted-both own rows f in
      let long = (parts e).reports in
      let good = sound-after st.table st.summary st.store x.report x.time x.association x.parameter e in
      let seats = summary-after st.table st.summary st.store x.report x.time x.association x.parameter e in
      let first : accepted (summary_checks w.summary (table_after w).places) ≡ true = rw seats in
      let areas : accepted lent ≡ true = rw (good, le-ltb (length st.store) store_least (parts e).stores, le-ltb (length x.report) record_length (omega arith)) in
      both-accepted (summary_checks w.summary (table_after w).places) ((lent ++ own) ++ (rows ++ both_of st x)) first
      (both-accepted (lent ++ own) (rows ++ both_of st x) (both-accepted lent own areas two.0) (both-accepted rows (both_of st x) two.1 g))

  segmented-is : accepted (whole_of st x) ≡ true → accepted (part_of st x) ≡ true → accepted (both_of st x) ≡ true
      → (segmented (clocked_by st x) x).state
      ≡ state_of (received_at (clocked_by st x).table st.store x.report x.association x.parameter).answer.table (segment_sums (clocked_by st x).table (clocked_by st x).summary st.store x.report x.association x.parameter)
      (received_at (clocked_by st x).table st.store x.report x.association x.parameter).store
  unfolding segment_with
  segmented-is e f g = rw (second-accepted e f g)

  -- all three lists accept where the checks of the call do
  pub three-accepted : accepted (checks_of st (Arrives x)) ≡ true → (accepted (whole_of st x) ≡ true) × ((accepted (part_of st x) ≡ true) × (accepted (both_of st x) ≡ true))
  unfolding arrival_checks
  three-accepted e = let one = accepted-both (whole_of st x) (part_of st x ++ both_of st x) e in (one.0, accepted-both (part_of st x) (both_of st x) one.1)

  -- the answer and the state, by the list that refuses; what refuses is what the checks of the call say first
  pub arrival-cases : (P : Outcome → Type 0) → (accepted (whole_of st x) ≡ false → P (after_arrival (counting st.summary (unreceived st.table st.store x.report (fault (whole_of st x))))))
      → (accepted (whole_of st x) ≡ true → accepted (part_of st x) ≡ false → P (after_arrival (clocked_with (clock_of st x) st.store (fault (part_of st x)))))
      → (accepted (whole_of st x) ≡ true → accepted (part_of st x) ≡ true → accepted (both_of st x) ≡ false
      → P (after_arrival (counting st.summary (unreceived st.table st.store x.report (fault (both_of st x))))))
      → (accepted (checks_of st (Arrives x)) ≡ true → accepted (whole_of st x) ≡ true → accepted (part_of st x) ≡ true → accepted (both_of st x) ≡ true → P (after_arrival (both_with (clock_of st x) (taken_by st x))))
      → P (step st (Arrives x))
  unfolding step arrival_checks
  arrival-cases P a b c d =
      arrival-by st.table st.summary st.store x.report x.time x.association x.parameter (λ (o : Counted Reception). P (after_arrival o)) a b c
      (λ e f g. d (both-accepted (whole_of st x) (part_of st x ++ both_of st x) e (both-accepted (part_of st x) (both_of st x) f g)) e f g)

  -- .. where none does
  pub arrival-done : (P : Outcome → Type 0) → accepted (checks_of st (Arrives x)) ≡ true → P (after_arrival (both_with (clock_of st x) (taken_by st x))) → P (step st (Arrives x))
  arrival-done P h d =
      let all = three-accepted h in
      arrival-cases P (λ e. absurd (true≢false (sym all.0 ∙ e))) (λ e f. absurd (true≢false (sym all.1.0 ∙ f))) (λ e f g. absurd (true≢false (sym all.1.1 ∙ g))) (λ a e f g. d)

  -- the state that an arrival leaves: as it was; what the clock's work leaves; what the segment leaves then
  pub arrival-spared : (P : State → Type 0) → P st → (accepted (whole_of st x) ≡ true → P (clocked_by st x))
      → (accepted (checks_of st (Arrives x)) ≡ true → accepted (whole_of st x) ≡ true → accepted (checks_at (clocked_by st x) x) ≡ true → P (segmented (clocked_by st x) x).state) → P (step st (Arrives x)).state
  unfolding segment_sums
  arrival-spared P stays clocks takes =
      arrival-cases (λ (o : Outcome). P o.state) (λ e. stays) (λ e f. clocks e) (λ e f g. stays)
      (λ a e f g. subst P (segmented-is e f g) (takes a e (second-accepted e f g)))

  pub arrival-state : (P : State → Type 0) → P st → (accepted (whole_of st x) ≡ true → P (clocked_by st x))
      → (accepted (whole_of st x) ≡ true → accepted (checks_at (clocked_by st x) x) ≡ true → P (segmented (clocked_by st x) x).state) → P (step st (Arrives x)).state
  arrival-state P stays clocks takes = arrival-spared P stays clocks (λ a e f. takes e f)
