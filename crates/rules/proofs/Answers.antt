-- What holds of a call that is carried out and of one that is refused holds of the call.
use Prim.Native.Nat.{ℕ}
use mathlib.Core.Path.{◌≡◌}
use mathlib.Core.Bool.{Bool, true, false, not}
use mathlib.Core.List.{List, [], ◌∷◌, ◌++◌}
use borrow.Author.Tests.{not-false}
use Rattle.rules.specs.Refusals.{Check, ◌when◌, accepted, first, fault, judged}
use Rattle.rules.specs.Registry.{entries_of}
use Rattle.rules.specs.Places.{is_at}
use Rattle.rules.specs.Opening.{empty_table, unopened_by, opening_checks, opening}
use Rattle.rules.specs.Receiving.{Reception, received_at, segment_checks, unreceived}
use Rattle.rules.specs.Sweep.{Sweeping, unswept, clock_checks, release_checks}
use Rattle.rules.specs.Summary.{Counted, counting, summary_sound, row_for, fits, summary_checks, row_checks, total_checks}
use Rattle.rules.specs.Summary.{segment_sums, segment_checks_with, segment_with, sweep_sums, clock_checks_with, clock_with, release_checks_with, release_with}
use Rattle.rules.specs.Sweep.{clock_sweep, release_sweep}
use Rattle.rules.specs.declared.Place.{Place}
use Rattle.rules.specs.declared.Table.{Table}
use Rattle.rules.specs.declared.Opened.{Opened}
use Rattle.rules.proofs.Refusals.{judged-by, fault-by, accepted-both, accepted-one}

pub opened-by : (P : Opened → Type 0) (registry : List ℕ) (timer time : ℕ)
    → (accepted (opening_checks registry timer) ≡ true → P (record { table = empty_table (entries_of registry) timer time; refusal = 0 }))
    → (accepted (opening_checks registry timer) ≡ false → P (unopened_by (first (opening_checks registry timer)))) → P (opening registry timer time)
unfolding opening
opened-by P registry timer time carried refused = judged-by P (opening_checks registry timer) unopened_by _ carried refused

-- a segment, with the summary
module _ (t : Table) (m store report : List ℕ) (association : ℕ) (s : List ℕ) where
  abbrev checks : List Check
  checks = segment_checks_with t m store report association s

  pub segment-with : (P : Counted Reception → Type 0)
      → (accepted checks ≡ true → P (counting (segment_sums t m store report association s) (received_at t store report association s)))
      → (accepted checks ≡ false → P (counting m (unreceived t store report (fault checks)))) → P (segment_with t m store report association s)
  unfolding segment_with
  segment-with P carried refused = fault-by P checks (λ x. counting m (unreceived t store report x)) _ carried refused

  pub segment-by : (P : Reception → Type 0) → (accepted checks ≡ true → P (received_at t store report association s))
      → (accepted checks ≡ false → P (unreceived t store report (fault checks))) → P (segment_with t m store report association s).call
  segment-by P carried refused = segment-with (λ (o : Counted Reception). P o.call) carried refused

-- the clock and the release, with the summary
module _ (t : Table) (m report : List ℕ) where
  swept-with : (cs : List Check) (o : Sweeping) (P : Counted Sweeping → Type 0)
      → (accepted cs ≡ true → P (counting (sweep_sums m o) o)) → (accepted cs ≡ false → P (counting m (unswept t report (first cs))))
      → P (judged cs (λ n. counting m (unswept t report n)) (counting (sweep_sums m o) o))
  swept-with cs o P carried refused = judged-by P cs (λ n. counting m (unswept t report n)) _ carried refused

  pub clock-with : (time : ℕ) (P : Counted Sweeping → Type 0)
      → (accepted (clock_checks_with t m report time) ≡ true → P (counting (sweep_sums m (clock_sweep t report time)) (clock_sweep t report time)))
      → (accepted (clock_checks_with t m report time) ≡ false → P (counting m (unswept t report (first (clock_checks_with t m report time))))) → P (clock_with t m report time)
  unfolding clock_with clock_checks_with
  clock-with time P carried refused = swept-with (clock_checks_with t m report time) (clock_sweep t report time) P carried refused

  pub clock-by : (time : ℕ) (P : Sweeping → Type 0) → (accepted (clock_checks_with t m report time) ≡ true → P (clock_sweep t report time))
      → (accepted (clock_checks_with t m report time) ≡ false → P (unswept t report (first (clock_checks_with t m report time)))) → P (clock_with t m report time).call
  clock-by time P carried refused = clock-with time (λ (o : Counted Sweeping). P o.call) carried refused

  pub release-with : (association : ℕ) (P : Counted Sweeping → Type 0)
      → (accepted (release_checks_with t m report association) ≡ true → P (counting (sweep_sums m (release_sweep t report association)) (release_sweep t report association)))
      → (accepted (release_checks_with t m report association) ≡ false → P (counting m (unswept t report (first (release_checks_with t m report association)))))
      → P (release_with t m report association)
  unfolding release_with release_checks_with
  release-with association P carried refused = swept-with (release_checks_with t m report association) (release_sweep t report association) P carried refused

  pub release-by : (association : ℕ) (P : Sweeping → Type 0) → (accepted (release_checks_with t m report association) ≡ true → P (release_sweep t report association))
      → (accepted (release_checks_with t m report association) ≡ false → P (unswept t report (first (release_checks_with t m report association))))
      → P (release_with t m report association).call
  release-by association P carried refused = release-with association (λ (o : Counted Sweeping). P o.call) carried refused

-- what is left where none of a call's checks applies: the summary is sound, none of the table's own applies, there is a row, and every total has room
pub holds_not : (b : Bool) (n : ℕ) → accepted ((n when not b) ∷ []) ≡ true → b ≡ true
holds_not b n e = not-false b (accepted-one (n when not b) e)

pub record Accepted (m : List ℕ) (ps : List Place) (checks : List Check) (m' : List ℕ) : Type 0 where
  pub sound : summary_sound m ps ≡ true
  pub own : accepted checks ≡ true
  pub room : fits m m' ≡ true

pub record Seated (m : List ℕ) (association : ℕ) : Type 0 where
  pub row : is_at (row_for m association) ≡ true

pub segment-accepted : (t : Table) (m store report : List ℕ) (association : ℕ) (s : List ℕ) → accepted (segment_checks_with t m store report association s) ≡ true
    → Accepted m t.places (segment_checks t store report association s) (segment_sums t m store report association s) × Seated m association
unfolding segment_checks_with
segment-accepted t m store report association s e =
    let room : List Check = total_checks m (segment_sums t m store report association s) in
    let rows : List Check = row_checks m association ++ room in
    let one = accepted-both (summary_checks m t.places) (segment_checks t store report association s ++ rows) e in
    let own = accepted-both (segment_checks t store report association s) rows one.1 in
    let row = accepted-both (row_checks m association) room own.1 in
    (record { sound = holds_not _ 1 one.0; own = own.0; room = holds_not _ 22 row.1 }, record { row = holds_not _ 21 row.0 })

swept-accepted : (m : List ℕ) (ps : List Place) (own : List Check) (m' : List ℕ) → accepted (summary_checks m ps ++ (own ++ total_checks m m')) ≡ true → Accepted m ps own m'
swept-accepted m ps own m' e =
    let one = accepted-both (summary_checks m ps) (own ++ total_checks m m') e in
    let two = accepted-both own (total_checks m m') one.1 in
    record { sound = holds_not _ 1 one.0; own = two.0; room = holds_not _ 22 two.1 }

pub clock-accepted : (t : Table) (m report : List ℕ) (time : ℕ) → accepted (clock_checks_with t m report time) ≡ true
    → Accepted m t.places (clock_checks t report time) (sweep_sums m (clock_sweep t report time))
unfolding clock_checks_with
clock-accepted t m report time e = swept-accepted m t.places (clock_checks t report time) _ e

pub release-accepted : (t : Table) (m report : List ℕ) (association : ℕ) → accepted (release_checks_with t m report association) ≡ true
    → Accepted m t.places (release_checks t report) (sweep_sums m (release_sweep t report association))
unfolding release_checks_with
release-accepted t m report association e = swept-accepted m t.places (release_checks t report) _ e
