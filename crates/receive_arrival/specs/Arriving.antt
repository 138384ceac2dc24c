-- The steps of an arrival.
use Rattle.std.specs.Prelude.{ℕ, ◌+◌, ◌-◌, ◌≤◌, ◌^◌, ◌≡◌, Bool, true, List, [], ◌∷◌, ◌++◌, length}
use Rattle.rules.specs.Numbers.{store_least}
use Rattle.rules.specs.Refusals.{Check, ◌for◌over◌, accepted}
use Rattle.rules.specs.Soundness.{sound}
use Rattle.rules.specs.Receiving.{lent_checks}
use Rattle.rules.specs.Sweep.{step_checks}
use Rattle.rules.specs.Summary.{summary_sound}
use Rattle.rules.specs.Arrival.{arrival_least}
use Rattle.rules.specs.declared.Table.{Table}
use Rattle.rules.specs.declared.Received.{Received}

-- what is judged before anything else, by the lengths of the areas and the step
abbrev pub area_checks : Bool → ℕ → ℕ → ℕ → List Check
area_checks sound store report step = lent_checks arrival_least sound store report ++ (13 for step over (2 ^ 31 - 1) ∷ [])

-- none of it applies
pub record Allowed (t : Table) (m store report : List ℕ) (time : ℕ) : Type 0 where
  pub table : sound t ≡ true
  pub summary : summary_sound m t.places ≡ true
  pub stores : store_least ≤ length store
  pub reports : arrival_least ≤ length report
  pub steps : accepted (step_checks time t.clock) ≡ true

-- a segment's answer, with records of the clock's before its own
abbrev pub beside_of : Received → ℕ → Received
beside_of r timeouts =
    record {
      table = r.table;
      decision = r.decision;
      position = r.position;
      refusal = r.refusal;
      records = timeouts + r.records;
      timeouts = timeouts;
    }
