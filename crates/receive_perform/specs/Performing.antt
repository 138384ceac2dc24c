-- What performing a verdict leaves of a store and a report area, and when that is what a rule leaves.
use Rattle.std.specs.Prelude.{ℕ, ◌+◌, ◌≤◌, ◌≡◌, List, [], ◌∷◌, set, Option, Some, None, IfSome}
use Rattle.octets.specs.Splice.{splice}
use Rattle.rules.specs.Numbers.{stretch_length, store_least}
use Rattle.rules.specs.Refusals.{unplaced}
use Rattle.rules.specs.Records.{records_octets}
use Rattle.rules.specs.Receiving.{save_at, record_with, Reception, with_places}
use Rattle.receive_perform.specs.declared.Told.{Told}
use Rattle.receive_perform.specs.declared.Verdict.{Verdict}
use Rattle.rules.specs.declared.Fault.{Fault}
use Rattle.rules.specs.declared.Key.{Key}
use Rattle.rules.specs.declared.Place.{Place}
use Rattle.rules.specs.declared.Table.{Table}
use Rattle.rules.specs.declared.Record.{Record}
use Rattle.rules.specs.declared.Decision.{Decision}
use Rattle.rules.specs.declared.Decision.TheVariants.{Refused}
use Rattle.rules.specs.declared.Received.{Received}

-- a verdict that writes nothing, and of these a refusal: the place stays as it is
abbrev pub quietly : Place → Decision → Option Fault → ℕ → Verdict
quietly put decision refused information =
    record { put = put; decision = decision; information = information; saves = None; told = None; refused = refused }

abbrev pub refused_with : Fault → Place → Verdict
refused_with x held = quietly held Refused (Some x) 0

-- the number and the position that are answered: of a refusal, or of none
abbrev pub fault_of : Option Fault → Fault
fault_of (Some x) = x
fault_of None = unplaced 0

-- the records of a verdict on a segment of a key: one or none
abbrev pub records_told : Option Told → Key → List Record
records_told (Some r) key = record_with r.kind r.cause key r.instruction r.segments r.octets ∷ []
records_told None key = []

abbrev pub records_in : Verdict → Key → List Record
records_in v key = records_told v.told key

-- how many they are
abbrev pub count_told : Option Told → ℕ
count_told (Some r) = 1
count_told None = 0

-- a store, and a report area, after a verdict was performed
abbrev pub saved_from : Option ℕ → ℕ → List ℕ → List ℕ → List ℕ
saved_from (Some from) place octets store = save_at store place from octets
saved_from None place octets store = store

abbrev pub saved_by : Verdict → ℕ → List ℕ → List ℕ → List ℕ
saved_by v place octets store = saved_from v.saves place octets store

abbrev pub told_by : Verdict → Key → List ℕ → List ℕ
told_by v key report = splice report 0 (records_octets (records_in v key))

-- what is saved has room in its place's stretch, and the store has that
abbrev pub Fits : Verdict → ℕ → ℕ → Type 0
Fits v store n = IfSome v.saves (λ from. (store_least ≤ store) × (from + n ≤ stretch_length))

-- the answer that a verdict makes of a table: one place changes
abbrev pub answer_of : Table → ℕ → Verdict → Received
answer_of t place v =
    record {
      table = with_places t (set t.places place v.put);
      decision = v.decision;
      position = (fault_of v.refused).position;
      refusal = (fault_of v.refused).number;
      records = count_told v.told;
      timeouts = 0;
    }

-- a verdict that, performed on a store and a report area, leaves what a rule does
pub record Leads (o : Reception) (t : Table) (place : ℕ) (key : Key) (v : Verdict) (octets store report : List ℕ) : Type 0 where
  pub answered : answer_of t place v ≡ o.answer
  pub stored : saved_by v place octets store ≡ o.store
  pub reported : told_by v key report ≡ o.report
  pub made : records_in v key ≡ o.made
