-- Section 'Receiving', the clock and the release: both lose every sequence that a test is for, in place order.
use Rattle.std.specs.Prelude.{if◌then◌else◌, ℕ, ◌-◌, ◌*◌, ◌^◌, Bool, not, ◌&&◌, List, [], ◌∷◌, ◌++◌, map, eqb, leb, length}
use Rattle.octets.specs.Splice.{splice}
use Rattle.rules.specs.General.{those}
use Rattle.rules.specs.Numbers.{place_count, elapsed}
use Rattle.rules.specs.Refusals.{Check, ◌when◌, ◌for◌over◌, ◌for◌under◌}
use Rattle.rules.specs.Records.{record_length, records_octets, lost}
use Rattle.rules.specs.Places.{is_open, free_place}
use Rattle.rules.specs.Soundness.{sound}
use Rattle.rules.specs.declared.Place.{Place}
use Rattle.rules.specs.declared.Table.{Table}
use Rattle.rules.specs.declared.Record.{Record}
use Rattle.rules.specs.declared.Swept.{Swept}

-- a sequence's loss, all that was saved
abbrev pub loss_of : ℕ → Place → Record
loss_of cause p =
    record { key = p.key; octets = p.octets; kind = lost; instruction = p.instruction; cause = cause; segments = p.segments }

-- the records of those that a test is for, in place order
abbrev pub losses_by : (Place → Bool) → ℕ → List Place → List Record
losses_by test cause ps = map (loss_of cause) (those test ps)

abbrev pub freed_by : (Place → Bool) → Place → Place
freed_by test p = if test p then free_place else p

-- what a call leaves: its answer and the report area; and the records that it made
pub record Sweeping : Type 0 where
  pub answer : Swept
  pub report : List ℕ
  pub made : List Record

-- the places that the test is for, lost at a time
unfoldable pub sweep : (Place → Bool) → ℕ → ℕ → Table → List ℕ → Sweeping
sweep test cause time t report =
    let records : List Record = losses_by test cause t.places in
    record {
      answer = record {
        table = record { places = map (freed_by test) t.places; registry = t.registry; timer = t.timer; clock = time };
        refusal = 0;
        records = length records;
      };
      report = splice report 0 (records_octets records);
      made = records;
    }

-- a report area holds a record of every place
abbrev pub report_least : ℕ
report_least = place_count * record_length

abbrev pub unswept : Table → List ℕ → ℕ → Sweeping
unswept t report n = record { answer = record { table = t; refusal = n; records = 0 }; report = report; made = [] }

-- every sequence whose age is T or more
abbrev pub is_due : ℕ → ℕ → Place → Bool
is_due time timer p = is_open p && leb timer (elapsed time p.start)

-- the table and the report area, by its length
abbrev pub sweep_checks : Bool → ℕ → List Check
sweep_checks sound report =
    1 when not sound ∷
    3 for report under report_least ∷ []

-- a step of 2^31 or more is refused
abbrev pub step_checks : ℕ → ℕ → List Check
step_checks time clock =
    13 for elapsed time clock over (2 ^ 31 - 1) ∷ []

-- Clock: 1, 3, 13, and the summary's: Summary
unfoldable pub clock_checks : Table → List ℕ → ℕ → List Check
clock_checks t report time = sweep_checks (sound t) (length report) ++ step_checks time t.clock

-- the time is stored and every sequence whose age is T or more gives Lost, cause 6
abbrev pub clock_sweep : Table → List ℕ → ℕ → Sweeping
clock_sweep t report time = sweep (is_due time t.timer) 6 time t report

-- every sequence of the association
abbrev pub is_of : ℕ → Place → Bool
is_of association p = is_open p && eqb p.key.association association

-- Release: 1, 3, and the summary's: Summary
unfoldable pub release_checks : Table → List ℕ → List Check
release_checks t report = sweep_checks (sound t) (length report)

-- every sequence of the association gives Lost, cause 7
abbrev pub release_sweep : Table → List ℕ → ℕ → Sweeping
release_sweep t report association = sweep (is_of association) 7 t.clock t report
