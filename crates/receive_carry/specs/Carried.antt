-- A line judged, by the one place that a segment is about: its key's, or where a new sequence goes.
use Rattle.std.specs.Prelude.{if◌then◌else◌, ℕ, ◌≤◌, ◌≡◌, Bool, List, get_or, Some, None}
use Rattle.rules.specs.Numbers.{data_most}
use Rattle.rules.specs.Places.{free_place, no_place}
use Rattle.rules.specs.Receiving.{open_place, effect_of, Reception, reception_of}
use Rattle.table.specs.Seeking.{place_in, open_in, is_found}
use Rattle.receive_perform.specs.Performing.{quietly}
use Rattle.receive_perform.specs.declared.Told.{Told}
use Rattle.receive_perform.specs.declared.Verdict.{Verdict}
use Rattle.receive_carry.specs.declared.judged.Judged.{Judged}
use Rattle.rules.specs.declared.Place.{Place}
use Rattle.rules.specs.declared.Table.{Table}
use Rattle.rules.specs.declared.Line.{Line}
use Rattle.rules.specs.declared.Decision.{Decision}

-- what was saved for the key, where it is open
abbrev pub held_if : Bool → Place → Place
held_if is_open held = if is_open then held else free_place

-- a table at the time of a judged segment, whose place holds what was judged
abbrev pub Holds : Table → Judged → Type 0
Holds t j = (t.clock ≡ j.clock) × (j.held ≡ get_or t.places (place_in j.search) no_place)

-- a line carried out at the place that the segment is about
unfoldable pub carried_at : Line → Table → List ℕ → List ℕ → Judged → List ℕ → Reception
carried_at line t store report j octets =
    reception_of t report (effect_of line t store j.key j.fields octets (open_in j.search) (held_if (is_found j.search) j.held) (Some (place_in j.search)))

-- a verdict that does not refuse, by where the information is; it saves nothing and has no record
abbrev pub taken_to : ℕ → Place → Decision → Verdict
taken_to information put decision = quietly put decision None information

-- .. one that saves, and one that has a record
abbrev pub saving_from : ℕ → Verdict → Verdict
saving_from from v = record v { saves = Some from }

abbrev pub told_of : ℕ → ℕ → ℕ → ℕ → ℕ → Told
told_of kind cause instruction segments octets =
    record { octets = octets; kind = kind; instruction = instruction; cause = cause; segments = segments }

abbrev pub telling_of : ℕ → ℕ → ℕ → ℕ → ℕ → Verdict → Verdict
telling_of kind cause instruction segments octets v = record v { told = Some (told_of kind cause instruction segments octets) }

-- the place of a sequence that begins with a segment of n octets
abbrev pub begun_by : Judged → ℕ → Place
begun_by j n = open_place j.key j.fields.heading.remaining j.fields.heading.instruction 1 n j.clock

-- what a place of a sound table holds
pub record Fit (p : Place) : Type 0 where
  pub octets : p.octets ≤ data_most
  pub segments : p.segments ≤ 9
