-- What answers calls: any machine, and the one that the rules are.
use Rattle.std.specs.Prelude.{ℕ, ◌<◌, ◌^◌, ◌≡◌, Bool, true, false, List, [], ◌∷◌, ◌++◌, length}
use Rattle.rules.specs.Numbers.{place_count}
use Rattle.rules.specs.Records.{FilledKey}
use Rattle.rules.specs.Refusals.{Check, accepted}
use Rattle.rules.specs.Delivery.{delivery}
use Rattle.rules.specs.Opening.{opening_checks}
use Rattle.rules.specs.Sweep.{Sweeping}
use Rattle.rules.specs.Summary.{Counted, summary_length, summary_sound, row_checks, clock_checks_with, release_checks_with}
use Rattle.rules.specs.Arrival.{clock_work, table_after, whole_checks, both_checks, arrival_checks}
use Rattle.rules.specs.Sending.{sending_checks}
use Rattle.rules.specs.Calls.{State, state_of, Arrival, Call, Opens, Arrives, Ticks, Releases, Sends, Outcome, step}
use Rattle.rules.specs.declared.Place.{Place}
use Rattle.rules.specs.declared.Table.{Table}
use Rattle.rules.specs.declared.Decision.{Decision}

-- a step for every call, and the delivery that is asked for with a decision, a parameter and a store
pub record Machine : Type 0 where
  pub step : State → Call → Outcome
  pub deliver : Decision → List ℕ → List ℕ → List ℕ

abbrev pub ours : Machine
ours = record { step = step; deliver = delivery }

-- the checks of a call, in the paper's order
abbrev pub checks_of : State → Call → List Check
checks_of st (Opens x) = opening_checks x.registry x.timer
checks_of st (Arrives x) = arrival_checks st.table st.summary st.store x.report x.time x.association x.parameter
checks_of st (Ticks x) = clock_checks_with st.table st.summary x.report x.time
checks_of st (Releases x) = release_checks_with st.table st.summary x.report x.association
checks_of st (Sends x) = sending_checks st.table x.request x.origin x.destination x.whole x.area

-- an arrival's clock work, the state that it leaves, and the checks of the whole: where they accept, the time is accepted and that work is done
abbrev pub clock_of : State → Arrival → Counted Sweeping
clock_of st x = clock_work st.table st.summary x.report x.time

abbrev pub clocked_by : State → Arrival → State
clocked_by st x = state_of (table_after (clock_of st x)) (clock_of st x).summary st.store

abbrev pub whole_of : State → Arrival → List Check
whole_of st x = whole_checks st.table st.summary st.store x.report x.time

-- the last checks of an arrival: 21 and 22, of its segment
abbrev pub counting_checks : State → Call → List Check
counting_checks st (Opens x) = []
counting_checks st (Arrives x) = row_checks (clock_of st x).summary x.association ++ both_checks (clock_of st x) st.store x.association x.parameter
counting_checks st (Ticks x) = []
counting_checks st (Releases x) = []
counting_checks st (Sends x) = []

-- neither applies: the summary can count it
abbrev pub CanCount : State → Call → Type 0
CanCount st c = accepted (counting_checks st c) ≡ true

-- the parameter that a call hands over
abbrev pub parameter_of : Call → List ℕ
parameter_of (Opens x) = []
parameter_of (Arrives x) = x.parameter
parameter_of (Ticks x) = []
parameter_of (Releases x) = []
parameter_of (Sends x) = []

abbrev pub is_opening : Call → Bool
is_opening (Opens x) = true
is_opening (Arrives x) = false
is_opening (Ticks x) = false
is_opening (Releases x) = false
is_opening (Sends x) = false

abbrev pub is_arrival : Call → Bool
is_arrival (Opens x) = false
is_arrival (Arrives x) = true
is_arrival (Ticks x) = false
is_arrival (Releases x) = false
is_arrival (Sends x) = false

-- a statement of every element of a list
abbrev pub All : {A : Type 0} → (A → Type 0) → List A → Type 0
All P [] = Unit {0}
All P (x ∷ l) = P x × All P l

-- what the types of a call's numbers say
abbrev pub InRange : Call → Type 0
InRange (Opens x) = x.time < 2 ^ 32
InRange (Arrives x) = (x.time < 2 ^ 32) × (x.association < 2 ^ 16)
InRange (Ticks x) = x.time < 2 ^ 32
InRange (Releases x) = x.association < 2 ^ 16
InRange (Sends x) = Unit {0}

-- what the types of a table's fields say: 16 places, each with addresses of 20 octets and an association of 16 bits
pub record TypedPlace (p : Place) : Type 0 where
  pub addresses : FilledKey p.key
  pub association : p.key.association < 2 ^ 16

pub record Typed (t : Table) : Type 0 where
  pub count : length t.places ≡ place_count
  pub each : All TypedPlace t.places

-- a summary of its type's length, sound beside the table's places
pub record SoundSummary (st : State) : Type 0 where
  pub size : length st.summary ≡ summary_length
  pub sound : summary_sound st.summary st.table.places ≡ true
