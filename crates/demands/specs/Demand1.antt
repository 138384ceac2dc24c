-- DEMAND 1. Every call ends with an answer for every input. Bad input gets a numbered refusal, and a refused call changes neither the table nor any lent octet. Of an arrival that is refused
-- for its segment alone (document 02, A6), the segment changes nothing, and the call leaves and reports what the clock's call leaves and reports.
use Rattle.std.specs.Prelude.{if◌then◌else◌, ◌≡◌, false, []}
use Rattle.rules.specs.Refusals.{accepted, first, first_at}
use Rattle.rules.specs.Opening.{unopened}
use Rattle.rules.specs.Summary.{empty_summary}
use Rattle.rules.specs.Arrival.{stands}
use Rattle.rules.specs.Calls.{State, state_of, Call, Opens, Arrives, Ticks, Releases, Sends, to_tick, answering, Answer, refused_as, refusing, Outcome, step}
use Rattle.rules.specs.declared.Fault.{Fault}
use Rattle.demands.specs.Machine.{Machine, checks_of}
use Rattle.demands.specs.Seen.{Seen, seen_by}

-- a call as it is when it is refused: nothing but its number and position is answered (no record, no count, no length), every lent octet is as it was, and so is the state
abbrev pub unmoved : State → Call → Fault → Outcome
unmoved st c e = record { answer = refusing e c; state = st }

-- a refusal beside what another call did: its records, its report and the state that it left
abbrev pub beside_call : Call → Fault → Outcome → Outcome
beside_call c e o = record { answer = answering e o.answer.records o.answer.records (refused_as c) o.answer.lent; state = o.state }

-- what is left where a call is refused; of an opening, the unopened table and all 512 numbers of the summary zero
abbrev pub refused_outcome : State → Call → Fault → Outcome
refused_outcome st (Opens x) e = record { answer = refusing e (Opens x); state = state_of unopened empty_summary st.store }
refused_outcome st (Arrives x) e = if stands e.number then beside_call (Arrives x) e (step st (to_tick x.time x.report)) else unmoved st (Arrives x) e
refused_outcome st (Ticks x) e = unmoved st (Ticks x) e
refused_outcome st (Releases x) e = unmoved st (Releases x) e
refused_outcome st (Sends x) e = unmoved st (Sends x) e

-- an answer's refusal and position
abbrev pub fault_in : Answer → Fault
fault_in a = record { number = a.refusal; position = a.position }

-- .. and nothing is handed over
pub record Untouched (x : Seen) : Type 0 where
  pub state : x.left ≡ (refused_outcome x.before x.call (fault_in x.answer)).state
  pub answer : x.answer ≡ (refused_outcome x.before x.call (fault_in x.answer)).answer
  pub handed : x.handed ≡ []

-- the number is that of the first check in the paper's order that applies, and 0 exactly where none does; the position is that check's, and nowhere where none does
pub record Answered (x : Seen) : Type 0 where
  pub number : x.answer.refusal ≡ first (checks_of x.before x.call)
  pub position : x.answer.position ≡ first_at (checks_of x.before x.call)
  pub refused : accepted (checks_of x.before x.call) ≡ false → x.answer.refusal ≡ 0 → ⊥
  pub untouched : accepted (checks_of x.before x.call) ≡ false → Untouched x

pub record Demand1 (m : Machine) : Type 0 where
  pub every : (st : State) (c : Call) → Answered (seen_by m st c)
