-- Which calls there are, and what each does to the state that is handed on from call to call: the table, the summary and the lent store.
use Rattle.std.specs.Prelude.{ℕ, List, []}
use Rattle.rules.specs.Refusals.{nowhere, unplaced}
use Rattle.rules.specs.Receiving.{Reception}
use Rattle.rules.specs.Sweep.{Sweeping}
use Rattle.rules.specs.Opening.{opening}
use Rattle.rules.specs.Summary.{Counted, clock_with, release_with, empty_summary}
use Rattle.rules.specs.Arrival.{arrival}
use Rattle.rules.specs.Sending.{Sending, sending}
use Rattle.rules.specs.declared.Fault.{Fault}
use Rattle.rules.specs.declared.Table.{Table}
use Rattle.rules.specs.declared.Request.{Request}
use Rattle.rules.specs.declared.Opened.{Opened}
use Rattle.rules.specs.declared.Decision.{Decision}
use Rattle.rules.specs.declared.Decision.TheVariants.{Refused}

pub record State : Type 0 where
  pub table : Table
  pub summary : List ℕ
  pub store : List ℕ

abbrev pub state_of : Table → List ℕ → List ℕ → State
state_of t m store = record { table = t; summary = m; store = store }

-- what each call is given: its arguments, and the area that it lends beside the store
pub record Opening : Type 0 where
  pub registry : List ℕ
  pub timer : ℕ
  pub time : ℕ

pub record Arrival : Type 0 where
  pub time : ℕ
  pub association : ℕ
  pub parameter : List ℕ
  pub report : List ℕ

pub record Tick : Type 0 where
  pub time : ℕ
  pub report : List ℕ

pub record Release : Type 0 where
  pub association : ℕ
  pub report : List ℕ

pub record Dispatch : Type 0 where
  pub request : Request
  pub origin : List ℕ
  pub destination : List ℕ
  pub whole : List ℕ
  pub area : List ℕ

pub data Call : Type 0 where
  Opens : Opening → Call
  Arrives : Arrival → Call
  Ticks : Tick → Call
  Releases : Release → Call
  Sends : Dispatch → Call

-- the calls, each made in one place
abbrev pub to_open : List ℕ → ℕ → ℕ → Call
to_open registry timer time = Opens (record { registry = registry; timer = timer; time = time })

abbrev pub to_arrive : ℕ → ℕ → List ℕ → List ℕ → Call
to_arrive time association s report = Arrives (record { time = time; association = association; parameter = s; report = report })

abbrev pub to_tick : ℕ → List ℕ → Call
to_tick time report = Ticks (record { time = time; report = report })

abbrev pub to_release : ℕ → List ℕ → Call
to_release association report = Releases (record { association = association; report = report })

abbrev pub to_send : Request → List ℕ → List ℕ → List ℕ → List ℕ → Call
to_send q o d whole area = Sends (record { request = q; origin = o; destination = d; whole = whole; area = area })

-- the areas that are lent beside the store: for records, and for a segment that is sent; one that a call does not lend has no octets
pub record Lent : Type 0 where
  pub report : List ℕ
  pub area : List ℕ

abbrev pub lending : List ℕ → List ℕ → Lent
lending report area = record { report = report; area = area }

abbrev pub lent_of : Call → Lent
lent_of (Opens x) = lending [] []
lent_of (Arrives x) = lending x.report []
lent_of (Ticks x) = lending x.report []
lent_of (Releases x) = lending x.report []
lent_of (Sends x) = lending [] x.area

-- what a call decided: of an arrival, its segment's decision; no other call has one
pub data Decided : Type 0 where
  Undecided : Decided
  As : Decision → Decided

-- all that a call answers, with the areas after it; of an arrival's records, how many are the clock's: they stand first. What a call has no part in is 0, and its position nowhere
pub record Answer : Type 0 where
  pub refusal : ℕ
  pub position : ℕ
  pub records : ℕ
  pub timeouts : ℕ
  pub decided : Decided
  pub count : ℕ
  pub length : ℕ
  pub lent : Lent

abbrev pub answering : Fault → ℕ → ℕ → Decided → Lent → Answer
answering x records timeouts decided lent =
    record { refusal = x.number; position = x.position; records = records; timeouts = timeouts; decided = decided; count = 0; length = 0; lent = lent }

-- a refused call's: its number, and of an arrival that its segment is refused, and where
abbrev pub refused_as : Call → Decided
refused_as (Opens x) = Undecided
refused_as (Arrives x) = As Refused
refused_as (Ticks x) = Undecided
refused_as (Releases x) = Undecided
refused_as (Sends x) = Undecided

abbrev pub refusing : Fault → Call → Answer
refusing x c = answering x 0 0 (refused_as c) (lent_of c)

pub record Outcome : Type 0 where
  pub answer : Answer
  pub state : State

abbrev pub after_opening : List ℕ → Opened → Outcome
after_opening store o = record { answer = answering (unplaced o.refusal) 0 0 Undecided (lending [] []); state = state_of o.table empty_summary store }

abbrev pub after_arrival : Counted Reception → Outcome
after_arrival o =
    record {
      answer =
          answering (record { number = o.call.answer.refusal; position = o.call.answer.position }) o.call.answer.records o.call.answer.timeouts
          (As o.call.answer.decision) (lending o.call.report []);
      state = state_of o.call.answer.table o.summary o.call.store;
    }

abbrev pub after_sweep : List ℕ → Counted Sweeping → Outcome
after_sweep store o =
    record {
      answer = answering (unplaced o.call.answer.refusal) o.call.answer.records 0 Undecided (lending o.call.report []);
      state = state_of o.call.answer.table o.summary store;
    }

abbrev pub after_sending : State → Sending → Outcome
after_sending st o =
    record {
      answer = record { refusal = o.answer.refusal; position = nowhere; records = 0; timeouts = 0; decided = Undecided; count = o.answer.count; length = o.answer.length; lent = lending [] o.area };
      state = st;
    }

unfoldable pub step : State → Call → Outcome
step st (Opens x) = after_opening st.store (opening x.registry x.timer x.time)
step st (Arrives x) = after_arrival (arrival st.table st.summary st.store x.report x.time x.association x.parameter)
step st (Ticks x) = after_sweep st.store (clock_with st.table st.summary x.report x.time)
step st (Releases x) = after_sweep st.store (release_with st.table st.summary x.report x.association)
step st (Sends x) = after_sending st (sending st.table x.request x.origin x.destination x.whole x.area)
