-- What a loopback does segment by segment: each is cut by the sender, and handed to the receiver as it is cut. The sender's table stays as it came.
use Rattle.std.specs.Prelude.{ℕ, zero, suc, ◌≡◌, List, [], take}
use Rattle.rules.specs.Receiving.{Reception}
use Rattle.rules.specs.Summary.{Counted}
use Rattle.rules.specs.Arrival.{arrival}
use Rattle.rules.specs.Sending.{Sending, sending}
use Rattle.rules.specs.Calls.{State, state_of, Lent, lending}
use Rattle.rules.specs.declared.Table.{Table}
use Rattle.rules.specs.declared.Request.{Request}
use Rattle.rules.specs.declared.Decision.{Decision}
use Rattle.rules.specs.declared.Decision.TheVariants.{Refused}
use Rattle.demands.specs.Demand2.{numbered}
use Rattle.loop_laps.specs.declared.Looped.{Looped}

-- what is asked for: the request but for the segment number, both addresses and the data, the table that both sides use, and the association that carries it
pub record Asked : Type 0 where
  pub table : Table
  pub request : Request
  pub association : ℕ
  pub origin : List ℕ
  pub destination : List ℕ
  pub whole : List ℕ

abbrev pub asked : Table → Request → ℕ → List ℕ → List ℕ → List ℕ → Asked
asked t q association o d whole = record { table = t; request = q; association = association; origin = o; destination = d; whole = whole }

-- what there is between two segments: the receiver's table, summary and store, the areas lent beside them, and of the last one its decision and its length
pub record Lap : Type 0 where
  pub state : State
  pub lent : Lent
  pub decision : Decision
  pub length : ℕ

-- segment k is cut, and received at the table's own time
abbrev pub lap : Asked → ℕ → Lap → Lap
lap x k l =
    let o : Sending = sending x.table (numbered x.request k) x.origin x.destination x.whole l.lent.area in
    let r : Counted Reception
    = arrival l.state.table l.state.summary l.state.store l.lent.report l.state.table.clock x.association (take o.answer.length o.area) in
    record {
      state = state_of r.call.answer.table r.summary r.call.store;
      lent = lending r.call.report o.area;
      decision = r.call.answer.decision;
      length = o.answer.length;
    }

-- n segments from segment k on
unfoldable pub laps : ℕ → ℕ → Asked → Lap → Lap
laps zero k x l = l
laps (suc n) k x l = laps n (suc k) x (lap x k l)

abbrev pub standing : State → Lent → Lap
standing st lent = record { state = st; lent = lent; decision = Refused; length = 0 }

-- a lap, and one segment's receipt, as the code answers them
abbrev pub lap_of : Looped → List ℕ → List ℕ → Lent → Lap
lap_of l m store lent = record { state = state_of l.table m store; lent = lent; decision = l.decision; length = l.length }

pub record OfLap (want : Lap) (answer : Looped) (m' store' : List ℕ) (lent' : Lent) : Type 0 where
  pub lapped : lap_of answer m' store' lent' ≡ want
  pub number : answer.number ≡ 0

abbrev pub received : Reception → ℕ → Looped
received r n = record { table = r.answer.table; decision = r.answer.decision; length = n; number = 0 }

-- the area is only read here, so none is lent
pub record OfReceipt (want : Counted Reception) (n : ℕ) (answer : Looped) (m' store' : List ℕ) (lent' : Lent) : Type 0 where
  pub answered : answer ≡ received want.call n
  pub summed : m' ≡ want.summary
  pub stored : store' ≡ want.call.store
  pub lent : lent' ≡ lending want.call.report []
