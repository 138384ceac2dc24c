-- What the calls of C promise where an answer crosses as numbers. The other calls promise what the call beneath promises.
use Rattle.std.specs.Prelude.{ℕ, ◌≡◌, List}
use Rattle.rules.specs.Arrival.{arrival}
use Rattle.rules.specs.Delivery.{delivery}
use Rattle.rules.specs.declared.Table.{Table}
use Rattle.rules.specs.declared.Received.{Received}
use Rattle.host_numbers.specs.Crossing.{c_decision_of, decision_of, c_part_of, taken}
use Rattle.host_numbers.specs.declared.CDecision.{CDecision}
use Rattle.host.specs.declared.CReceived.{CReceived}
use Rattle.host_numbers.specs.declared.CPart.{CPart}

-- an answer as it crosses
abbrev pub crossing : Received → CReceived
crossing r = record { table = r.table; decision = c_decision_of r.decision; refusal = r.refusal; records = r.records; position = r.position; timeouts = r.timeouts }

pub record HostArrival (t : Table) (m store report : List ℕ) (time association : ℕ) (s : List ℕ) (answer : CReceived) (m' store' report' : List ℕ) : Type 0 where
  pub answered : answer ≡ crossing (arrival t m store report time association s).call.answer
  pub summed : m' ≡ (arrival t m store report time association s).summary
  pub stored : store' ≡ (arrival t m store report time association s).call.store
  pub reported : report' ≡ (arrival t m store report time association s).call.report

-- the part that the host takes is the delivery
pub record HostDelivery (o : CDecision) (s store : List ℕ) (answer : CPart) : Type 0 where
  pub answered : answer ≡ c_part_of o s store
  pub delivered : taken answer s store ≡ delivery (decision_of o) s store
