-- An answer that crosses.
use mathlib.Core.Path.{◌≡◌, ap}
use Rattle.rules.specs.declared.Received.{Received}
use Rattle.host_numbers.specs.declared.CDecision.{CDecision}
use Rattle.host_numbers.specs.Crossing.{c_decision_of}
use Rattle.host.specs.Promises.{crossing}

-- an answer crosses with its decision as numbers
pub crosses : (r want : Received) (o : CDecision) → r ≡ want → o ≡ c_decision_of r.decision
    → record { table = r.table; decision = o; refusal = r.refusal; records = r.records; position = r.position; timeouts = r.timeouts } ≡ crossing want
crosses r want o e f = rw f (ap crossing e)
