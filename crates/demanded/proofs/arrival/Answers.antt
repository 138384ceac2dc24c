use Rattle.std.proofs.Common.{arith}
use Rattle.demanded.proofs.Calls.{of-arrival}
use Rattle.demanded.proofs.arrival.Goals as goal

-- from the promise of the arrival beneath
pub returns : goal.returns
returns c =
    of-arrival c.args.t c.args.m.now c.args.store.now c.args.report.now c.args.time c.args.association c.args.s.now _ _ _ _ (omega arith) (omega arith) c.arrival.ensures
