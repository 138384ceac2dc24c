use Rattle.std.proofs.Common.{arith}
use Rattle.loopback.proofs.Owned.{owned}
use Rattle.demanded.proofs.Calls.{of-c-arrival}
use Rattle.demanded.proofs.c_arrival.Goals as goal

-- from the promises of the arrival and of the delivery beneath, and of owning the table
pub returns : goal.returns
returns c =
    of-c-arrival c.args.t c.args.m.now c.args.store.now c.args.report.now c.args.time c.args.association c.args.s.now _ _ _ _ (owned c.args.t c.well_formed.0) (omega arith) (omega arith)
    c.egrynnol_4_arrival-received.ensures c.egrynnol_4_delivery-part.ensures
