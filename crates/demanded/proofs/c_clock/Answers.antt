use Rattle.std.proofs.Common.{arith}
use Rattle.demanded.proofs.Calls.{of-clock}
use Rattle.demanded.proofs.c_clock.Goals as goal

-- from the promise of the clock beneath
pub returns : goal.returns
returns c = of-clock c.args.t c.args.m.now c.args.report.now c.args.time _ _ _ (omega arith) c.egrynnol_4_clock.ensures
