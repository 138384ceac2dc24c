use Rattle.std.proofs.Common.{arith}
use Rattle.demanded.proofs.Calls.{of-release}
use Rattle.demanded.proofs.release.Goals as goal

-- from the promise of the release beneath
pub returns : goal.returns
returns c = of-release c.args.t c.args.m.now c.args.report.now c.args.association _ _ _ (omega arith) c.release.ensures
