use Rattle.std.proofs.Common.{arith}
use Rattle.demanded.proofs.Calls.{of-opening}
use Rattle.demanded.proofs.opening.Goals as goal

-- from the promise of the opening beneath
pub returns : goal.returns
returns c = of-opening c.args.registry.now c.args.timer c.args.clock _ _ (omega arith) c.opening.ensures
