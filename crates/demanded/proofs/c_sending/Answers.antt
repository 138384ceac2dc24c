use Rattle.demanded.proofs.Calls.{of-sending}
use Rattle.demanded.proofs.c_sending.Goals as goal

-- from the promise of the sending beneath
pub returns : goal.returns
returns c = of-sending c.args.t c.args.q c.args.origin.now c.args.destination.now c.args.whole.now c.args.area.now _ _ c.egrynnol_4_sending.ensures
