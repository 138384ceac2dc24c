use Rattle.receive_seek.proofs.Address.{address_is}
use Rattle.receive_seek.proofs.address_at.Goals as goal

pub returns : goal.returns
returns c = address_is _ c.args.a _ _ c.requires (rw c.from.ensures at c.part.ensures) c.put.ensures
