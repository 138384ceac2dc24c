use mathlib.Core.Path.{sym}
use Rattle.octets.proofs.Splice.{splice-nil}
use Rattle.receive_perform.proofs.tell.Goals as goal

pub returns-in_default : goal.returns-in_default
returns-in_default c = rw c.in_default.is (sym (splice-nil _ 0))
