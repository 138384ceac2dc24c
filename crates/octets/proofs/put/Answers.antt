use Rattle.std.proofs.Common.{refl, sym, arith}
use Rattle.std.proofs.Math.ListN.{length-set}
use Rattle.octets.proofs.Splice.{splice-nil, splice-more, splice-copied}
use Rattle.octets.proofs.put.Goals as goal

pub loop-i-init : goal.loop-i-init
loop-i-init c = (sym (splice-nil _ 0), refl)

pub loop-i-preserved : goal.loop-i-preserved
loop-i-preserved c =
    let l = c.loop-i in
    (splice-more _ _ _ 0 l.i l.i l.invariant.0 (omega arith) (omega arith), simp length-set l.invariant.1)

pub returns : goal.returns
returns c = splice-copied _ _ _ c.loop-i.i c.loop-i.invariant.0 (omega arith)
