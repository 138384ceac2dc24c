use Rattle.std.proofs.Common.{◌≡◌, arith}
use Rattle.sound_rows.proofs.first_used.Goals as goal

pub returns : goal.returns
returns c =
    let end : c.loop-i.i ≡ 64 = omega arith in
    (omega arith, rw end at c.loop-i.invariant)
