use Rattle.std.proofs.Common.{arith}
use Rattle.sound_open.proofs.Filled.{in_three}
use Rattle.sound_open.proofs.zero_from.Goals as goal

pub returns : goal.returns
returns c =
    rw (c.zero_behind-third.ensures, c.zero_behind-second.ensures, c.zero_behind-first.ensures) (in_three c.args.a.now c.args.n (omega arith))
