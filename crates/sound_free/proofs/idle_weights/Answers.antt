use Rattle.std.proofs.Common.{eqb, arith}
use Rattle.rules.specs.Places.{no_place}
use Rattle.rules.proofs.Along.{every-so-far}
use Rattle.rules.proofs.Nought.{or-nought}
use Rattle.sound_free.specs.Idle.{sound_if_idle}
use Rattle.sound_free.proofs.idle_weights.Goals as goal

pub loop-p-preserved : goal.loop-p-preserved
loop-p-preserved c =
    let l = c.loop-p in
    rw (or-nought l.sum c.idle_weight-sum.result)
    (every-so-far sound_if_idle c.args.places.now no_place l.p-index _ (eqb l.sum 0) l.invariant _ (omega arith) c.idle_weight-sum.ensures)
