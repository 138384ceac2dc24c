use Rattle.sound_open.proofs.Digest.{SoFar}
use Rattle.sound_open.proofs.look_over.Given as goal

abbrev pub invariant-loop-p : goal.invariant-loop-p
invariant-loop-p l = SoFar l.registry l.timer l.clock l.places l.digests l.sound l.open l.p-index
