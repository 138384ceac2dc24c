use Rattle.std.specs.Prelude.{◌≡◌, ◌&&◌, eqb, drop}
use Rattle.rules.specs.General.{every}
use Rattle.sound_free.specs.Idle.{sound_if_idle}
use Rattle.sound_free.proofs.idle_weights.Given as goal

abbrev pub invariant-loop-p : goal.invariant-loop-p
invariant-loop-p l = every sound_if_idle l.places ≡ (eqb l.sum 0 && every sound_if_idle (drop l.p-index l.places))
