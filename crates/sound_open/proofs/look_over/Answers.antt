use Prim.Native.Nat.{◌≤◌}
use mathlib.Core.Path.{refl}
use borrow.Author.Tests.{eq-eqb, ne_eqb}
use lib.ListN.{length}
use native.Mathlib.Omega.{arith}
use Rattle.sound_open.proofs.Digest.{seen-open, seen_other, seen-sound, noted-all}
use Rattle.sound_open.proofs.look_over.Goals as goal

pub loop-p-init : goal.loop-p-init
loop-p-init c = record { each = refl; digested = record { told = refl; sixteen = refl }; few = omega arith; within = omega arith }
