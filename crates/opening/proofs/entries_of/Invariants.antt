use Prim.Native.Nat.{◌*◌}
use mathlib.Core.Path.{◌≡◌}
use lib.ListN.{length, drop}
use lib.Seq.{sets}
use Rattle.rules.specs.Registry.{entries_of}
use Rattle.rules.proofs.Registry.{padded}
use Rattle.opening.proofs.entries_of.Given as goal

abbrev pub invariant-loop-i : goal.invariant-loop-i
invariant-loop-i l = (padded (entries_of l.octets) ≡ sets l.entries l.i (entries_of (drop (3 * l.i) l.octets))) × (length l.entries ≡ 8)
