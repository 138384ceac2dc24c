-- The loop has copied the first i octets; what does not fit counts for nothing.
use Rattle.std.proofs.Common.{◌≡◌, take, length}
use Rattle.octets.specs.Splice.{splice}
use Rattle.octets.proofs.put.Given as goal

abbrev pub invariant-loop-i : goal.invariant-loop-i
invariant-loop-i l = (l.dst ≡ splice l.initial.dst 0 (take l.i l.src)) × (length l.dst ≡ length l.initial.dst)
