-- What is gone from the rest went out.
use Rattle.std.proofs.Common.{◌≡◌, ℕ, ◌++◌, List, length}
use Rattle.std.specs.Io.KnownBytes.{Appends}
use Rattle.streams.proofs.write.Given as goal

abbrev pub invariant-loop-rest : goal.invariant-loop-rest
invariant-loop-rest g l = (gone : List ℕ) × (l.octets ≡ gone ++ l.rest) × Appends (g.W.Write.contents l.initial.sink) (g.W.Write.contents l.sink) gone

abbrev pub decreases-loop-rest : goal.decreases-loop-rest
decreases-loop-rest g l = length l.rest
