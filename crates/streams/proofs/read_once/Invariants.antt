-- The area keeps its length, and a call that was interrupted took nothing.
use Rattle.std.proofs.Common.{◌≡◌, length}
use Rattle.std.specs.Io.KnownBytes.{Keeps}
use Rattle.streams.proofs.read_once.Given as goal

abbrev pub invariant-loop : goal.invariant-loop
invariant-loop g l = (length l.area ≡ length l.initial.area) × Keeps (g.R.Read.remaining l.initial.source) (g.R.Read.remaining l.source)
