-- What the methods of a writer do.
use Rattle.std.specs.Prelude.{◌≡◌, List, ℕ}
use Rattle.octets.specs.Splice.{Wrote}
use Rattle.trace_lines.specs.declared.Writer.{Writer}

-- in the same area the octets stand from the writer's place on, and its place is past them then
pub record Writes (before : Writer) (octets : List ℕ) (after : Writer) : Type 0 where
  pub same : after.area.ghost_name ≡ before.area.ghost_name
  pub wrote : Wrote before.area.now before.at octets after.area.now after.at
