-- What can be written: each number fits its octet.
use Rattle.std.specs.Prelude.{◌≡◌, false, List, ◌∷◌, ℕ, ◌+◌, ◌<◌}
use Rattle.octets.specs.Splice.{Wrote}
use Rattle.rules.specs.Layout.{is_unsegmented, sequence_octets}
use Rattle.rules.specs.declared.Heading.{Heading}
use Rattle.param_write.specs.declared.Writer.{Writer}

pub record Writable (g : Heading) : Type 0 where
  pub context : g.context.0 < 16384
  pub instruction : g.instruction < 128
  pub remaining : g.remaining.0 < 64
  pub reference : is_unsegmented g.new g.remaining.0 ≡ false → g.reference.0 < 128

-- octets 2, 3 and 3a
abbrev pub control_octets : Heading → List ℕ
control_octets g = (128 + g.instruction) ∷ sequence_octets g

-- in the same area the octets stand from the writer's place on, and its place is past them then
pub record Writes (before : Writer) (octets : List ℕ) (after : Writer) : Type 0 where
  pub same : after.area.ghost_name ≡ before.area.ghost_name
  pub wrote : Wrote before.area.now before.at octets after.area.now after.at
