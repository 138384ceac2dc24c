use mathlib.Core.Path.{refl, sym}
use Rattle.octets.specs.Splice.{splice}
use Rattle.octets.proofs.Splice.{splice-past}
use Rattle.trace_lines.proofs.Writer.put_octet.Goals as goal

pub returns-then-at-self : goal.returns-then-at-self
unfolding splice
returns-then-at-self c = record { same = refl; wrote = record { place = refl; stored = refl } }

pub returns-else-at-self : goal.returns-else-at-self
returns-else-at-self c = record { same = refl; wrote = record { place = refl; stored = sym (splice-past _ _ _ c.if-at-self.false) } }
