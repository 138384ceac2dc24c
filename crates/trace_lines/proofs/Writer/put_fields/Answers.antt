use mathlib.Core.List.{append-nil}
use borrow.Author.Tests.{eq-eqb, ne_eqb}
use Rattle.trace_lines.specs.Printing.{fields_for}
use Rattle.trace_lines.proofs.Writers.{writes_then}
use Rattle.trace_lines.proofs.Writer.put_fields.Goals as goal

pub returns-then-h-eq33-clause-wrote : goal.returns-then-h-eq33-clause-wrote
unfolding fields_for
returns-then-h-eq33-clause-wrote c = simp (eq-eqb _ _ c.if-h-eq33.true) (writes_then c.put_counts.ensures.wrote (rw (c.from.ensures, c.from-then-h-eq33.ensures) at c.put_unless.ensures.wrote))

pub returns-else-h-eq33-clause-wrote : goal.returns-else-h-eq33-clause-wrote
unfolding fields_for
returns-else-h-eq33-clause-wrote c = simp (ne_eqb _ _ c.if-h-eq33.false, append-nil) c.put_counts.ensures.wrote
