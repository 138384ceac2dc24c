use mathlib.Core.List.{append-nil}
use borrow.Author.Tests.{eq-eqb, ne_eqb}
use Rattle.trace_lines.proofs.Writers.{writes_then}
use Rattle.trace_records.proofs.put_event.Goals as goal

pub returns-then-h-eq32-clause-wrote : goal.returns-then-h-eq32-clause-wrote
returns-then-h-eq32-clause-wrote c =
    let told = rw c.from.ensures at c.put_records.ensures.wrote in
    simp (eq-eqb _ 32 c.if-h-eq32.true) (writes_then (writes_then c.put_line.ensures.wrote told) c.put_open.ensures.wrote)

pub returns-else-h-eq32-clause-wrote : goal.returns-else-h-eq32-clause-wrote
returns-else-h-eq32-clause-wrote c =
    let told = rw c.from.ensures at c.put_records.ensures.wrote in
    simp (ne_eqb _ 32 c.if-h-eq32.false, append-nil) (writes_then c.put_line.ensures.wrote told)
