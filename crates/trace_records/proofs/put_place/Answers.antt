use borrow.Author.Tests.{ne_eqb}
use Rattle.trace_lines.proofs.Writers.{writes_none}
use Rattle.trace_records.proofs.put_place.Goals as goal

pub returns-then-p-ne1-clause-wrote : goal.returns-then-p-ne1-clause-wrote
returns-then-p-ne1-clause-wrote c = simp (ne_eqb _ 1 c.if-p-ne1.true) (writes_none _)
