use borrow.Author.Tests.{ne_eqb}
use Rattle.trace_lines.proofs.Writers.{writes_none}
use Rattle.trace_records.proofs.put_timeouts.Goals as goal

pub returns-else-h-eq33-clause-wrote : goal.returns-else-h-eq33-clause-wrote
returns-else-h-eq33-clause-wrote c = simp (ne_eqb _ 33 c.if-h-eq33.false) (writes_none _)
