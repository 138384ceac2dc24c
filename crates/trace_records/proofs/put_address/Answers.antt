use borrow.Author.Tests.{ne_eqb}
use Rattle.trace_lines.proofs.Writers.{writes_then}
use Rattle.trace_records.proofs.put_address.Goals as goal

pub returns-else-a-eq0-clause-wrote : goal.returns-else-a-eq0-clause-wrote
returns-else-a-eq0-clause-wrote c = simp (ne_eqb _ 0 c.if-a-eq0.false) (rw (c.part.ensures, c.from.ensures) at (writes_then c.put_octet.ensures c.put_hex.ensures.wrote))
