use Rattle.trace_lines.proofs.Writers.{writes_then}
use Rattle.trace_lines.proofs.Writer.put_line.Goals as goal

pub returns-clause-wrote : goal.returns-clause-wrote
returns-clause-wrote c = writes_then c.put_fields.ensures.wrote c.put_octet.ensures
