use Rattle.trace_lines.proofs.Writers.{writes_then}
use Rattle.trace_lines.proofs.Writer.put_field.Goals as goal

pub returns-clause-wrote : goal.returns-clause-wrote
returns-clause-wrote c = writes_then c.put_octet.ensures c.put_number.ensures.wrote
