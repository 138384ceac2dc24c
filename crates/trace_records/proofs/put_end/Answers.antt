use Rattle.trace_lines.proofs.Writers.{writes_then}
use Rattle.trace_records.proofs.put_end.Goals as goal

pub returns-clause-wrote : goal.returns-clause-wrote
returns-clause-wrote c = writes_then c.put_open.ensures.wrote c.put_end.ensures.wrote
