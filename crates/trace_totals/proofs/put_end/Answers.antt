use Rattle.trace_lines.proofs.Writers.{writes_then}
use Rattle.trace_totals.proofs.put_end.Goals as goal

pub returns-clause-wrote : goal.returns-clause-wrote
returns-clause-wrote c = writes_then c.put_rows.ensures.wrote c.put_end.ensures.wrote
