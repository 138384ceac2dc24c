use Rattle.trace_lines.proofs.Writers.{writes_then}
use Rattle.trace_totals.proofs.put_pair.Goals as goal

pub returns-clause-wrote : goal.returns-clause-wrote
returns-clause-wrote c = writes_then c.put_field.ensures.wrote c.put_field-2.ensures.wrote
