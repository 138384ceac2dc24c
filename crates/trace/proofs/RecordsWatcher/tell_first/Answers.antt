use Rattle.trace_lines.proofs.Writers.{writes_none}
use Rattle.trace.proofs.RecordsWatcher.tell_first.Goals as goal

pub returns-clause-wrote : goal.returns-clause-wrote
returns-clause-wrote c = writes_none _
