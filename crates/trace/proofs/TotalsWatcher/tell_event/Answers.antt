use Rattle.std.proofs.Common.{ne_eqb}
use Rattle.trace_lines.proofs.Writers.{writes_none}
use Rattle.trace.proofs.TotalsWatcher.tell_event.Goals as goal

pub returns-else-h-eq32-clause-wrote : goal.returns-else-h-eq32-clause-wrote
returns-else-h-eq32-clause-wrote c = rw (ne_eqb _ 32 c.if-h-eq32.false) (writes_none _)
