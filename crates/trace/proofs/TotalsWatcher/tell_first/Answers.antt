use Rattle.std.proofs.Common.{sym, ◌∙◌}
use Rattle.trace_lines.proofs.Writers.{writes_none}
use Rattle.trace.proofs.TotalsWatcher.tell_first.Goals as goal

pub returns-else-opens_next-clause-wrote : goal.returns-else-opens_next-clause-wrote
returns-else-opens_next-clause-wrote c = rw (sym c.opens_next.ensures ∙ c.if-opens_next.false) (writes_none _)
