use Rattle.trace_lines.proofs.Writers.{writes_none}
use Rattle.trace.proofs.tell.Goals as goal

pub returns-in-Waits-clause-wrote : goal.returns-in-Waits-clause-wrote
returns-in-Waits-clause-wrote g c = rw c.in-Waits.is (writes_none _)

pub returns-in-Registers-clause-wrote : goal.returns-in-Registers-clause-wrote
returns-in-Registers-clause-wrote g c = rw c.in-Registers.is (writes_none _)
