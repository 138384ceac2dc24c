use native.Mathlib.Omega.{arith}
use Rattle.trace_turns.proofs.Registering.{registry-kept}
use Rattle.trace_turns.proofs.registers.Goals as goal

pub returns-then-held-clause-value : goal.returns-then-held-clause-value
returns-then-held-clause-value c = simp c.if-held.true c.stays.ensures

pub returns-then-held-clause-used_bound : goal.returns-then-held-clause-used_bound
returns-then-held-clause-used_bound c = rw c.stays.ensures (omega arith)

pub returns-clause-value : goal.returns-clause-value
returns-clause-value c = registry-kept _ _ _ _ c.if-held.false c.kept.ensures
