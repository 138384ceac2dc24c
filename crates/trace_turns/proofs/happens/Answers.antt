use native.Mathlib.Omega.{arith}
use Rattle.trace_turns.proofs.Fitting.{answer-fits}
use Rattle.trace_turns.proofs.Happening.{event-walk}
use Rattle.trace_turns.proofs.happens.Goals as goal

pub returns-clause-of_walk : goal.returns-clause-of_walk
returns-clause-of_walk c = event-walk _ _ _ c.args.e _ _ _ _ _ _ c.from-kind.ensures c.happen-a.ensures.of_event

pub returns-clause-fits : goal.returns-clause-fits
returns-clause-fits c = answer-fits c.args.held _ _ _ _ _ _ (omega arith) c.happen-a.ensures.of_event
