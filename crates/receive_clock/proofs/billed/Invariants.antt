use Rattle.receive_clock.proofs.Losing.{Billing}
use Rattle.receive_clock.proofs.billed.Given as goal

abbrev pub invariant-loop-p : goal.invariant-loop-p
invariant-loop-p g l = Billing (g.D.Due.test l.which) l.places l.initial.m l.p-index l.m
