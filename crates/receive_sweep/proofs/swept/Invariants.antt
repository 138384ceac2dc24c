use Rattle.receive_sweep.proofs.Sweeping.{Sofar}
use Rattle.receive_sweep.proofs.swept.Given as goal

abbrev pub invariant-loop-p : goal.invariant-loop-p
invariant-loop-p g l = Sofar (g.D.Due.test l.which) l.initial.p-items l.initial.report l.p-index l.n l.p-items l.report
