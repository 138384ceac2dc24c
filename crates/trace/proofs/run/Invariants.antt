use Rattle.std.proofs.Common.{◌-◌, length}
use Rattle.trace_events.specs.Events.{stored_by, lent_by, Same}
use Rattle.trace.specs.Watching.{observer_of, runs}
use Rattle.trace.proofs.Running.{Going}
use Rattle.trace.proofs.run.Given as goal

-- The loop's invariant is Going: the turns that are left give the rest.
abbrev pub invariant-loop-out : goal.invariant-loop-out
invariant-loop-out g l = record {
  going : Going (observer_of g.W.Watcher.which) (runs (observer_of g.W.Watcher.which) (length l.input) (length l.initial.out) l.initial.events l.initial.replay (stored_by l.initial.lent) (lent_by l.initial.lent) l.input) l.input l.initial.out (stored_by l.lent) (lent_by l.lent) l.out l.replay l.events l.used l.written;
  same : Same l.initial.lent l.lent;
}

abbrev pub decreases-loop-out : goal.decreases-loop-out
decreases-loop-out g l = length l.input - l.used
