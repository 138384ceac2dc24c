use Rattle.trace_events.proofs.Calling.{of_part, of-opening, of-arrival, of-clock, of-release}
use Rattle.trace_events.proofs.Replay.happen.Goals as goal

pub returns-in-Open-clause-of_event : goal.returns-in-Open-clause-of_event
returns-in-Open-clause-of_event c =
    let e = c.open.ensures in
    rw (c.in-Open.is, e.stored, e.reported) (of-opening c.args.self.now _ _ _ _ _ _ _ e.answered e.summed)

pub returns-in-Segment-clause-of_event : goal.returns-in-Segment-clause-of_event
returns-in-Segment-clause-of_event c =
    rw c.in-Segment.is (of-arrival c.args.self.now _ _ _ _ _ _ _ _ _ _ (of_part _ _ _ _ _ _ _ _ _ _ _ _ (rw c.from.ensures at c.part.ensures) c.arrival.ensures))

pub returns-in-Clock-clause-of_event : goal.returns-in-Clock-clause-of_event
returns-in-Clock-clause-of_event c =
    rw c.in-Clock.is (of-clock c.args.self.now _ _ _ _ _ _ _ _ c.clock.ensures c.swept.ensures)

pub returns-in-Release-clause-of_event : goal.returns-in-Release-clause-of_event
returns-in-Release-clause-of_event c =
    rw c.in-Release.is (of-release c.args.self.now _ _ _ _ _ _ _ _ c.release.ensures c.swept-in-Release.ensures)
