use Rattle.rules.specs.Calls.{state_of, lending}
use Rattle.loop_laps.specs.Laps.{asked}
use Rattle.loop_laps.proofs.Laps.{one-lap}
use Rattle.loop_laps.proofs.one.Goals as goal

pub returns : goal.returns
returns c =
    let a = c.args in
    one-lap (asked a.c.now.table a.c.now.request a.c.now.association a.c.now.origin.now a.c.now.destination.now a.c.now.whole.now) a.k (state_of a.t a.m.now a.store.now) (lending a.report.now a.area.now) _ _ _ _ _ _ _
    (rw c.from.ensures at c.for_segment-q.ensures) c.sending-s.ensures c.receive.ensures
