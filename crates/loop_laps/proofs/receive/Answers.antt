use Rattle.loop_laps.proofs.Laps.{receipt}
use Rattle.loop_laps.proofs.receive.Goals as goal

pub returns : goal.returns
returns c =
    let a = c.args in
    receipt a.t _ _ _ _ a.association _ _ a.n _ _ _ _ c.arrival-r.ensures (rw c.from.ensures at c.part.ensures)
