use Rattle.receive_clock.proofs.Judging.{clock-is}
use Rattle.receive_clock.proofs.clock.Goals as goal

pub returns : goal.returns
returns c =
    let a = c.args in
    let is = clock-is a.t a.m.now a.report.now a.time in
    record { answered = rw is c.sweep.ensures.value; summed = rw is c.sweep.ensures.m_after; reported = rw is c.sweep.ensures.report_after }
