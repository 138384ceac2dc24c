use Rattle.receive_clock.proofs.Judging.{release-is}
use Rattle.receive_clock.proofs.release.Goals as goal

pub returns : goal.returns
returns c =
    let a = c.args in
    let is = release-is a.t a.m.now a.report.now a.association in
    record { answered = rw is c.sweep.ensures.value; summed = rw is c.sweep.ensures.m_after; reported = rw is c.sweep.ensures.report_after }
