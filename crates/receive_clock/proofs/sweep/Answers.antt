use Rattle.std.proofs.Common.{sym}
use Rattle.receive_clock.proofs.Losing.{none-swept}
use Rattle.receive_clock.proofs.sweep.Goals as goal

pub returns-in-Ok-false : goal.returns-in-Ok-false
returns-in-Ok-false g c =
    let a = c.args in
    let done = rw c.in-Ok-false.field-0-test at c.in-Ok-false.ensures in
    let none = none-swept (g.D.Due.test a.which.now) a.time a.t.now a.report.now (sym done.0) in
    record { value = rw (done.1, none) c.passed.ensures; m_after = rw done.1; report_after = rw (done.1, none) }
