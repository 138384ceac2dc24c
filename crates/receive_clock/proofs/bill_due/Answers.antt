use Rattle.std.proofs.Common.{sym, ◌∙◌}
use Rattle.rules.proofs.Fitting.{fits-same}
use Rattle.summary.proofs.Losing.{fits-ok}
use Rattle.receive_clock.proofs.Losing.{bill-one, bill-none}
use Rattle.receive_clock.proofs.bill_due.Goals as goal

pub returns-then-is_due : goal.returns-then-is_due
returns-then-is_due g c =
    let a = c.args in
    let one = bill-one (g.D.Due.test a.which.now) a.m.now a.p.now (sym c.is_due.ensures ∙ c.if-is_due.true) in
    let billed = rw (c.from.ensures, c.from-then-is_due.ensures) at c.bill_loss.ensures in
    record { value = rw one billed.value; m_after = λ e. rw one (rw (fits-ok _ (sym e ∙ billed.value)) at billed.m_after) }

pub returns-else-is_due : goal.returns-else-is_due
returns-else-is_due g c =
    let a = c.args in
    let none = bill-none (g.D.Due.test a.which.now) a.m.now a.p.now (sym c.is_due.ensures ∙ c.if-is_due.false) in
    record { value = rw (none, fits-same a.m.now); m_after = λ e. sym none }
