use Rattle.std.proofs.Common.{true, false, refl, sym, ◌∙◌, arith}
use Rattle.std.proofs.lemmas.Result.{err_from_is_err_and}
use Rattle.refusals.proofs.Numbers.{number-some}
use Rattle.summary.proofs.Losing.{fits-ok, full-err}
use Rattle.receive_clock.proofs.Judging.{misjudged, stepped-back, goes-on}
use Rattle.receive_clock.proofs.Losing.{swept-is, none_is}
use Rattle.receive_clock.proofs.bill.Goals as goal

pub returns-in_err-judge : goal.returns-in_err-judge
returns-in_err-judge g c =
    let a = c.args in
    let p = err_from_is_err_and c.from_residual.result c.from_residual.ensures.1 in
    rw (p.1, p.2) (refl, misjudged a.t.now a.m.now a.report.now c.is_sound-is_sound.ensures c.is_summed-is_summed.ensures c.in_err-judge.ensures (number-some _) (g.D.Due.test a.which.now) a.time)

pub returns-then-elapsed-ge2147483648 : goal.returns-then-elapsed-ge2147483648
returns-then-elapsed-ge2147483648 g c =
    let a = c.args in
    (refl, stepped-back a.t.now a.m.now a.report.now c.is_sound-is_sound.ensures c.is_summed-is_summed.ensures c.in_ok-judge.ensures refl (g.D.Due.test a.which.now) a.time (omega (arith, c.elapsed.ensures)))

pub returns-then-not-due : goal.returns-then-not-due
returns-then-not-due g c =
    let a = c.args in
    let is = goes-on a.t.now a.m.now a.report.now c.is_sound-is_sound.ensures c.is_summed-is_summed.ensures c.in_ok-judge.ensures refl (g.D.Due.test a.which.now) a.time (omega (arith, c.elapsed.ensures)) in
    let none = sym c.any_due-due.ensures ∙ c.if-not-due.true in
    (sym none, is ∙ none_is (g.D.Due.test a.which.now) a.time a.t.now a.m.now a.report.now none)

pub returns-in_err-billed : goal.returns-in_err-billed
returns-in_err-billed g c =
    let a = c.args in
    let is = goes-on a.t.now a.m.now a.report.now c.is_sound-is_sound.ensures c.is_summed-is_summed.ensures c.in_ok-judge.ensures refl (g.D.Due.test a.which.now) a.time (omega (arith, c.elapsed.ensures)) in
    let p = err_from_is_err_and c.from_residual-in_err-billed.result c.from_residual-in_err-billed.ensures.1 in
    let full = full-err _ _ c.in_err-billed.ensures.value in
    rw (p.1, p.2, full.1) (refl, is ∙ swept-is (g.D.Due.test a.which.now) a.time a.t.now a.m.now a.report.now false (sym full.0))

pub returns : goal.returns
returns g c =
    let a = c.args in
    let is = goes-on a.t.now a.m.now a.report.now c.is_sound-is_sound.ensures c.is_summed-is_summed.ensures c.in_ok-judge.ensures refl (g.D.Due.test a.which.now) a.time (omega (arith, c.elapsed.ensures)) in
    let done = c.in_ok-billed.ensures in
    let some = sym c.if-not-due.false ∙ c.any_due-due.ensures in
    (some, is ∙ swept-is (g.D.Due.test a.which.now) a.time a.t.now a.m.now a.report.now true (sym (fits-ok _ done.value)) ∙ rw (done.m_after refl))
