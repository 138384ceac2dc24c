use mathlib.Core.Path.{refl}
use native.Mathlib.Omega.{arith}
use Rattle.std.proofs.lemmas.Result.{err_from_is_err_and}
use Rattle.summary.proofs.Losing.{fits-ok, full-err}
use Rattle.receive_clock.proofs.Losing.{turn-fails, turn-fits, all_fit, all-billed}
use Rattle.receive_clock.proofs.billed.Goals as goal

pub loop-p-init : goal.loop-p-init
loop-p-init g c = record { size = c.told-places; inside = omega arith; long = c.told-m; sums = refl; fit = refl }

pub returns-in_err-bill_due : goal.returns-in_err-bill_due
returns-in_err-bill_due g c =
    let p = err_from_is_err_and c.from_residual.result c.from_residual.ensures.1 in
    let full = full-err _ _ c.in_err-bill_due.ensures.value in
    record { value = rw (p.1, p.2, full.1, ← turn-fails c.loop-p.invariant c.loop-p-test.true full.0); m_after = λ e. let err = rw p.1 at e in grind arith }

pub loop-p-preserved : goal.loop-p-preserved
loop-p-preserved g c =
    let done = c.in_ok-bill_due.ensures in
    turn-fits c.loop-p.invariant c.loop-p-test.true (fits-ok _ done.value) _ (done.m_after refl)

pub returns : goal.returns
returns g c =
    let l = c.loop-p in
    record { value = rw (← all_fit l.invariant c.loop-p-test.false); m_after = λ e. all-billed l.invariant c.loop-p-test.false }
