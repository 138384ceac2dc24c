use Rattle.std.proofs.Common.{◌∙◌, sym, arith}
use Rattle.receive_sweep.proofs.swept.Goals.{then-is_due, else-is_due}
use Rattle.receive_sweep.proofs.Sweeping.{turn-due, turn-left, all-answered, all-reported, all-sized}
use Rattle.rules.specs.Sweep.{sweep}
use Rattle.receive_sweep.specs.Sweeping.{losses}
use Rattle.receive_sweep.proofs.swept.Goals as goal

pub loop-p-preserved : goal.loop-p-preserved
loop-p-preserved g c =
    let l = c.loop-p in
    elim c.if-is_due.branch [
      | then-is_due w ↦
          rw (w.report-is, w.p-items-is, w.n-is) (turn-due l.invariant c.loop-p-test.true (sym c.is_due.ensures ∙ w.if-is_due.true) _ w.free_place.ensures _ w.put_loss.ensures)
      | else-is_due w ↦ rw (w.report-is, w.p-items-is, w.n-is) (turn-left l.invariant c.loop-p-test.true (sym c.is_due.ensures ∙ w.if-is_due.false))
    ]

pub returns : goal.returns
unfolding sweep losses
returns g c =
    let l = c.loop-p in
    record { value = all-answered c.args.t l.invariant c.loop-p-test.false _; report_after = all-reported l.invariant c.loop-p-test.false; records_le_place_count = (omega arith, all-sized l.invariant c.loop-p-test.false) }
