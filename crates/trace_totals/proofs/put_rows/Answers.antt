use Rattle.std.proofs.Common.{arith, ne_eqb}
use Rattle.trace_lines.proofs.Writers.{writes_none}
use Rattle.trace_totals.proofs.Rows.{used_is, rows_next, rows_all}
use Rattle.trace_totals.proofs.put_rows.Goals.{then-m-row-eq1, else-m-row-eq1}
use Rattle.trace_totals.proofs.put_rows.Goals as goal

pub loop-row-init : goal.loop-row-init
loop-row-init c = record { near = omega arith; wrote = writes_none _ }

pub loop-row-preserved : goal.loop-row-preserved
loop-row-preserved c =
    let l = c.loop-row in
    elim c.if-m-row-eq1.branch [
      | then-m-row-eq1 w ↦ rw w.w-is (record {
        near = omega (arith, w.put_row.ensures.upper_bound, l.invariant.near);
        wrote = rows_next c.args.m.now l.row l.invariant.wrote (rw (used_is c.args.m.now l.row, w.if-m-row-eq1.true) w.put_row.ensures.wrote);
      })
      | else-m-row-eq1 w ↦ rw w.w-is (record {
        near = omega (arith, l.invariant.near);
        wrote = rows_next c.args.m.now l.row l.invariant.wrote (rw (used_is c.args.m.now l.row, ne_eqb _ 1 w.if-m-row-eq1.false) (writes_none _));
      })
    ]

pub returns-clause-wrote : goal.returns-clause-wrote
returns-clause-wrote c = rows_all c.args.m.now c.loop-row.row (omega arith) c.loop-row.invariant.wrote
