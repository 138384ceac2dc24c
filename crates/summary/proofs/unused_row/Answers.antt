use Rattle.std.proofs.Common.{◌≡◌, sym, arith}
use borrow.Author.Tests.{eq-eqb}
use Rattle.rules.specs.Summary.{row_count, is_unused}
use Rattle.rules.proofs.Rows.{row_count_lem}
use Rattle.rules.proofs.Below.{first-at}
use Rattle.summary.proofs.unused_row.Goals as goal

pub returns-then-m-row-eq0 : goal.returns-then-m-row-eq0
returns-then-m-row-eq0 c =
    let l = c.loop-row in
    sym (first-at (is_unused c.args.m.now) row_count l.row l.invariant (eq-eqb _ _ c.if-m-row-eq0.true) (omega (arith, row_count_lem)))

pub returns : goal.returns
returns c =
    let end : c.loop-row.row ≡ row_count = omega (arith, row_count_lem) in
    sym (rw end at c.loop-row.invariant)
