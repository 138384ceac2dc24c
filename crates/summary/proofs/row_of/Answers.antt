use Rattle.std.proofs.Common.{◌≡◌, sym, ◌∙◌, arith}
use mathlib.Core.Bool.{and_comm}
use lib.Dec.{eqb}
use Rattle.rules.specs.Summary.{row_count, number_at, is_used, is_for}
use Rattle.rules.proofs.Rows.{row_count_lem}
use Rattle.rules.proofs.Below.{first-at}
use Rattle.summary.proofs.row_of.Goals as goal

pub returns-then-m-i-clause-value : goal.returns-then-m-i-clause-value
returns-then-m-i-clause-value c =
    let m = c.args.m.now in
    let a = c.args.association in
    let i = c.loop-i.i in
    sym (first-at (is_for m a) row_count i c.loop-i.invariant (and_comm (is_used m i) (eqb (number_at m 1 i) a) ∙ (rw c.from-name.ensures at c.if-m-i.true)) (omega (arith, row_count_lem)))

pub returns-clause-value : goal.returns-clause-value
returns-clause-value c =
    let end : c.loop-i.i ≡ row_count = omega (arith, row_count_lem) in
    sym (rw end at c.loop-i.invariant)
