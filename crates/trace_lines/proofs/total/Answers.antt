use native.Mathlib.Nat.{zero-add, add-zero}
use Prim.Native.Nat.{◌-◌}
use mathlib.Core.Path.{◌≡◌, sym, ◌∙◌}
use native.Mathlib.Omega.{arith}
use lib.ListN.{length-take, length-drop}
use Rattle.trace_lines.proofs.Totals.{total-next}
use Rattle.trace_lines.proofs.total.Goals as goal

pub loop-i-init : goal.loop-i-init
loop-i-init c = (omega arith, let z : c.args.n - 0 ≡ c.args.n = omega arith in rw (z, zero-add))

pub octets_in-sum-requires : goal.octets_in-sum-requires
octets_in-sum-requires c = rw (c.part.ensures, length-take, length-drop) (omega arith)

pub loop-i-preserved : goal.loop-i-preserved
loop-i-preserved c =
    let l = c.loop-i in
    let a = c.args in
    let next = total-next a.report.now a.kind a.n l.i (omega arith) in
    (omega arith, omega (arith, l.invariant.1, rw c.part.ensures at c.octets_in-sum.ensures.value))

pub returns : goal.returns
returns c =
    let l = c.loop-i in
    let z : c.args.n - l.i ≡ 0 = omega arith in
    sym (l.invariant.1 ∙ rw (z, add-zero))
