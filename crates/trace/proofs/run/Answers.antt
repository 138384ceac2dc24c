use Rattle.std.proofs.Common.{arith, refl, ◌∙◌}
use Rattle.trace.proofs.Running.{going-starts, going-full, used-within, written-within, going-over, less-left, going_on}
use Rattle.trace.proofs.run.Goals as goal

pub loop-out-smaller : goal.loop-out-smaller
loop-out-smaller g c =
    let l = c.loop-out in
    less-left _ l.invariant.going c.loop-out-test.true c.step-t.result _ _ _ c.step-t.ensures.of_turn c.step-t.ensures.used_in_bounds.0 c.step-t.ensures.used_in_bounds.1 c.if-over.false

pub loop-out-init : goal.loop-out-init
loop-out-init g c = record { going = going-starts _ _ _ _ _ _ _; same = (refl, refl, refl) }

pub overflow_add-used : goal.overflow_add-used
overflow_add-used g c =
    let l = c.loop-out in
    omega (arith, used-within _ l.invariant.going c.loop-out-test.true c.step-t.result _ _ _ c.step-t.ensures.of_turn c.step-t.ensures.used_in_bounds.0 c.step-t.ensures.used_in_bounds.1)

pub overflow_add-written : goal.overflow_add-written
overflow_add-written g c =
    let l = c.loop-out in
    omega (arith, written-within _ l.invariant.going c.loop-out-test.true c.step-t.result _ _ _ c.step-t.ensures.of_turn c.step-t.ensures.used_in_bounds.0 c.step-t.ensures.used_in_bounds.1)

pub returns-then-over-clause-of_turn : goal.returns-then-over-clause-of_turn
returns-then-over-clause-of_turn g c =
    let l = c.loop-out in
    going-over _ l.invariant.going c.loop-out-test.true c.step-t.result _ _ _ c.step-t.ensures.of_turn c.step-t.ensures.used_in_bounds.0 c.step-t.ensures.used_in_bounds.1 c.if-over.true

pub returns-then-over-clause-used_in_bounds : goal.returns-then-over-clause-used_in_bounds
returns-then-over-clause-used_in_bounds g c =
    let l = c.loop-out in
    (used-within _ l.invariant.going c.loop-out-test.true c.step-t.result _ _ _ c.step-t.ensures.of_turn c.step-t.ensures.used_in_bounds.0 c.step-t.ensures.used_in_bounds.1, written-within _ l.invariant.going c.loop-out-test.true c.step-t.result _ _ _ c.step-t.ensures.of_turn c.step-t.ensures.used_in_bounds.0 c.step-t.ensures.used_in_bounds.1)

pub loop-out-preserved : goal.loop-out-preserved
loop-out-preserved g c =
    let l = c.loop-out in
    let before = l.invariant.same in
    let now = c.step-t.ensures.same in
    record {
      going = going_on _ l.invariant.going c.loop-out-test.true c.step-t.result _ _ _ c.step-t.ensures.of_turn c.step-t.ensures.used_in_bounds.0 c.step-t.ensures.used_in_bounds.1 c.if-over.false;
      same = (now.0 ∙ before.0, now.1 ∙ before.1, now.2 ∙ before.2);
    }

pub returns-clause-of_turn : goal.returns-clause-of_turn
returns-clause-of_turn g c = going-full _ c.loop-out.invariant.going (omega arith)

pub returns-clause-used_in_bounds : goal.returns-clause-used_in_bounds
returns-clause-used_in_bounds g c = (omega arith, omega arith)
