use mathlib.Core.Path.{refl, sym, ap, ◌∙◌}
use native.Mathlib.Omega.{arith}
use Rattle.rules.specs.Calls.{lending}
use Rattle.loop_laps.specs.Laps.{asked}
use Rattle.refusals.proofs.Numbers.{number-some}
use Rattle.loopback.proofs.Owned.{owned}
use Rattle.loopback.proofs.Back.{looping-unfit, looping-unsent, area-unsent, refusal_is, area-is, some-sent, kept-unmoved, kept-done}
use Rattle.loopback.proofs.loopback.Goals as goal

pub returns-in-Err : goal.returns-in-Err
returns-in-Err c =
    let a = c.args in
    let x = asked a.t a.q a.association a.origin.now a.destination.now a.whole.now in
    kept-unmoved x a.m.now a.store.now (lending a.report.now a.area.now) c.told-m (owned a.t c.well_formed.0) (omega arith) (omega arith) _ _ _ (rw c.from.ensures at c.refused.ensures)
    (looping-unfit x a.m.now a.store.now (lending a.report.now a.area.now) _ c.in-Err.ensures (number-some _)) refl

pub returns-then-s-ne0 : goal.returns-then-s-ne0
returns-then-s-ne0 c =
    let a = c.args in
    let x = asked a.t a.q a.association a.origin.now a.destination.now a.whole.now in
    let e = refusal_is x a.m.now a.store.now (lending a.report.now a.area.now) _ _ _ c.for_segment.ensures c.sending-s.ensures in
    kept-unmoved x a.m.now a.store.now (lending a.report.now a.area.now) c.told-m (owned a.t c.well_formed.0) (omega arith) (omega arith) _ _ _ c.refused-then-s-ne0.ensures
    (looping-unsent x a.m.now a.store.now (lending a.report.now a.area.now) _ (sym c.in_default.ensures) e c.if-s-ne0.true)
    (ap (lending a.report.now) (area-is x a.m.now a.store.now (lending a.report.now a.area.now) _ _ _ c.for_segment.ensures c.sending-s.ensures
    ∙ area-unsent x a.m.now a.store.now (lending a.report.now a.area.now) _ e c.if-s-ne0.true))

pub others-requires : goal.others-requires
others-requires c =
    let a = c.args in
    let x = asked a.t a.q a.association a.origin.now a.destination.now a.whole.now in (
      some-sent x a.m.now a.store.now (lending a.report.now a.area.now) _ _ _ c.for_segment.ensures c.sending-s.ensures c.if-s-ne0.false,
      (λ i. (c.receive-first.ensures.answered i).number),
    )

pub returns : goal.returns
returns c =
    let a = c.args in
    let x = asked a.t a.q a.association a.origin.now a.destination.now a.whole.now in
    kept-done x a.m.now a.store.now (lending a.report.now a.area.now) _ _ _ c.for_segment.ensures c.sending-s.ensures
    c.told-m (owned a.t c.well_formed.0) (omega arith) (omega arith) (sym c.in_default.ensures) c.if-s-ne0.false _ _ _ _ c.receive-first.ensures _ _ _ _ c.others.ensures
