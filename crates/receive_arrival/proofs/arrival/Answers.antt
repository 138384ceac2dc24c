use Prim.Native.Nat.{ℕ}
use mathlib.Core.Path.{refl, ap, ◌∙◌}
use Rattle.rules.specs.Arrival.{arrival}
use Rattle.rules.proofs.Arrival.{own-time}
use Rattle.receive_arrival.proofs.Arriving.{arrives, refused-whole, allowed}
use Rattle.refusals.proofs.Numbers.{number-some}
use Rattle.receive_arrival.proofs.arrival.Goals as goal

pub returns-in-Err : goal.returns-in-Err
returns-in-Err c =
    let a = c.args in
    arrives a.t a.m.now a.store.now a.report.now a.time a.association a.s.now
    (refused-whole a.t a.m.now a.store.now a.report.now a.time a.association a.s.now c.is_sound-is_sound.ensures c.is_summed-is_summed.ensures c.elapsed-step.ensures c.in-Err.ensures (number-some _))
    c.refused.ensures refl refl refl

pub returns-then-time-t : goal.returns-then-time-t
returns-then-time-t c =
    let a = c.args in
    arrives a.t a.m.now a.store.now a.report.now a.time a.association a.s.now
    (ap (λ (n : ℕ). arrival a.t a.m.now a.store.now a.report.now n a.association a.s.now) c.if-time-t.true
    ∙ own-time a.t a.m.now a.store.now a.report.now a.association a.s.now (allowed a.t a.m.now a.store.now a.report.now a.time a.association a.s.now c.is_sound-is_sound.ensures c.is_summed-is_summed.ensures c.elapsed-step.ensures c.in_default.ensures refl).reports)
    c.segment.ensures.answered c.segment.ensures.summed c.segment.ensures.stored c.segment.ensures.reported

pub lose-requires-clause-allowed : goal.lose-requires-clause-allowed
lose-requires-clause-allowed c =
    let a = c.args in
    allowed a.t a.m.now a.store.now a.report.now a.time a.association a.s.now c.is_sound-is_sound.ensures c.is_summed-is_summed.ensures c.elapsed-step.ensures c.in_default.ensures refl

pub pass-requires-clause-allowed : goal.pass-requires-clause-allowed
pass-requires-clause-allowed c =
    let a = c.args in
    allowed a.t a.m.now a.store.now a.report.now a.time a.association a.s.now c.is_sound-is_sound.ensures c.is_summed-is_summed.ensures c.elapsed-step.ensures c.in_default.ensures refl
