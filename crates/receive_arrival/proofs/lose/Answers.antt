use mathlib.Core.Path.{◌≡◌, refl, sym, ◌∙◌}
use native.Mathlib.Omega.{arith}
use lib.ListN.{length}
use Rattle.rules.specs.Numbers.{place_count}
use Rattle.summary.proofs.Losing.{fits-ok, full-err}
use Rattle.receive_arrival.proofs.Arriving.{one-record, arrives}
use Rattle.receive_arrival.proofs.Losing.{unfit-is, sound-next, summed-next, lost-both, lost-22}
use Rattle.receive_arrival.proofs.lose.Goals as goal

pub returns-in-Err : goal.returns-in-Err
returns-in-Err c =
    let a = c.args in
    let full = full-err _ _ c.in-Err.ensures.value in
    arrives a.t.now a.m.now a.store.now a.report.now a.time a.association a.s.now (unfit-is a.t.now a.m.now a.store.now a.report.now a.time a.association a.s.now c.requires.allowed full.0)
    (c.refused.ensures ∙ rw full.1) refl refl refl

pub segment-own-requires : goal.segment-own-requires
segment-own-requires c =
    let a = c.args in
    let done = c.in_default.ensures in
    let fit = fits-ok _ done.value in
    (sym (sound-next a.t.now a.m.now a.store.now a.report.now a.time a.association a.s.now c.requires.allowed fit (done.m_after refl) c.swept-w.ensures.value c.swept-w.ensures.report_after c.swept-w.ensures.records_le_place_count), sym (summed-next a.t.now a.m.now a.store.now a.report.now a.time a.association a.s.now c.requires.allowed fit (done.m_after refl) c.swept-w.ensures.value c.swept-w.ensures.report_after c.swept-w.ensures.records_le_place_count))

pub returns-then-own-eq22 : goal.returns-then-own-eq22
returns-then-own-eq22 c =
    let a = c.args in
    let done = c.in_default.ensures in
    let fit = fits-ok _ done.value in
    let size : length a.t.now.places ≡ place_count = c.requires.size in
    rw c.from-past.ensures (lost-22 a.t.now a.m.now a.store.now a.report.now a.time a.association a.s.now c.requires.allowed fit (done.m_after refl) c.swept-w.ensures.value c.swept-w.ensures.report_after c.swept-w.ensures.records_le_place_count size (rw c.from-past.ensures at c.segment-own.ensures) c.if-own-eq22.true (c.refused-then-own-eq22.ensures ∙ rw c.if-own-eq22.true))

pub beside-requires : goal.beside-requires
beside-requires c =
    omega (arith, one-record c.segment-own.ensures, c.swept-w.ensures.records_le_place_count.0)

pub returns : goal.returns
returns c =
    let a = c.args in
    let done = c.in_default.ensures in
    let fit = fits-ok _ done.value in
    let size : length a.t.now.places ≡ place_count = c.requires.size in
    lost-both a.t.now a.m.now a.store.now a.report.now a.time a.association a.s.now c.requires.allowed fit (done.m_after refl) c.swept-w.ensures.value c.swept-w.ensures.report_after c.swept-w.ensures.records_le_place_count size (rw c.from-past.ensures at c.segment-own.ensures) c.if-own-eq22.false c.beside.ensures (rw c.from-past.ensures at c.put.ensures)
