use mathlib.Core.Path.{◌≡◌, ◌∙◌}
use lib.ListN.{length}
use Rattle.rules.specs.Numbers.{place_count}
use Rattle.rules.specs.Sweep.{is_due}
use Rattle.receive_sweep.proofs.Sweeping.{none-those}
use Rattle.receive_arrival.proofs.Arriving.{sound-still, passes, passes-22}
use Rattle.receive_arrival.proofs.pass.Goals as goal

pub segment-r-requires : goal.segment-r-requires
segment-r-requires c =
    let a = c.args in
    let none = (none-those (is_due a.time a.t.now.timer) a.t.now.places 0 c.requires.places_value).0 in
    let still = sound-still a.t.now a.m.now a.store.now a.report.now a.time a.association a.s.now c.requires.allowed none in
    let ok = c.requires.allowed in
    (cc, cc)

pub returns-then-r-eq22 : goal.returns-then-r-eq22
returns-then-r-eq22 c =
    let a = c.args in
    let none = (none-those (is_due a.time a.t.now.timer) a.t.now.places 0 c.requires.places_value).0 in
    let size : length a.t.now.places ≡ place_count = c.requires.size in
    passes-22 a.t.now a.m.now a.store.now a.report.now a.time a.association a.s.now c.requires.allowed none size c.segment-r.ensures c.if-r-eq22.true (c.refused.ensures ∙ rw c.if-r-eq22.true)

pub returns : goal.returns
returns c =
    let a = c.args in
    let none = (none-those (is_due a.time a.t.now.timer) a.t.now.places 0 c.requires.places_value).0 in
    let size : length a.t.now.places ≡ place_count = c.requires.size in
    passes a.t.now a.m.now a.store.now a.report.now a.time a.association a.s.now c.requires.allowed none size c.segment-r.ensures c.if-r-eq22.false
