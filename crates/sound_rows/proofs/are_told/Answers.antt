use Rattle.std.specs.Prelude.{reverse}
use mathlib.Core.Path.{◌≡◌, ap, ◌∙◌}
use Rattle.rules.specs.General.{every}
use native.Mathlib.Omega.{arith}
use Rattle.rules.specs.Summary.{row_count, is_used}
use borrow.Author.Tests.{eq-eqb, ne_eqb}
use lib.ListN.{length}
use Rattle.sound_rows.specs.Listing.{of_those, low_of, listed_in}
use Rattle.rules.proofs.Rows.{row_count_lem}
use Rattle.sound_rows.proofs.Flags.{none_yet, to-come, whole, passed, added, longer, listed-back}
use Rattle.sound_rows.proofs.are_told.Goals as goal

pub loop-i-init : goal.loop-i-init
loop-i-init c =
    let m = c.args.m.now in
    let known = none_yet (is_used m) (low_of m) c.new.result.items c.new.ensures in
    (omega arith, (rw c.new.ensures (omega arith), (to-come (is_used m) (low_of m) _ _ _ 0 known 64 c.args.used (c.requires ∙ ap (λ k. length (of_those (is_used m) (low_of m) k)) row_count_lem) (omega arith), none_yet _ _ _ c.new.ensures)))

pub loop-i-preserved-then-m-i-ne1 : goal.loop-i-preserved-then-m-i-ne1
loop-i-preserved-then-m-i-ne1 c =
    let m = c.args.m.now in
    let inv = c.loop-i.invariant in
    let more = passed (is_used m) (low_of m) c.loop-i.listed.names.items c.loop-i.listed.hints c.loop-i.apart c.loop-i.i inv.1.1.1 (ne_eqb _ _ c.if-m-i-ne1.true) in
    (omega arith, (omega arith, (omega (arith, row_count_lem, to-come _ _ _ _ _ _ more row_count _ c.requires (omega (arith, row_count_lem))), more)))

pub loop-i-preserved : goal.loop-i-preserved
loop-i-preserved c =
    let m = c.args.m.now in
    let inv = c.loop-i.invariant in
    let hint = c.push.ensures.hints in
    let more =
    rw (← c.push.ensures.names, ← hint.1.1) at
    (added (is_used m) (low_of m) c.loop-i.listed.names.items c.loop-i.listed.hints c.loop-i.apart c.loop-i.i inv.1.1.1 (eq-eqb _ _ c.if-m-i-ne1.false)
    c.low-x.result c.low-x.ensures hint.0 hint.1.0 c.is_new-apart.result c.is_new-apart.ensures) in
    (omega arith, (omega (arith, longer _ _ _ c.push.ensures.names), (omega (arith, row_count_lem, to-come _ _ _ _ _ _ more row_count _ c.requires (omega (arith, row_count_lem))), more)))

pub returns : goal.returns
returns c =
    let inv = c.loop-i.invariant.1.1.1 in
    let end = whole _ _ _ _ _ _ inv row_count _ c.requires (omega (arith, row_count_lem)) (omega arith) in
    let each : c.has_all.result ≡ every (listed_in (reverse c.loop-i.listed.names.items)) c.args.names.now =
    c.has_all.ensures ∙ listed-back c.loop-i.listed.names.items c.args.names.now in
    rw (each, inv.told, inv.first, end)
