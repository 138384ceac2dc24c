use Rattle.std.proofs.Common.{◌≡◌, refl, sym, ap, ◌∙◌, length, add-one, arith}
use mathlib.Core.Bool.{and_comm}
use Rattle.rules.specs.Summary.{every_below, row_count, is_used}
use Rattle.sound_rows.specs.Listing.{of_those, low_of, name_fits}
use Rattle.rules.proofs.Rows.{row_count_lem}
use Rattle.sound_rows.proofs.Sound.{mark_sound, rest_sound, first_of, rows_are, is_at-then, of_then}
use Rattle.sound_rows.proofs.Counted.{count-more}
use Rattle.rules.proofs.Nought.{or-nought}
use Rattle.sound_rows.proofs.Bits.{or-below}
use Rattle.sound_rows.proofs.scattered_sound.Goals as goal

pub loop-i-preserved : goal.loop-i-preserved
loop-i-preserved c =
    let inv = c.loop-i.invariant in
    let m = c.args.m.now in
    let i = c.loop-i.i in (
      rw (add-one i, or-below 1 _ _ 1 refl, inv.0) (and_comm (every_below i (mark_sound m)) (mark_sound m i)),
      rw (add-one i, or-below 16 _ _ 65535 refl, inv.1) (and_comm (every_below i (name_fits m)) (name_fits m i)),
      rw (add-one i, or-nought, c.unmarked-rest.ensures, c.rest_of.ensures, inv.2) (and_comm (every_below i (rest_sound m)) (rest_sound m i)),
      omega arith,
      count-more m (low_of m) i c.loop-i.used inv.4,
    )

pub returns-clause-sound : goal.returns-clause-sound
returns-clause-sound c =
    let inv = c.loop-i.invariant in
    let end : c.loop-i.i ≡ row_count = omega (arith, row_count_lem) in
    rw (c.then_some.ensures, is_at-then, inv.0, inv.1, inv.2, end) (sym (rows_are c.args.m.now row_count))

pub returns-clause-used : goal.returns-clause-used
returns-clause-used c = λ k e.
    let inv = c.loop-i.invariant in
    let m = c.args.m.now in
    let end : c.loop-i.i ≡ row_count = omega (arith, row_count_lem) in
    let told = of_then _ _ k (sym c.then_some.ensures ∙ e) in
    sym told.1 ∙ inv.4 (sym inv.0 ∙ first_of _ _ (first_of _ _ told.0)) ∙ ap (λ n. length (of_those (is_used m) (low_of m) n)) end
