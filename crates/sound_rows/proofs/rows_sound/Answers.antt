use Rattle.std.proofs.Common.{sym, ◌∙◌}
use borrow.Author.Tests.{eq-eqb}
use Rattle.sound_rows.proofs.First.{rows-first, used-first}
use Rattle.sound_rows.proofs.Sound.{is_at-then, of_then}
use Rattle.sound_rows.proofs.rows_sound.Goals as goal

pub returns-then-empty-clause-sound : goal.returns-then-empty-clause-sound
returns-then-empty-clause-sound c =
    let used = c.first_used-used.ensures in
    let none = c.rest_from-empty.ensures (eq-eqb _ _ c.if-empty.true) in
    rw (c.then_some.ensures, is_at-then) (c.names_of.ensures ∙ sym (rows-first c.args.m.now c.first_used-used.result used.0 used.1 none))

pub returns-then-empty-clause-used : goal.returns-then-empty-clause-used
returns-then-empty-clause-used c = λ k e.
    let used = c.first_used-used.ensures in
    let none = c.rest_from-empty.ensures (eq-eqb _ _ c.if-empty.true) in
    sym (of_then _ _ k (sym c.then_some.ensures ∙ e)).1 ∙ used-first c.args.m.now c.first_used-used.result used.0 used.1 none
