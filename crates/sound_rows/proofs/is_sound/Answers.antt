use Rattle.std.proofs.Common.{sym, ap, ◌∙◌}
use Rattle.rules.specs.Places.{is_at}
use Rattle.sound_rows.proofs.Packed.{low-apart, low-listed}
use Rattle.sound_rows.proofs.is_sound.Goals as goal

pub returns-in-Some : goal.returns-in-Some
returns-in-Some c =
    let m = c.args.m.now in
    let all = sym c.rows_sound.ensures.sound ∙ ap is_at c.in-Some.is in
    rw (c.are_told.ensures, all, low-apart m all, low-listed m all _)
