use Rattle.std.proofs.Common.{sym, ◌∙◌}
use mathlib.Core.Bool.{and-true}
use Rattle.sound.proofs.Halves.{sound-parts, none_open}
use Rattle.sound.proofs.is_sound.Goals as goal

pub returns-then-idle : goal.returns-then-idle
returns-then-idle c =
    let none = none_open c.args.t.now (sym c.requires.1 ∙ c.if-idle.true) in
    rw (c.is_sound-listed.ensures, c.requires.0) (sym (sound-parts c.args.t.now ∙ rw none (and-true _)))

pub returns-else-idle : goal.returns-else-idle
returns-else-idle c =
    rw (c.open_sound.ensures, c.is_sound-listed.ensures, c.requires.0) (sym (sound-parts c.args.t.now))
