use Rattle.std.proofs.Common.{rules, sym, ap, ◌∙◌}
use mathlib.Core.Bool.{and-true}
use Rattle.rules.specs.General.{every_two}
use Rattle.sound_rows.specs.Listing.{is_other}
use Rattle.sound.specs.Parts.{open_part}
use Rattle.sound.proofs.Digest.{told-all}
use Rattle.sound.proofs.open_sound.Goals as goal

pub returns-then-all_differ : goal.returns-then-all_differ
unfolding open_part
returns-then-all_differ c =
    let seen = c.look_over-seen.ensures in
    let told = c.all_differ.ensures ∙ ap (every_two is_other) seen.digests.1 in
    let apart = told-all c.args.t.now.places (sym told ∙ c.if-all_differ.true) in
    seen.sound_value ∙ sym (rw apart (and-true _))

pub returns-else-all_differ : goal.returns-else-all_differ
unfolding open_part
returns-else-all_differ c = search (rules, c.look_over-seen.ensures.sound_value)
