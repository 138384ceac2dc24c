use Rattle.std.proofs.Common.{ap, ◌∙◌}
use Rattle.sound_rows.specs.Listing.{sound_beside}
use Rattle.sound.proofs.Seated.{beside}
use Rattle.sound.proofs.is_summed.Goals as goal

pub returns : goal.returns
returns c =
    let m = c.args.m.now in
    c.is_sound.ensures ∙ ap (sound_beside m) (c.as_slice.ensures.value ∙ c.names_of-names.ensures) ∙ beside m c.args.t.now.places
