use Rattle.rules.specs.Soundness.{address_sound}
use Rattle.sound_open.proofs.address_sound.Goals as goal

pub returns : goal.returns
unfolding address_sound
returns c = rw c.zero_from-filled.ensures
