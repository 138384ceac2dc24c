use Rattle.rules.proofs.Nought.{or-nought}
use Rattle.sound_rows.proofs.rest_of.Goals as goal

pub returns : goal.returns
returns c = simp or-nought
