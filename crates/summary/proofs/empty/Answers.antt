use Rattle.std.proofs.Common.{refl}
use Rattle.rules.specs.Summary.{empty_summary}
use Rattle.summary.proofs.empty.Goals as goal

pub returns : goal.returns
unfolding empty_summary
returns c = refl
