use mathlib.Core.Path.{ap}
use mathlib.Core.Bool.{false}
use lib.ListN.{replicate}
use Rattle.rules.specs.Opening.{opening}
use Rattle.rules.specs.declared.Opened.{Opened}
use Rattle.trace_turns.proofs.beginning.Goals as goal

pub returns : goal.returns
unfolding opening
returns c = ap (λ (o : Opened). record { registry = replicate 27 0; length = 0; table = o.table; begun = false }) c.opening-r.ensures.answered
