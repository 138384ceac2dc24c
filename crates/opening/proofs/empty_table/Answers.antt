use native.Mathlib.Omega.{arith}
use Rattle.rules.proofs.Registry.{padded-full}
use Rattle.opening.proofs.empty_table.Goals as goal

pub returns : goal.returns
returns c = rw (c.free_place.ensures, padded-full c.args.entries (omega arith))
