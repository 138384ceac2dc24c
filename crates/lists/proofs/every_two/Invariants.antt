use Rattle.std.proofs.Common.{◌≡◌, Bool, length}
use Rattle.rules.specs.General.{every_two}
use Rattle.lists.specs.Tests.{Computes}
use Rattle.lists.proofs.every_two.Given as goal

-- what is left decides
abbrev pub invariant-loop-x : goal.invariant-loop-x
invariant-loop-x g l =
    (p : g.row.T.Denot → g.row.T.Denot → Bool) → Computes (goal.F-post g l.test) p → every_two p l.xs ≡ every_two p l.left

abbrev pub decreases-loop-x : goal.decreases-loop-x
decreases-loop-x g l = length l.left
