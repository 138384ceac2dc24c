use Rattle.std.specs.Prelude.{◌≡◌, None}
use Rattle.rules.specs.Summary.{first_below, is_for}
use Rattle.summary.proofs.row_of.Given as goal

abbrev pub invariant-loop-i : goal.invariant-loop-i
invariant-loop-i l = first_below l.i (is_for l.m l.association) ≡ None
