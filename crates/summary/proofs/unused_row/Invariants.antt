use Rattle.std.specs.Prelude.{◌≡◌, None}
use Rattle.rules.specs.Summary.{first_below, is_unused}
use Rattle.summary.proofs.unused_row.Given as goal

abbrev pub invariant-loop-row : goal.invariant-loop-row
invariant-loop-row l = first_below l.row (is_unused l.m) ≡ None
