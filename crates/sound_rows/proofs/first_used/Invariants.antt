use Rattle.std.specs.Prelude.{◌≡◌, true}
use Rattle.rules.specs.Summary.{every_below, is_used}
use Rattle.sound_rows.proofs.first_used.Given as goal

abbrev pub invariant-loop-i : goal.invariant-loop-i
invariant-loop-i l = every_below l.i (is_used l.m) ≡ true
