use Rattle.std.specs.Prelude.{◌≡◌, true, eqb}
use Rattle.sound_rows.specs.Listing.{EmptyFrom}
use Rattle.sound_rows.proofs.rest_from.Given as goal

abbrev pub invariant-loop-i : goal.invariant-loop-i
invariant-loop-i l = eqb l.rest 0 ≡ true → EmptyFrom l.m l.at l.i
