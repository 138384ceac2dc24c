use Rattle.std.specs.Prelude.{◌≡◌, leb}
use Rattle.rules.specs.Summary.{every_below}
use Rattle.sound_rows.specs.Listing.{name_fits}
use Rattle.sound_rows.proofs.names_of.Given as goal

abbrev pub invariant-loop-i : goal.invariant-loop-i
invariant-loop-i l = leb l.names 65535 ≡ every_below l.i (name_fits l.m)
