use Rattle.std.proofs.Common.{◌≡◌, take}
use Rattle.rules.specs.General.{every}
use Rattle.sound_rows.specs.Listing.{is_other}
use Rattle.sound_rows.proofs.Listed.lacks.Given as goal

abbrev pub invariant-loop-y : goal.invariant-loop-y
invariant-loop-y l = l.new ≡ every (is_other l.x) (take l.y-index l.names)
