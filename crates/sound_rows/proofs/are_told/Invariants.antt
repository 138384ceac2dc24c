use Prim.Native.Nat.{◌+◌, ◌-◌, ◌≤◌}
use lib.ListN.{length}
use Rattle.rules.specs.Summary.{is_used}
use Rattle.sound_rows.specs.Listing.{low_of}
use Rattle.sound_rows.proofs.Flags.{Known}
use Rattle.sound_rows.proofs.are_told.Given as goal

abbrev pub invariant-loop-i : goal.invariant-loop-i
invariant-loop-i l =
    (l.i ≤ 64) × ((length l.listed.names.items ≤ l.i) × ((l.used + l.i ≤ length l.listed.names.items + 64) × Known (is_used l.m) (low_of l.m) l.listed.names.items l.listed.hints l.apart l.i))

abbrev pub decreases-loop-i : goal.decreases-loop-i
decreases-loop-i l = 64 - l.i
