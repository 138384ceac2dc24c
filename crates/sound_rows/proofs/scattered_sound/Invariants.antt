use Rattle.std.specs.Prelude.{◌≡◌, ◌≤◌, true, eqb, leb, length}
use Rattle.rules.specs.Summary.{every_below, is_used}
use Rattle.sound_rows.specs.Listing.{of_those, low_of, name_fits}
use Rattle.sound_rows.proofs.Sound.{mark_sound, rest_sound}
use Rattle.sound_rows.proofs.scattered_sound.Given as goal

abbrev pub invariant-loop-i : goal.invariant-loop-i
invariant-loop-i l =
    (leb l.marks 1 ≡ every_below l.i (mark_sound l.m))
    × (leb l.names 65535 ≡ every_below l.i (name_fits l.m))
    × (eqb l.rest 0 ≡ every_below l.i (rest_sound l.m))
    × (l.used ≤ l.i)
    × (every_below l.i (mark_sound l.m) ≡ true → l.used ≡ length (of_those (is_used l.m) (low_of l.m) l.i))
