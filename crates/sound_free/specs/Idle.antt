-- Soundness of a place in two halves: of those that are open, and of the others. This is the second.
use Rattle.std.specs.Prelude.{Bool, not, ◌&&◌, ◌||◌}
use Rattle.rules.specs.Places.{is_open, is_free}
use Rattle.rules.specs.Soundness.{free_sound}
use Rattle.rules.specs.declared.Place.{Place}

abbrev pub sound_if_idle : Place → Bool
sound_if_idle p = is_open p || (is_free p && free_sound p)

-- a place that is not open
abbrev pub is_shut : Place → Bool
is_shut p = not (is_open p)
