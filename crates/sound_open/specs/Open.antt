-- Soundness of a place in two halves: of those that are open, and of the others. This is the first.
use Rattle.std.specs.Prelude.{ℕ, Bool, not, ◌||◌, List}
use Rattle.rules.specs.Places.{is_open}
use Rattle.rules.specs.Soundness.{open_sound}
use Rattle.rules.specs.declared.Entry.{Entry}
use Rattle.rules.specs.declared.Place.{Place}

abbrev pub sound_if_open : List Entry → ℕ → ℕ → Place → Bool
sound_if_open registry timer clock p = not (is_open p) || open_sound registry timer clock p
