-- A table's soundness in parts: this one is of the open places.
use Rattle.std.specs.Prelude.{Bool, ◌&&◌}
use Rattle.rules.specs.General.{every, every_two}
use Rattle.rules.specs.Soundness.{places_apart}
use Rattle.rules.specs.declared.Table.{Table}
use Rattle.sound_open.specs.Open.{sound_if_open}

unfoldable pub open_part : Table → Bool
open_part t = every (sound_if_open t.registry t.timer t.clock) t.places && every_two places_apart t.places
