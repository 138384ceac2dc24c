use Rattle.std.specs.Prelude.{◌≡◌, ◌≤◌, map, take}
use Rattle.arrayvec.specs.ArrayVec.{array_vec_len}
use Rattle.rules.specs.General.{those}
use Rattle.rules.specs.Places.{is_open}
use Rattle.sound.specs.Seated.{association_of}
use Rattle.sound.proofs.names_of.Given as goal

-- of the places so far
abbrev pub invariant-loop-p : goal.invariant-loop-p
invariant-loop-p l = (l.names.items ≡ map association_of (those is_open (take l.p-index l.places))) × (array_vec_len l.names ≤ l.p-index)
