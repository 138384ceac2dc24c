-- What owning a table tells: it has 16 places, the addresses and associations of their keys are of their types, and so is its clock.
use Prim.Native.Nat.{◌<◌, ◌^◌}
use mathlib.Core.List.{List, [], ◌∷◌}
use mir.Val.{Val}
use denote.Shadow.{shadow}
use denote.Array.{each}
use denote.Laws.{Is}
use denote.Struct.Declared.{row}
use denote.Struct.Laws.{val}
use Rattle.rules.specs.declared.Place.{Place}
use Rattle.rules.specs.declared.Table.{Table}
use Rattle.rules.specs.contracts.Place as place
use Rattle.rules.specs.contracts.Table.{the_type}
use Rattle.rules.proofs.Table.TheLaws.{the_laws}
use Rattle.demands.specs.Machine.{All, TypedPlace, Typed}

-- places one by one
abbrev Owned : List Place → List Val → Type 0
Owned ps us = shadow (each (place.the_row).Denot (place.the_row).own_val ps us)

owned-place : (p : Place) (u : Val) → shadow ((place.the_row).own_val p (u ∷ [])) → TypedPlace p
owned-place p u g = let key = g.1.1.0 in record {
  addresses = record { origin = key.1.1.1.1.0.1.1.0.1.0.1; destination = key.1.1.1.1.1.0.1.1.0.1.0.1 };
  association = key.1.1.0.1;
}

owned-each : (ps : List Place) (us : List Val) → Owned ps us → All TypedPlace ps
owned-each [] us g = tt
owned-each (p ∷ ps) [] g = absurd g
owned-each (p ∷ ps) (u ∷ us) g = (owned-place p u g.0, owned-each ps us g.1)

pub owned : (t : Table) → Is (row the_type) t (val the_type the_laws t ∷ []) → Typed t
owned t g = record { count = g.1.1.0.1.0.1; each = owned-each t.places _ g.1.1.0.1.1 }

-- its clock has 32 bits
pub owned-clock : (t : Table) → Is (row the_type) t (val the_type the_laws t ∷ []) → t.clock < 2 ^ 32
owned-clock t g = g.1.1.1.1.1.0.1
