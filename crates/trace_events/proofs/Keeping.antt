-- A registry record is kept.
use Prim.Native.Nat.{ℕ, ◌+◌}
use mathlib.Core.Path.{◌≡◌, ap, ◌∙◌}
use mathlib.Core.Bool.{false}
use mathlib.Core.List.{List, ◌∷◌}
use native.Mathlib.Numerals.{add-one}
use lib.Dec.{ltb}
use lib.ListN.{set}
use Rattle.octets.specs.Splice.{splice}
use Rattle.trace_events.specs.Events.{keeping}
use Rattle.trace_events.specs.declared.Replay.{Replay}

splice-cons : (xs : List ℕ) (at y : ℕ) (ys : List ℕ) → splice (set xs at y) (at + 1) ys ≡ splice xs at (y ∷ ys)
unfolding splice
splice-cons xs at y ys = rw add-one

pub keeps : (held : Replay) (kind : ℕ) (body registry : List ℕ) → ltb 24 held.length ≡ false
    → registry ≡ splice (set held.registry held.length kind) (held.length + 1) body
    → record { registry = registry; length = held.length + 3; table = held.table; begun = held.begun } ≡ keeping held kind body
keeps held kind body registry e r =
    simp e (ap (λ (l : List ℕ). record { registry = l; length = held.length + 3; table = held.table; begun = held.begun }) (r ∙ splice-cons held.registry held.length kind body))
