-- RELEASE. An accepted release of an association loses with cause 7 exactly the sequences of that association of which something is uncovered.
use Rattle.std.specs.Prelude.{◌≡◌, ◌↔◌, true, false, []}
use Rattle.rules.specs.declared.Key.{Key}
use Rattle.demands.specs.Machine.{Machine}
use Rattle.demands.specs.History.{Told, Deed, Begins, Takes, Passes, Ends, EachIn, Meets}
use Rattle.demands.specs.Timer.{lost_by}

abbrev pub Released : Told → Deed → Type 0
Released h (Begins o good) = Unit {0}
Released h (Takes association s rs) = (k : Key) → lost_by 7 k rs ≡ false
Released h (Passes time rs) = (k : Key) → lost_by 7 k rs ≡ false
Released h (Ends association rs) = (k : Key) → (lost_by 7 k rs ≡ true) ↔ ((k.association ≡ association) × (h.uncovered k ≡ [] → ⊥))

abbrev pub Release : Machine → Type 0
Release m = Meets (EachIn Released) m
