-- THE TIMER. A sequence is lost with cause 6 exactly at the first accepted clock work, of a clock call or of an arrival, at which its true age is T or more.
use Rattle.std.specs.Prelude.{if◌then◌else◌, ℕ, ◌+◌, ◌-◌, ◌≤◌, ◌≡◌, ◌↔◌, Bool, true, false, ◌&&◌, List, [], ◌∷◌, eqb}
use Rattle.rules.specs.Numbers.{elapsed}
use Rattle.rules.specs.Records.{lost}
use Rattle.rules.specs.Places.{same_key}
use Rattle.rules.specs.declared.Key.{Key}
use Rattle.rules.specs.declared.Record.{Record}
use Rattle.demands.specs.Machine.{Machine}
use Rattle.demands.specs.History.{Segment, Told, Deed, Begins, Takes, Passes, Ends, EachIn, Meets}

-- a loss of a key with a cause is among them
abbrev pub lost_by : ℕ → Key → List Record → Bool
lost_by cause k [] = false
lost_by cause k (r ∷ rs) = if same_key r.key k && eqb r.kind lost && eqb r.cause cause then true else lost_by cause k rs

-- the true age of a sequence at so many ticks, none where nothing is uncovered
abbrev pub IsOld : ℕ → ℕ → List Segment → Type 0
IsOld timer ticks [] = ⊥
IsOld timer ticks (x ∷ l) = timer ≤ ticks - x.ticks

-- the ticks after a time that has come
abbrev pub ticks_after : Told → ℕ → ℕ
ticks_after h time = h.ticks + elapsed time h.time

-- a time that has come loses with cause 6 exactly what is T old by then; nothing else does
abbrev pub Timed : Told → Deed → Type 0
Timed h (Begins o good) = Unit {0}
Timed h (Takes association s rs) = (k : Key) → lost_by 6 k rs ≡ false
Timed h (Passes time rs) = (k : Key) → (lost_by 6 k rs ≡ true) ↔ IsOld h.timer (ticks_after h time) (h.uncovered k)
Timed h (Ends association rs) = (k : Key) → lost_by 6 k rs ≡ false

abbrev pub Timer : Machine → Type 0
Timer m = Meets (EachIn Timed) m
