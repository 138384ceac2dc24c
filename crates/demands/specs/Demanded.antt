-- WHAT IS DEMANDED OF ONE CALL, of what is seen of it: at every state; along every history that matches the state; and of the data that is under way. What it leaves matches again, so
-- that these compose over any calls, whoever makes them.
use Rattle.std.specs.Prelude.{ℕ, zero, suc, ◌+◌, ◌-◌, ◌*◌, ◌≤◌, ◌<◌, ◌^◌, ◌≡◌, true, false, List, [], ◌∷◌, length, take, drop, get_or, Some}
use Rattle.rules.specs.Numbers.{place_start, elapsed}
use Rattle.rules.specs.Places.{no_place, place_of, is_at}
use Rattle.rules.specs.Soundness.{sound}
use Rattle.rules.specs.Sending.{first_carries, later_carries}
use Rattle.rules.specs.Calls.{State}
use Rattle.rules.specs.declared.Key.{Key}
use Rattle.rules.specs.declared.Place.{Place}
use Rattle.demands.specs.Machine.{Typed, SoundSummary}
use Rattle.demands.specs.Seen.{Seen}
use Rattle.demands.specs.History.{Segment, Told, EachIn, after}
use Rattle.demands.specs.Demand1.{Answered}
use Rattle.demands.specs.Demand2.{Shipment, Sender, Sendable, IsSent, header, count_in, segmented_in, sending_of, Slot, arrival_of, Comes, key_in, Spares, Saves, BeginsAs, Returns, Ready, place_after, CanTake}
use Rattle.demands.specs.Demand3.{Agrees, Accounted}
use Rattle.demands.specs.Timer.{Timed}
use Rattle.demands.specs.Release.{Released}
use Rattle.demands.specs.Soundness.{LeavesSound, NotBy1}
use Rattle.demands.specs.Exactly.{ByRules}

-- the first segment's age on the clock is its true age
abbrev pub Early : ℕ → ℕ → List Segment → Type 0
Early time ticks [] = Unit {0}
Early time ticks (x ∷ l) = (x.time < 2 ^ 32) × (x.ticks ≤ ticks) × (elapsed time x.time ≡ ticks - x.ticks)

-- a state and a history match: the state is what the history tells, ages on the clock are true ages, after an accepted opening the table is sound, and after any the summary is
pub record Matches (st : State) (h : Told) : Type 0 where
  pub typed : Typed st.table
  pub agrees : Agrees st h
  pub time : h.time < 2 ^ 32
  pub early : (k : Key) → Early h.time h.ticks (h.uncovered k)
  pub good : h.opened ≡ true → sound st.table ≡ true
  pub summary : SoundSummary st

-- demand 3, the timer, the release and soundness, by what was told; and the history goes on
pub record Met (h : Told) (x : Seen) : Type 0 where
  pub accounted : Accounted h x
  pub timed : EachIn Timed h x
  pub released : EachIn Released h x
  pub not1 : NotBy1 h x
  pub on : Matches x.left (after h x)

-- j segments of a shipment have arrived and nothing else touched their sequence: its place holds them
abbrev pub so_far : Shipment → ℕ → List ℕ
so_far x zero = []
so_far x (suc j) = take (first_carries (header x) x.request + j * later_carries (header x) x.request) x.whole

abbrev pub place_in : Shipment → State → ℕ → Place
place_in x st i = get_or st.table.places i no_place

pub record Underway (x : Shipment) (j : ℕ) (st : State) : Type 0 where
  pub ready : Ready x st
  pub place : ℕ
  pub there : place_of (key_in x) st.table.places ≡ Some place
  pub remaining : (place_in x st place).remaining.0 ≡ count_in x - j
  pub segments : (place_in x st place).segments ≡ j
  pub octets : (place_in x st place).octets ≡ length (so_far x j)
  pub instruction : (place_in x st place).instruction ≡ x.request.instruction
  pub saved : take (length (so_far x j)) (drop (place_start place) st.store) ≡ so_far x j

-- each segment of it can be sent from somewhere
abbrev pub CanBeSent : Shipment → Type 0
CanBeSent x = (k : ℕ) → k < count_in x → (a : Sender) × Sendable x a k

-- demand 2 of one arrival: alone, the first of several, a later one
pub record Arrives (y : Seen) (x : Shipment) : Type 0 where
  pub alone : segmented_in x ≡ false → Ready x y.before → (at : Slot) → Comes x y.before 0 at → y.call ≡ arrival_of x 0 at → Returns x y
  pub first : segmented_in x ≡ true → Ready x y.before → (at : Slot) → Comes x y.before 0 at → CanTake x y.before at → y.call ≡ arrival_of x 0 at
      → BeginsAs y.answer (place_after x y.before at) (is_at (place_after x y.before at)) × Underway x 1 y.left
  pub later : segmented_in x ≡ true → (j : ℕ) → 1 ≤ j → j < count_in x → Underway x j y.before → (at : Slot) → Comes x y.before j at → y.call ≡ arrival_of x j at
      → (suc j < count_in x → Saves y.answer × Underway x (suc j) y.left) × (suc j ≡ count_in x → Returns x y)

-- demand 2 of a call: what is sent, what arrives, and what is spared
pub record Carries (y : Seen) : Type 0 where
  pub sends : (x : Shipment) (a : Sender) (k : ℕ) → y.before ≡ a.state → y.call ≡ sending_of x a k → Sendable x a k → IsSent x a k y
  pub arrives : (x : Shipment) → CanBeSent x → Arrives y x
  pub spares : (x : Shipment) → CanBeSent x → (j : ℕ) → Underway x j y.before → Spares y.before (key_in x) y.call → Underway x j y.left

-- all that is demanded of a call; of an opening, which begins a history whatever was before it
pub record Demanded (x : Seen) : Type 0 where
  pub answered : Answered x
  pub sound : LeavesSound x
  pub exact : ByRules x
  pub along : (h : Told) → Matches x.before h → Met h x
  pub carries : Carries x

pub record Begun (x : Seen) : Type 0 where
  pub answered : Answered x
  pub sound : LeavesSound x
  pub exact : ByRules x
  pub along : (h : Told) → Met h x
