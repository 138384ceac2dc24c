-- TWO EXCHANGES BEHIND ONE GATEWAY (document 02, A3). One origin uses one reference towards two destinations. What we cut for both comes back unchanged, however the segments of the two
-- are interleaved, where two places are free and nothing else touches either sequence or takes a free place. It follows from demand 2.
use Rattle.std.specs.Prelude.{ℕ, suc, ◌<◌, ◌≡◌, true, length, get_or}
use Rattle.rules.specs.Places.{is_free, no_place}
use Rattle.rules.specs.Calls.{State, Call, step}
use Rattle.rules.specs.declared.Key.{Key}
use Rattle.demands.specs.Machine.{Machine, InRange}
use Rattle.demands.specs.Seen.{seen_by}
use Rattle.demands.specs.Demand2.{Shipment, count_in, key_in, SparesTime, Spares, Slot, arrival_in, arrival_of, Comes, Ready, Returns}
use Rattle.demands.specs.Demanded.{CanBeSent}

-- keys that differ in the destination alone
pub record OtherDestination (a b : Key) : Type 0 where
  pub association : a.association ≡ b.association
  pub context : a.context ≡ b.context
  pub origin : a.origin ≡ b.origin
  pub reference : a.reference ≡ b.reference
  pub destination : a.destination ≡ b.destination → ⊥

-- place p of a state is free
abbrev pub FreeAt : State → ℕ → Type 0
FreeAt st p = is_free (get_or st.table.places p no_place) ≡ true

-- two places are free
pub record TwoFree (st : State) : Type 0 where
  pub one : ℕ
  pub two : ℕ
  pub apart : one ≡ two → ⊥
  pub inside : (one < length st.table.places) × (two < length st.table.places)
  pub free : FreeAt st one × FreeAt st two

-- what is free stays free
abbrev pub TakesNone : State → State → Type 0
TakesNone st st' = (p : ℕ) → FreeAt st p → FreeAt st' p

-- calls from a state on in which segments of both arrive, each's in order and at a time that is accepted, and the summary can count each: i of x's and j of y's have arrived before, and i'
-- and j' after. No arrival's clock work makes a record of either. Other calls, by the rules, touch neither sequence and take no free place: so no machine gets out of it by what it takes
pub data Crossing (m : Machine) (x y : Shipment) : State → ℕ → ℕ → State → ℕ → ℕ → Type 0 where
  stop : {st : State} {i j : ℕ} → Crossing m x y st i j st i j
  of_one : {st st' : State} {i j i' j' : ℕ} (at : Slot) → i < count_in x → Comes x st i at → SparesTime st (key_in y) (arrival_in x i at)
      → Crossing m x y (m.step st (arrival_of x i at)).state (suc i) j st' i' j' → Crossing m x y st i j st' i' j'
  of_two : {st st' : State} {i j i' j' : ℕ} (at : Slot) → j < count_in y → Comes y st j at → SparesTime st (key_in x) (arrival_in y j at)
      → Crossing m x y (m.step st (arrival_of y j at)).state i (suc j) st' i' j' → Crossing m x y st i j st' i' j'
  other : {st st' : State} {i j i' j' : ℕ} (c : Call) → InRange c → Spares st (key_in x) c → Spares st (key_in y) c → TakesNone st (step st c).state
      → Crossing m x y (m.step st c).state i j st' i' j' → Crossing m x y st i j st' i' j'

-- the last segment of each brings back all of its data
pub record Exchanges (m : Machine) : Type 0 where
  pub both : (x y : Shipment) → CanBeSent x → CanBeSent y → OtherDestination (key_in x) (key_in y) → (st : State) → Ready x st → Ready y st → TwoFree st
      → (st' : State) (i j : ℕ) → Crossing m x y st 0 0 st' i j → (at : Slot)
      → (suc i ≡ count_in x → Comes x st' i at → Returns x (seen_by m st' (arrival_of x i at)))
      × (suc j ≡ count_in y → Comes y st' j at → Returns y (seen_by m st' (arrival_of y j at)))
