-- THE LOOPBACK: data is cut by the sender, and each segment is handed to the receiver as it is cut. Both use the caller's table, and the sender's stays as it came.
use Rattle.std.specs.Prelude.{ℕ, ◌+◌, ◌≡◌, Bool, true, not, List, [], ◌∷◌, ◌++◌, leb, length, take, get_or}
use Rattle.rules.specs.Numbers.{store_least, parameter_most}
use Rattle.rules.specs.Refusals.{Check, ◌when◌, ◌for◌under◌, accepted, judged}
use Rattle.rules.specs.Arrival.{arrival_least}
use Rattle.rules.specs.Registry.{kind_of}
use Rattle.rules.specs.Places.{lowest_free, is_at}
use Rattle.rules.specs.Soundness.{sound}
use Rattle.rules.specs.Summary.{every_below, total_count, total_most, row_for, summary_sound}
use Rattle.rules.specs.Delivery.{delivery}
use Rattle.rules.specs.Sending.{sending_checks}
use Rattle.rules.specs.Calls.{state_of, Lent}
use Rattle.rules.specs.declared.Table.{Table}
use Rattle.demands.specs.Demand2.{Shipment, numbered, count_in}
use Rattle.loop_laps.specs.Laps.{Asked, Lap, laps, standing}
use Rattle.loop_laps.specs.declared.Looped.{Looped}

-- what is sent, as demand 2 has it
abbrev pub shipment_in : Asked → Shipment
shipment_in x =
    record {
      request = x.request;
      origin = x.origin;
      destination = x.destination;
      whole = x.whole;
      kind = kind_of x.table.registry x.request.context.0;
      association = x.association;
    }

-- every total leaves room for a loopback, which adds less than 65,536 to any: at most 10 segments of at most 255 octets each, and what a restart loses
unfoldable pub is_roomy : List ℕ → Bool
is_roomy m = every_below total_count (λ k. leb (get_or m (128 + k) 0 + 65536) total_most)

-- the summary's own: the association has a row or can get one, and every total has room
abbrev pub count_checks : List ℕ → ℕ → List Check
count_checks m association =
    21 when not (is_at (row_for m association)) ∷
    22 when not (is_roomy m) ∷ []

-- the conditions: summary and table are sound, the areas are long enough for any arrival, a place is free, the summary can count all that may be counted, and none
-- of sending's own applies
abbrev pub fit_checks : Table → List ℕ → ℕ → ℕ → ℕ → ℕ → List Check
fit_checks t m association store report area =
    1 when not (summary_sound m t.places) ∷
    1 when not (sound t) ∷
    2 for store under store_least ∷
    3 for report under arrival_least ∷
    20 for area under parameter_most ∷
    10 when not (is_at (lowest_free t.places)) ∷ count_checks m association

unfoldable pub loop_checks : Asked → List ℕ → List ℕ → Lent → List Check
loop_checks x m store lent =
    fit_checks x.table m x.association (length store) (length lent.report) (length lent.area)
    ++ sending_checks x.table (numbered x.request 0) x.origin x.destination x.whole lent.area

pub record Looping : Type 0 where
  pub number : ℕ
  pub lap : Lap

-- refused by the first condition that fails, with nothing changed; or all segments
unfoldable pub looping : Asked → List ℕ → List ℕ → Lent → Looping
looping x m store lent =
    judged (loop_checks x m store lent)
    (λ n. record { number = n; lap = standing (state_of x.table m store) lent })
    (record { number = 0; lap = laps (count_in (shipment_in x)) 0 x (standing (state_of x.table m store) lent) })

-- the answer by value
abbrev pub looped_of : Looping → Looped
looped_of o = record { table = o.lap.state.table; decision = o.lap.decision; length = o.lap.length; number = o.number }

pub record OfLoopback (x : Asked) (m store : List ℕ) (areas : Lent) (answer : Looped) (m' store' : List ℕ) (areas' : Lent) : Type 0 where
  pub answered : answer ≡ looped_of (looping x m store areas)
  pub summed : m' ≡ (looping x m store areas).lap.state.summary
  pub stored : store' ≡ (looping x m store areas).lap.state.store
  pub lent : areas' ≡ (looping x m store areas).lap.lent
  -- its number is 0 exactly where no condition fails
  pub only : answer.number ≡ 0 → accepted (loop_checks x m store areas) ≡ true
  pub always : accepted (loop_checks x m store areas) ≡ true → answer.number ≡ 0
  -- and then the delivery asked for with the answer, the last segment and the store is the data
  pub returned : answer.number ≡ 0 → delivery answer.decision (take answer.length areas'.area) store' ≡ x.whole
