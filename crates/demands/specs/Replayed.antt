-- WHAT IS PRINTED of a trace, by replay, by records or by any other observer, is told by what is seen of a run that meets the demands: event by event, and the end.
use Rattle.std.specs.Prelude.{if◌then◌else◌, ℕ, ◌≡◌, Bool, true, false, List, [], ◌∷◌, ◌++◌, length}
use Rattle.rules.specs.Calls.{State, step}
use Rattle.rules.specs.Trace.{Item, Registers, Happens, Stops, items_of, Replay, beginning, call_of, happened, registered}
use Rattle.rules.specs.Trace.{Sight, sight_of, Observer, watching}
use Rattle.demands.specs.Machine.{ours}
use Rattle.demands.specs.Seen.{Seen, Chained, seen_by}
use Rattle.demands.specs.History.{silence, Along}
use Rattle.demands.specs.Demanded.{Met}

-- what is seen of the events of a trace, until it stops
unfoldable pub seen_in : Replay → List Item → List Seen
seen_in r [] = []
seen_in r (Stops ∷ items) = []
seen_in r (Registers octets ∷ items) = if r.begun then [] else seen_in (registered r octets) items
seen_in r (Happens e ∷ items) = seen_by ours r.state (call_of r e) ∷ seen_in (happened r e (step r.state (call_of r e))) items

-- .. and what an observer sees of them
unfoldable pub sights_in : Replay → List Item → List Sight
sights_in r [] = []
sights_in r (Stops ∷ items) = []
sights_in r (Registers octets ∷ items) = if r.begun then [] else sights_in (registered r octets) items
sights_in r (Happens e ∷ items) = sight_of r e ∷ sights_in (happened r e (step r.state (call_of r e))) items

-- whether the items stop the trace before the input's end
unfoldable pub stops_in : Replay → List Item → Bool
stops_in r [] = false
stops_in r (Stops ∷ items) = true
stops_in r (Registers octets ∷ items) = if r.begun then true else stops_in (registered r octets) items
stops_in r (Happens e ∷ items) = stops_in (happened r e (step r.state (call_of r e))) items

-- an observer sees an event as its call is seen: the call that a replay makes of it
pub record Sees (s : Sight) (x : Seen) : Type 0 where
  pub replay : Replay
  pub call : call_of replay s.event ≡ x.call
  pub before : s.before ≡ x.before
  pub answer : s.outcome.answer ≡ x.answer
  pub left : s.outcome.state ≡ x.left

abbrev pub AllSee : List Sight → List Seen → Type 0
AllSee [] [] = Unit {0}
AllSee [] (x ∷ xs) = ⊥
AllSee (s ∷ ss) [] = ⊥
AllSee (s ∷ ss) (x ∷ xs) = Sees s x × AllSee ss xs

-- what an observer prints, one sight after the other, and at the end
abbrev pub told_of : {M : Type 0} → Observer M → M → List Sight → State → Bool → List ℕ
told_of o m [] st stops = o.ends m st stops
told_of o m (s ∷ ss) st stops = o.tells m s ++ told_of o (o.keeps m s) ss st stops

-- the state that a run leaves
abbrev pub left_by : State → List Seen → State
left_by st [] = st
left_by st (x ∷ xs) = left_by x.left xs

-- what is printed is told by what is seen of calls, each seen as it was; the calls are a run from the unopened table, and each meets the demands by what was told before it
pub record Replayed {M : Type 0} (o : Observer M) (m : M) (trace : List ℕ) : Type 0 where
  pub prints : watching o m trace
      ≡ told_of o m (sights_in beginning (items_of (length trace) trace)) (left_by beginning.state (seen_in beginning (items_of (length trace) trace))) (stops_in beginning (items_of (length trace) trace))
  pub seen : AllSee (sights_in beginning (items_of (length trace) trace)) (seen_in beginning (items_of (length trace) trace))
  pub chained : Chained beginning.state (seen_in beginning (items_of (length trace) trace))
  pub met : Along Met silence (seen_in beginning (items_of (length trace) trace))
