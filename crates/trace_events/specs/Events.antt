-- An event as the code does it: its call, and the registry records that are kept.
use Rattle.std.specs.Prelude.{if◌then◌else◌, ℕ, ◌+◌, ◌≡◌, List, [], ◌∷◌, ltb, take}
use Rattle.octets.specs.Splice.{splice}
use Rattle.rules.specs.Refusals.{nowhere}
use Rattle.rules.specs.Calls.{State, state_of, Lent, lending, Outcome, step}
use Rattle.rules.specs.Trace.{Event, call_of, lent_after}
use Rattle.rules.specs.Trace as trace
use Rattle.rules.specs.Listing.{decision_in}
use Rattle.rules.specs.declared.Table.{Table}
use Rattle.rules.specs.declared.Opened.{Opened}
use Rattle.rules.specs.declared.Received.{Received}
use Rattle.rules.specs.declared.Swept.{Swept}
use Rattle.rules.specs.declared.Decision.TheVariants.{Refused}
use Rattle.trace_events.specs.declared.Areas.{Areas}
use Rattle.trace_events.specs.declared.Replay.{Replay}

-- what a replay hands on beside the table, lent: the summary and the store
pub record Stored : Type 0 where
  pub summary : List ℕ
  pub store : List ℕ

abbrev pub stored_of : List ℕ → List ℕ → Stored
stored_of m store = record { summary = m; store = store }

abbrev pub stored_in : State → Stored
stored_in st = stored_of st.summary st.store

abbrev pub state_with : Table → Stored → State
state_with t k = state_of t k.summary k.store

-- .. as they are lent, and the areas beside them
abbrev pub stored_by : Areas → Stored
stored_by a = stored_of a.summary.now a.store.now

abbrev pub lent_by : Areas → Lent
lent_by a = lending a.report.now []

-- the same areas, whatever they hold
abbrev pub Same : Areas → Areas → Type 0
Same a b = (b.summary.ghost_name ≡ a.summary.ghost_name) × (b.store.ghost_name ≡ a.store.ghost_name) × (b.report.ghost_name ≡ a.report.ghost_name)

-- the registry as kept
abbrev pub registry_of : Replay → List ℕ
registry_of held = take held.length held.registry

-- the rule's replay that the code holds, with the summary, the store and the other lent areas
abbrev pub replay_of : Replay → Stored → Lent → trace.Replay
replay_of held store lent =
    record { registry = registry_of held; begun = held.begun; state = state_with held.table store; lent = lent }

-- the answers of calls that decide nothing
abbrev pub answer_undecided : Table → ℕ → ℕ → Received
answer_undecided table refusal records = record { table = table; decision = Refused; position = nowhere; refusal = refusal; records = records; timeouts = 0 }

abbrev pub answer_opened : Opened → Received
answer_opened o = answer_undecided o.table o.refusal 0

abbrev pub answer_swept : Swept → Received
answer_swept o = answer_undecided o.table o.refusal o.records

-- what an event does is the rules' own step
abbrev pub step_of : Replay → Stored → Lent → Event → Outcome
step_of held store lent e = let r : trace.Replay = replay_of held store lent in step r.state (call_of r e)

-- what the code answers of an outcome
abbrev pub answer_of : Outcome → Received
answer_of o =
    record {
      table = o.state.table;
      decision = decision_in o.answer.decided;
      position = o.answer.position;
      refusal = o.answer.refusal;
      records = o.answer.records;
      timeouts = o.answer.timeouts;
    }

pub record OfEvent (held : Replay) (store : Stored) (lent : Lent) (e : Event) (answer : Received) (store' : Stored) (lent' : Lent) : Type 0 where
  pub answered : answer ≡ answer_of (step_of held store lent e)
  pub stored : store' ≡ stored_in (step_of held store lent e).state
  pub lends : lent' ≡ lent_after (replay_of held store lent) e (step_of held store lent e).answer

-- a registry record is kept, unless nine are: with nine, an open is refused as with more
abbrev pub keeping : Replay → ℕ → List ℕ → Replay
keeping held kind body =
    if ltb 24 held.length then held else
    record { registry = splice held.registry held.length (kind ∷ body); length = held.length + 3; table = held.table; begun = held.begun }
