-- A trace as the code walks over it: what the record at the front of an input does.
use Rattle.std.specs.Prelude.{if◌then◌else◌, ℕ, ◌+◌, ◌*◌, ◌≤◌, ◌≡◌, not, ◌||◌, List, [], ◌∷◌, ltb, length, take}
use Rattle.rules.specs.Records.{record_length}
use Rattle.rules.specs.Arrival.{records_most}
use Rattle.rules.specs.Calls.{Lent, Outcome}
use Rattle.rules.specs.Trace.{Event, Opening, Segment, Clock, Release, Item, Registers, Happens, Stops, Sight, sight_of, is_known, body_length, item_of, is_opening, lent_after}
use Rattle.rules.specs.Listing.{decision_in}
use Rattle.trace_items.specs.declared.Happening.{Happening}
use Rattle.trace_events.specs.Events.{Stored, stored_in, replay_of, step_of, keeping}
use Rattle.trace_events.specs.declared.Replay.{Replay}
use Rattle.trace_turns.specs.declared.Met.{Met}
use Rattle.trace_turns.specs.declared.Met.TheVariants as met
use Rattle.trace_turns.specs.declared.Walk.{Walk}

-- what the front of an input is met as
pub data Front : Type 0 where
  Waiting : Front
  Stopping : Front
  Registering : Front
  Seeing : Sight → Front

-- what is done with it: what is held then, and how many octets are used
pub record Walked : Type 0 where
  pub front : Front
  pub held : Replay
  pub store : Stored
  pub lent : Lent
  pub used : ℕ

-- what the code says of an event: its kind, and its answer but for the table and the areas
abbrev pub kind_of : Event → ℕ
kind_of (Opening timer time) = 32
kind_of (Segment time association s) = 33
kind_of (Clock time) = 34
kind_of (Release association) = 35

abbrev pub happening_of : Event → Outcome → Happening
happening_of e o =
    record {
      decision = decision_in o.answer.decided;
      position = o.answer.position;
      kind = kind_of e;
      refusal = o.answer.refusal;
      records = o.answer.records;
      timeouts = o.answer.timeouts;
    }

abbrev pub met_of : Front → Met
met_of Waiting = met.Waits
met_of Stopping = met.Stops
met_of Registering = met.Registers
met_of (Seeing s) = met.Happens (happening_of s.event s.outcome)

-- a walk of the code
pub record OfWalk (want : Walked) (answer : Walk) (store' : Stored) (lent' : Lent) : Type 0 where
  pub answered : answer ≡ record { replay = want.held; met = met_of want.front; used = want.used }
  pub stored : store' ≡ want.store
  pub lends : lent' ≡ want.lent

-- the records that an event made are whole in the report area
abbrev pub Fits : Met → List ℕ → Type 0
Fits met.Waits report = Unit {0}
Fits met.Stops report = Unit {0}
Fits met.Registers report = Unit {0}
Fits (met.Happens h) report = (h.records ≤ records_most) × (record_length * h.records ≤ length report)

-- nothing is done and nothing is used
abbrev pub still : Replay → Met → Walk
still held m = record { replay = held; met = m; used = 0 }

abbrev pub staying : Front → Replay → Stored → Lent → Walked
staying front held store lent = record { front = front; held = held; store = store; lent = lent; used = 0 }

abbrev pub waiting : Replay → Stored → Lent → Walked
waiting = staying Waiting

abbrev pub stopping : Replay → Stored → Lent → Walked
stopping = staying Stopping

-- a registry record stops after the first open, and is kept before it
abbrev pub registering : Replay → Stored → Lent → ℕ → List ℕ → Walked
registering held store lent kind body =
    if held.begun then stopping held store lent else
    record { front = Registering; held = keeping held kind body; store = store; lent = lent; used = 3 }

abbrev pub register_of : Replay → ℕ → List ℕ → Walk
register_of held kind body =
    if held.begun then still held met.Stops else
    record { replay = keeping held kind body; met = met.Registers; used = 3 }

-- an event, and what is held after its step
abbrev pub happening : Replay → Stored → Lent → Event → ℕ → Walked
happening held store lent e used =
    let o : Outcome = step_of held store lent e in
    record {
      front = Seeing (sight_of (replay_of held store lent) e);
      held = record { registry = held.registry; length = held.length; table = o.state.table; begun = held.begun || is_opening e };
      store = stored_in o.state;
      lent = lent_after (replay_of held store lent) e o.answer;
      used = used;
    }

abbrev pub at_item : Replay → Stored → Lent → Item → ℕ → Walked
at_item held store lent (Registers []) used = stopping held store lent
at_item held store lent (Registers (kind ∷ body)) used = registering held store lent kind body
at_item held store lent (Happens e) used = happening held store lent e used
at_item held store lent Stops used = stopping held store lent

-- the record at the front; what is no whole record waits for more
unfoldable pub walked : Replay → Stored → Lent → List ℕ → Walked
walked held store lent [] = waiting held store lent
walked held store lent (kind ∷ l) =
    if not (is_known kind) then stopping held store lent else
    if ltb (length l) (body_length kind) then waiting held store lent else
    at_item held store lent (item_of kind (take (body_length kind) l)) (1 + body_length kind)
