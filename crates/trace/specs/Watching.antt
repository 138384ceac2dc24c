-- A trace as it is watched: what one record does and what an observer prints of it, and a block of records.
use Rattle.std.specs.Prelude.{if◌then◌else◌, ◌≡◌, ℕ, zero, suc, ◌+◌, ◌-◌, ◌≤◌, Bool, true, false, not, ◌&&◌, ◌||◌, List, [], ◌∷◌, ◌++◌, length, drop, ◌==◌, nat_le, nat_lt}
use Rattle.octets.specs.Splice.{Wrote}
use Rattle.rules.specs.Calls.{State, Lent}
use Rattle.rules.specs.Trace.{body_length, Observer}
use Rattle.rules.specs.Lines.{stop_if, counted, lining}
use Rattle.rules.specs.Listing.{listing}
use Rattle.rules.specs.Totalling.{heading_line, row_lines, totalling}
use Rattle.rules.specs.declared.Place.{Place}
use Rattle.trace_items.specs.declared.Happening.{Happening}
use Rattle.trace_events.specs.Events.{Stored, state_with}
use Rattle.trace_events.specs.declared.Replay.{Replay}
use Rattle.trace_turns.specs.Turns.{Front, Waiting, Stopping, Registering, Seeing, Walked, walked}
use Rattle.trace_turns.specs.declared.Met.{Met}
use Rattle.trace_turns.specs.declared.Met.TheVariants as met
use Rattle.trace_lines.specs.Printing as lines
use Rattle.trace_records.specs.Listing as records
use Rattle.trace.specs.declared.Progress.{Progress}

-- who watches: the programs replay, records, totals
pub data Watcher : Type 0 where
  Lines : Watcher
  Records : Watcher
  Totals : Watcher

-- the observer that a watcher is
abbrev pub observer_of : Watcher → Observer ℕ
observer_of Lines = lining
observer_of Records = listing
observer_of Totals = totalling

-- what a watcher writes, by what the code knows: the places before, the summary, what was met, the report area after
abbrev pub ended_by : Watcher → List Place → List ℕ → Bool → List ℕ
ended_by Lines places m stops = stop_if stops
ended_by Records places m stops = records.end_for places stops
ended_by Totals places m stops = row_lines m ++ stop_if stops

-- before the call: an opening empties the rows, so that they are written first
abbrev pub opens_next : List ℕ → Bool
opens_next [] = false
opens_next (kind ∷ l) = kind == 32 && nat_le (body_length 32) (length l)

abbrev pub first_if : Watcher → Bool → List ℕ → List ℕ
first_if Lines opens m = []
first_if Records opens m = []
first_if Totals opens m = if opens then row_lines m else []

-- .. and after it
abbrev pub event_by : Watcher → ℕ → List Place → Happening → List ℕ → List ℕ
event_by Lines events places h report = lines.line_for h.kind h.refusal h.position h.records report
event_by Records events places h report = records.listing_for (counted events) h report places
event_by Totals events places h report = if h.kind == 32 then heading_line (counted events) h.refusal else []

abbrev pub told_by : Watcher → ℕ → List Place → List ℕ → Met → List ℕ → List ℕ
told_by which events places m met.Waits report = []
told_by which events places m met.Stops report = ended_by which places m true
told_by which events places m met.Registers report = []
told_by which events places m (met.Happens h) report = event_by which events places h report

-- where a watcher goes on writing: only totals has anything before
abbrev pub Begins : Watcher → ℕ → Type 0
Begins Lines at = at ≡ 0
Begins Records at = at ≡ 0
Begins Totals at = at ≤ 9408

abbrev pub count_by : ℕ → Met → ℕ
count_by events met.Waits = events
count_by events met.Stops = events
count_by events met.Registers = events
count_by events (met.Happens h) = counted events

abbrev pub stops_at : Met → Bool
stops_at met.Waits = false
stops_at met.Stops = true
stops_at met.Registers = false
stops_at (met.Happens h) = false

-- the same of any observer, by what is seen
module _ {M : Type 0} (o : Observer M) where
  abbrev pub lines_of : M → State → Front → List ℕ
  lines_of m st Waiting = []
  lines_of m st Stopping = o.ends m st true
  lines_of m st Registering = []
  lines_of m st (Seeing s) = o.tells m s

  abbrev pub memory_of : M → Front → M
  memory_of m Waiting = m
  memory_of m Stopping = m
  memory_of m Registering = m
  memory_of m (Seeing s) = o.keeps m s

abbrev pub is_stop : Front → Bool
is_stop Waiting = false
is_stop Stopping = true
is_stop Registering = false
is_stop (Seeing s) = false

-- what is done with the front of an input: what is printed, what is kept and held then, how many octets are used, whether the trace has stopped
pub record Turned (M : Type 0) : Type 0 where
  pub lines : List ℕ
  pub memory : M
  pub held : Replay
  pub store : Stored
  pub lent : Lent
  pub used : ℕ
  pub ended : Bool

-- a turn of the code: the lines are at the front of the lent area, and the rest of it stays
pub record OfTurn (want : Turned ℕ) (out : List ℕ) (answer : Progress) (store' : Stored) (lent' : Lent) (out' : List ℕ) : Type 0 where
  pub replay : answer.replay ≡ want.held
  pub events : answer.events ≡ want.memory
  pub used : answer.used ≡ want.used
  pub ended : answer.ended ≡ want.ended
  pub stored : store' ≡ want.store
  pub lends : lent' ≡ want.lent
  pub wrote : Wrote out 0 want.lines out' answer.written

-- no watcher prints more of one event
abbrev pub told_most : ℕ
told_most = 16384

module _ {M : Type 0} (o : Observer M) where
  abbrev pub turn_of : M → State → Walked → Turned M
  turn_of m st w =
      record {
        lines = lines_of o m st w.front;
        memory = memory_of o m w.front;
        held = w.held;
        store = w.store;
        lent = w.lent;
        used = w.used;
        ended = is_stop w.front;
      }

  -- the record at the front
  abbrev pub turned : M → Replay → Stored → Lent → List ℕ → Turned M
  turned m held store lent input = turn_of m (state_with held.table store) (walked held store lent input)

  -- nothing is done
  abbrev pub resting : M → Replay → Stored → Lent → Turned M
  resting m held store lent = record { lines = []; memory = m; held = held; store = store; lent = lent; used = 0; ended = false }

  abbrev pub joined : Turned M → Turned M → Turned M
  joined a b =
      record { lines = a.lines ++ b.lines; memory = b.memory; held = b.held; store = b.store; lent = b.lent; used = a.used + b.used; ended = b.ended }

  -- so many turns at most, as long as there is room for what one prints
  unfoldable pub runs : ℕ → ℕ → M → Replay → Stored → Lent → List ℕ → Turned M
  runs zero room m held store lent input = resting m held store lent
  runs (suc n) room m held store lent input =
      let t : Turned M = turned m held store lent input in
      if nat_lt room told_most then resting m held store lent else
      if t.ended || t.used == 0 then t else
      joined t (runs n (room - length t.lines) t.memory t.held t.store t.lent (drop t.used input))

  -- where the input has ended, with so many octets left
  abbrev pub end_of : M → Replay → Stored → ℕ → List ℕ
  end_of m held store left = o.ends m (state_with held.table store) (not (left == 0))
