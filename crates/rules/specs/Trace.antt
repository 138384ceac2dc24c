-- A trace, record by record, and what an observer prints of it. The observers: Lines (replay), Listing (records).
use Rattle.std.specs.Prelude.{if◌then◌else◌, ℕ, zero, suc, Bool, true, false, ◌&&◌, ◌||◌, List, [], ◌∷◌, ◌++◌, eqb, leb, length, take, drop, replicate}
use Rattle.octets.specs.Number.{number}
use Rattle.rules.specs.Numbers.{store_least}
use Rattle.rules.specs.Layout.{octet}
use Rattle.rules.specs.Arrival.{arrival_least}
use Rattle.rules.specs.Opening.{unopened}
use Rattle.rules.specs.Summary.{empty_summary}
use Rattle.rules.specs.Calls.{State, state_of, Call, to_open, to_arrive, to_tick, to_release, Lent, lending, Answer, Outcome, step}

-- each is one kind octet and a body whose length the kind fixes
abbrev pub is_known : ℕ → Bool
is_known kind = eqb kind 1 || eqb kind 2 || (leb 32 kind && leb kind 35)

abbrev pub body_length : ℕ → ℕ
body_length kind =
    if eqb kind 32 then 8 else
    if eqb kind 33 then 262 else
    if eqb kind 34 then 4 else 2

-- what prints a line: an open (T, clock), a segment (time, association, parameter), the clock (time), a release (association)
pub data Event : Type 0 where
  Opening : ℕ → ℕ → Event
  Segment : ℕ → ℕ → List ℕ → Event
  Clock : ℕ → Event
  Release : ℕ → Event

-- a record of a trace: a registry record, an event, or an end before the input's own
pub data Item : Type 0 where
  Registers : List ℕ → Item
  Happens : Event → Item
  Stops : Item

abbrev pub item_of : ℕ → List ℕ → Item
item_of kind body =
    if eqb kind 32 then Happens (Opening (number (take 4 body)) (number (drop 4 body))) else
    if eqb kind 33 then Happens (Segment (number (take 4 body)) (number (take 2 (drop 4 body))) (take (octet body 6) (drop 7 body))) else
    if eqb kind 34 then Happens (Clock (number body)) else
    if eqb kind 35 then Happens (Release (number body)) else
    Registers (kind ∷ body)

-- any other kind or a cut record stops; the first argument is at least the number of records
abbrev pub items_of : ℕ → List ℕ → List Item
items_of zero l = []
items_of (suc n) [] = []
items_of (suc n) (kind ∷ l) =
    if is_known kind && leb (body_length kind) (length l)
    then item_of kind (take (body_length kind) l) ∷ items_of n (drop (body_length kind) l)
    else Stops ∷ []

-- what a replay hands on: the registry as read, whether an open has been met, the state and the areas that are lent beside the store
pub record Replay : Type 0 where
  pub registry : List ℕ
  pub begun : Bool
  pub state : State
  pub lent : Lent

-- an event before open meets the unopened table
abbrev pub beginning : Replay
beginning =
    record {
      registry = [];
      begun = false;
      state = state_of unopened empty_summary (replicate store_least 0);
      lent = lending (replicate arrival_least 0) [];
    }

-- every open uses the whole registry as read
abbrev pub call_of : Replay → Event → Call
call_of r (Opening timer time) = to_open r.registry timer time
call_of r (Segment time association s) = to_arrive time association s r.lent.report
call_of r (Clock time) = to_tick time r.lent.report
call_of r (Release association) = to_release association r.lent.report

abbrev pub is_opening : Event → Bool
is_opening (Opening timer time) = true
is_opening (Segment time association s) = false
is_opening (Clock time) = false
is_opening (Release association) = false

-- an opening lends none: they stay
abbrev pub lent_after : Replay → Event → Answer → Lent
lent_after r e a = if is_opening e then r.lent else a.lent

abbrev pub happened : Replay → Event → Outcome → Replay
happened r e o = record { registry = r.registry; begun = r.begun || is_opening e; state = o.state; lent = lent_after r e o.answer }

abbrev pub registered : Replay → List ℕ → Replay
registered r octets = record { registry = r.registry ++ octets; begun = r.begun; state = r.state; lent = r.lent }

-- what is seen of an event: the state that it meets, and what comes of it
pub record Sight : Type 0 where
  pub before : State
  pub event : Event
  pub outcome : Outcome

abbrev pub sight_of : Replay → Event → Sight
sight_of r e = record { before = r.state; event = e; outcome = step r.state (call_of r e) }

-- an observer has a memory M: what it prints of an event, what it keeps for the next, and what it prints at the end, whether the trace stops or the input ends there
pub record Observer (M : Type 0) : Type 0 where
  pub tells : M → Sight → List ℕ
  pub keeps : M → Sight → M
  pub ends : M → State → Bool → List ℕ

-- what it prints of a trace; a registry record after the first open stops
unfoldable pub watched : {M : Type 0} → Observer M → M → Replay → List Item → List ℕ
watched o m r [] = o.ends m r.state false
watched o m r (Stops ∷ items) = o.ends m r.state true
watched o m r (Registers octets ∷ items) = if r.begun then o.ends m r.state true else watched o m (registered r octets) items
watched o m r (Happens e ∷ items) =
    let s : Sight = sight_of r e in
    o.tells m s ++ watched o (o.keeps m s) (happened r e s.outcome) items

-- .. from the beginning, by its octets
unfoldable pub watching : {M : Type 0} → Observer M → M → List ℕ → List ℕ
watching o m trace = watched o m beginning (items_of (length trace) trace)
