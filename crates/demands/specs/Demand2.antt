-- DEMAND 2, the round trip. Data that we cut comes back unchanged when its segments arrive in order at a table with the same kind for the context, each at a time that is accepted, a
-- place is free for the first, the summary can count each (neither 21 nor 22 applies), and nothing else touches that sequence meanwhile: a timeout in a segment's own arrival does.
use Rattle.std.specs.Prelude.{if◌then◌else◌, ℕ, suc, ◌+◌, ◌*◌, ◌≤◌, ◌<◌, ◌^◌, ◌≡◌, Bool, true, false, ◌||◌, List, [], length, take, drop, Option}
use Rattle.octets.specs.Splice.{splice}
use Rattle.rules.specs.Numbers.{store_least}
use Rattle.rules.specs.Refusals.{nowhere, accepted}
use Rattle.rules.specs.Registry.{kind_of}
use Rattle.rules.specs.Layout.{fields_of}
use Rattle.rules.specs.Records.{delivered, record_length, address_of, record_octets}
use Rattle.rules.specs.Places.{place_of, lowest_free, is_at}
use Rattle.rules.specs.Soundness.{sound}
use Rattle.rules.specs.Receiving.{key_of, record_with}
use Rattle.rules.specs.Delivery.{delivery}
use Rattle.rules.specs.Sending.{header_length, is_segmented, count_of, segment_octets}
use Rattle.rules.specs.Calls.{State, Arrival, Call, Opens, Arrives, Ticks, Releases, Sends, to_send, lending, Decided, Undecided, As, Answer, step}
use Rattle.rules.specs.declared.Key.{Key}
use Rattle.rules.specs.declared.Record.{Record}
use Rattle.rules.specs.declared.Request.{Request}
use Rattle.rules.specs.declared.Decision.{Decision}
use Rattle.rules.specs.declared.Decision.TheVariants.{Refused, Saved, Delivered, Lost}
use Rattle.demands.specs.Machine.{Machine, checks_of, clock_of, clocked_by, whole_of, CanCount, All, InRange, Typed, SoundSummary}
use Rattle.demands.specs.Seen.{Seen, seen_by}
use Rattle.demands.specs.History.{records_in}

-- what is sent: the request but for the segment number, both addresses and the data; the kind of its context; and the association that carries it
pub record Shipment : Type 0 where
  pub request : Request
  pub origin : List ℕ
  pub destination : List ℕ
  pub whole : List ℕ
  pub kind : ℕ
  pub association : ℕ

-- the request for segment k
abbrev pub numbered : Request → ℕ → Request
numbered q k =
    record { context = q.context; instruction = q.instruction; reference = q.reference; room1 = q.room1; room = q.room; number = k }

abbrev pub header : Shipment → ℕ
header x = header_length x.kind x.request.context.0 x.origin x.destination

abbrev pub count_in : Shipment → ℕ
count_in x = count_of (header x) x.request (length x.whole)

abbrev pub segmented_in : Shipment → Bool
segmented_in x = is_segmented (header x) x.request (length x.whole)

-- the octets of segment k
abbrev pub segment_of : Shipment → ℕ → List ℕ
segment_of x k = segment_octets x.kind (numbered x.request k) x.origin x.destination x.whole

-- where a segment is sent from: a table and store, and an area. They may be others for each segment
pub record Sender : Type 0 where
  pub state : State
  pub area : List ℕ

abbrev pub sending_of : Shipment → Sender → ℕ → Call
sending_of x a k = to_send (numbered x.request k) x.origin x.destination x.whole a.area

-- segment k can be sent from there: the context has that kind, and none of sending's conditions for refusal holds, so that the table is sound and the area is long enough
pub record Sendable (x : Shipment) (a : Sender) (k : ℕ) : Type 0 where
  pub kind : kind_of a.state.table.registry x.request.context.0 ≡ x.kind
  pub good : accepted (checks_of a.state (sending_of x a k)) ≡ true

-- segment k is sent: the count of segments, and its octets at the front of the area; the rest of it stays, and so does the state
abbrev pub sent_by : Shipment → Sender → ℕ → Answer
sent_by x a k =
    record {
      refusal = 0;
      position = nowhere;
      records = 0;
      timeouts = 0;
      decided = Undecided;
      count = count_in x;
      length = length (segment_of x k);
      lent = lending [] (splice a.area 0 (segment_of x k));
    }

pub record IsSent (x : Shipment) (a : Sender) (k : ℕ) (y : Seen) : Type 0 where
  pub answer : y.answer ≡ sent_by x a k
  pub state : y.left ≡ a.state
  pub handed : y.handed ≡ []

-- the sequence's key, and the record that ends it
abbrev pub key_in : Shipment → Key
key_in x =
    record {
      association = x.association;
      context = x.request.context;
      origin = address_of x.origin;
      destination = address_of x.destination;
      reference = record { 0 = if segmented_in x then x.request.reference.0 else 255 };
    }

abbrev pub record_in : Shipment → Record
record_in x = record_with delivered 0 (key_in x) x.request.instruction (count_in x) (length x.whole)

-- an arrival's clock work makes no record of k
abbrev pub SparesTime : State → Key → Arrival → Type 0
SparesTime st k x = All (λ (r : Record). r.key ≡ k → ⊥) (clock_of st x).call.made

-- a call that does not touch the sequence of k at a state: by the rules, it is not accepted as a segment of k and makes no record of k
abbrev pub Spares : State → Key → Call → Type 0
Spares st k (Opens x) = ⊥
Spares st k (Arrives x) =
    (accepted (whole_of st x) ≡ true → SparesTime st k x)
    × (accepted (checks_of st (Arrives x)) ≡ true → key_of x.association x.parameter (fields_of st.table.registry x.parameter) ≡ k → ⊥)
Spares st k (Ticks x) = All (λ (r : Record). r.key ≡ k → ⊥) (records_in (step st (Ticks x)).answer)
Spares st k (Releases x) = All (λ (r : Record). r.key ≡ k → ⊥) (records_in (step st (Releases x)).answer)
Spares st k (Sends x) = Unit {0}

-- when a segment arrives, and the report area that is lent then
pub record Slot : Type 0 where
  pub time : ℕ
  pub report : List ℕ

-- segment k arrives
abbrev pub arrival_in : Shipment → ℕ → Slot → Arrival
arrival_in x k at = record { time = at.time; association = x.association; parameter = segment_of x k; report = at.report }

abbrev pub arrival_of : Shipment → ℕ → Slot → Call
arrival_of x k at = Arrives (arrival_in x k at)

-- .. at a time that is accepted; its clock work makes no record of its own sequence, and the summary can count it
pub record Comes (x : Shipment) (st : State) (k : ℕ) (at : Slot) : Type 0 where
  pub range : at.time < 2 ^ 32
  pub timely : accepted (whole_of st (arrival_in x k at)) ≡ true
  pub spares : SparesTime st (key_in x) (arrival_in x k at)
  pub counts : CanCount st (arrival_of x k at)

-- calls from a state on in which segments i, i + 1, .. below j arrive in order, each of which comes, and nothing else touches their sequence
pub data Meanwhile (m : Machine) (x : Shipment) : State → ℕ → State → ℕ → Type 0 where
  stop : {st : State} {i : ℕ} → Meanwhile m x st i st i
  mine : {st st' : State} {i j : ℕ} (at : Slot) → Comes x st i at → Meanwhile m x (m.step st (arrival_of x i at)).state (suc i) st' j → Meanwhile m x st i st' j
  other : {st st' : State} {i j : ℕ} (c : Call) → InRange c → Spares st (key_in x) c → Meanwhile m x (m.step st c).state i st' j → Meanwhile m x st i st' j

-- what an arrival is answered, behind the records of its clock work: saved with no record; the loss of what was saved before, for a restart; delivered
abbrev pub is_saved : Decided → Bool
is_saved Undecided = false
is_saved (As Refused) = false
is_saved (As (Saved p)) = true
is_saved (As (Delivered part)) = false
is_saved (As (Lost cause p)) = false

pub record Saves (a : Answer) : Type 0 where
  pub accepted : a.refusal ≡ 0
  pub saved : is_saved a.decided ≡ true
  pub records : a.records ≡ a.timeouts

pub record Restarts (a : Answer) (place : Option ℕ) : Type 0 where
  pub accepted : a.refusal ≡ 0
  pub lost : a.decided ≡ As (Lost 3 place)
  pub records : a.records ≡ a.timeouts + 1

-- how the first of several is answered, by the place of its key
abbrev pub BeginsAs : Answer → Option ℕ → Bool → Type 0
BeginsAs a place true = Restarts a place
BeginsAs a place false = Saves a

pub record Returns (x : Shipment) (y : Seen) : Type 0 where
  pub accepted : y.answer.refusal ≡ 0
  pub records : y.answer.records ≡ y.answer.timeouts + 1
  pub reported : take record_length (drop (y.answer.timeouts * record_length) y.answer.lent.report) ≡ record_octets (record_in x)
  pub handed : y.handed ≡ x.whole

-- the receiver's table and summary are sound, with the same kind for the context, and its store is long enough; the numbers are of their types
pub record Ready (x : Shipment) (st : State) : Type 0 where
  pub sound : sound st.table ≡ true
  pub typed : Typed st.table
  pub kind : kind_of st.table.registry x.request.context.0 ≡ x.kind
  pub store : store_least ≤ length st.store
  pub summary : SoundSummary st
  pub carrier : x.association < 2 ^ 16

-- the place of its key after an arrival's clock work
abbrev pub place_after : Shipment → State → Slot → Option ℕ
place_after x st at = place_of (key_in x) (clocked_by st (arrival_in x 0 at)).table.places

-- the first of several can be taken: after its clock work its key is open, or a place is free
abbrev pub CanTake : Shipment → State → Slot → Type 0
CanTake x st at = (is_at (place_after x st at) || is_at (lowest_free (clocked_by st (arrival_in x 0 at)).table.places)) ≡ true

pub record RoundTrip (m : Machine) (x : Shipment) (st : State) (at : Slot) : Type 0 where
  -- one segment: delivered at once
  pub alone : segmented_in x ≡ false → Returns x (seen_by m st (arrival_of x 0 at))
  -- several: the first is saved
  pub first : segmented_in x ≡ true → CanTake x st at → BeginsAs (m.step st (arrival_of x 0 at)).answer (place_after x st at) (is_at (place_after x st at))
  -- each later one but the last is saved, and the last delivers
  pub later : segmented_in x ≡ true → CanTake x st at → (j : ℕ) → j < count_in x → (st' : State) → Meanwhile m x (m.step st (arrival_of x 0 at)).state 1 st' j
      → (again : Slot) → Comes x st' j again
      → (suc j < count_in x → Saves (m.step st' (arrival_of x j again)).answer) × (suc j ≡ count_in x → Returns x (seen_by m st' (arrival_of x j again)))

pub record Demand2 (m : Machine) : Type 0 where
  -- every segment is made, wherever it can be sent from
  pub made : (x : Shipment) (a : Sender) (k : ℕ) → Sendable x a k → IsSent x a k (seen_by m a.state (sending_of x a k))
  -- what can be sent, each segment from somewhere, comes back
  pub back : (x : Shipment) (from : ℕ → Sender) → ((k : ℕ) → k < count_in x → Sendable x (from k) k)
      → (st : State) → Ready x st → (at : Slot) → Comes x st 0 at → RoundTrip m x st at
  -- and a delivery is the rule's, whatever decision it is asked for with
  pub delivers : (d : Decision) (s store : List ℕ) → m.deliver d s store ≡ delivery d s store
