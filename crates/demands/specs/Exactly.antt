-- EXACTLY (the first sentence of demand 2). At every state and call that values of the types can be, answer, areas, delivery and state after are the rules'. It closes what
-- the other demands leave open.
use Rattle.std.specs.Prelude.{ℕ, ◌<◌, ◌^◌, ◌≡◌, List, length}
use Rattle.rules.specs.Numbers.{place_count, entries_most}
use Rattle.rules.specs.Records.{Filled}
use Rattle.rules.specs.Summary.{summary_length}
use Rattle.rules.specs.Calls.{State, Call, Opens, Arrives, Ticks, Releases, Sends, step}
use Rattle.rules.specs.declared.Address.{Address}
use Rattle.rules.specs.declared.Entry.{Entry}
use Rattle.rules.specs.declared.Place.{Place}
use Rattle.rules.specs.declared.Request.{Request}
use Rattle.demands.specs.Machine.{Machine, ours, parameter_of, All}
use Rattle.demands.specs.Seen.{Seen, handing, seen_by}

-- the values of the types: numbers of 8, 16, 32 and 64 bits, and arrays with as many elements as they have
abbrev pub Bits : ℕ → ℕ → Type 0
Bits n x = x < 2 ^ n

abbrev pub Octets : List ℕ → Type 0
Octets l = All (Bits 8) l

pub record OfAddress (a : Address) : Type 0 where
  pub size : Filled a
  pub octets : Octets a.octets
  pub length : Bits 8 a.length

pub record OfPlace (p : Place) : Type 0 where
  pub origin : OfAddress p.key.origin
  pub destination : OfAddress p.key.destination
  pub association : Bits 16 p.key.association
  pub context : Bits 16 p.key.context.0
  pub reference : Bits 8 p.key.reference.0
  pub octets : Bits 16 p.octets
  pub start : Bits 32 p.start
  pub mark : Bits 8 p.mark
  pub instruction : Bits 8 p.instruction
  pub remaining : Bits 8 p.remaining.0
  pub segments : Bits 8 p.segments

pub record OfEntry (e : Entry) : Type 0 where
  pub context : Bits 16 e.context.0
  pub kind : Bits 8 e.kind

pub record OfState (st : State) : Type 0 where
  pub count : length st.table.places ≡ place_count
  pub places : All OfPlace st.table.places
  pub entries : length st.table.registry ≡ entries_most
  pub registry : All OfEntry st.table.registry
  pub timer : Bits 32 st.table.timer
  pub clock : Bits 32 st.table.clock
  pub size : length st.summary ≡ summary_length
  pub summary : All (Bits 64) st.summary
  pub store : Octets st.store

pub record OfRequest (q : Request) : Type 0 where
  pub context : Bits 16 q.context.0
  pub instruction : Bits 8 q.instruction
  pub reference : Bits 8 q.reference.0
  pub room1 : Bits 64 q.room1
  pub room : Bits 64 q.room
  pub number : Bits 64 q.number

abbrev pub OfCall : Call → Type 0
OfCall (Opens x) = Octets x.registry × Bits 32 x.timer × Bits 32 x.time
OfCall (Arrives x) = Bits 32 x.time × Bits 16 x.association × Octets x.parameter × Octets x.report
OfCall (Ticks x) = Bits 32 x.time × Octets x.report
OfCall (Releases x) = Bits 16 x.association × Octets x.report
OfCall (Sends x) = OfRequest x.request × Octets x.origin × Octets x.destination × Octets x.whole × Octets x.area

-- a call as the rules have it
pub record ByRules (x : Seen) : Type 0 where
  pub answer : x.answer ≡ (step x.before x.call).answer
  pub state : x.left ≡ (step x.before x.call).state
  pub handed : x.handed ≡ handing ours x.answer.decided (parameter_of x.call) x.left.store

pub record Exactly (m : Machine) : Type 0 where
  pub every : (st : State) (c : Call) → OfState st → OfCall c → ByRules (seen_by m st c)
