-- What the readers answer, in the words of the rule of traces.
use Rattle.std.specs.Prelude.{if◌then◌else◌, ℕ, List, ◌∷◌, take, drop, Option, Some, None}
use Rattle.rules.specs.Trace.{Item, Registers, Happens, Opening, Clock, Release, is_known, body_length}
use Rattle.rules.specs.Trace as trace
use Rattle.trace_items.specs.declared.Event as code
use Rattle.trace_items.specs.declared.Event.TheVariants as event

abbrev pub body_of : ℕ → Option ℕ
body_of kind = if is_known kind then Some (body_length kind) else None

-- of a segment's body, the first length octets past time, association and length count
abbrev pub event_meant : code.Event → List ℕ → trace.Event
event_meant (event.Open timer time) body = Opening timer time
event_meant (event.Segment time association n) body = trace.Segment time association (take n (drop 7 body))
event_meant (event.Clock time) body = Clock time
event_meant (event.Release association) body = Release association

-- a record with no event registers
abbrev pub item_meant : Option code.Event → ℕ → List ℕ → Item
item_meant None kind body = Registers (kind ∷ body)
item_meant (Some e) kind body = Happens (event_meant e body)

-- the kind of an event's record
abbrev pub kind_for : code.Event → ℕ
kind_for (event.Open timer time) = 32
kind_for (event.Segment time association n) = 33
kind_for (event.Clock time) = 34
kind_for (event.Release association) = 35
