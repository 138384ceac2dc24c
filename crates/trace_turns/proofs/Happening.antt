-- An event's walk.
use Prim.Native.Nat.{ℕ}
use mathlib.Core.Path.{◌≡◌, refl, ap, ◌∙◌}
use mathlib.Core.Bool.{Bool, ◌||◌}
use mathlib.Core.List.{List}
use lib.Dec.{eqb}
use Rattle.rules.specs.Calls.{Lent}
use Rattle.rules.specs.Trace.{is_opening}
use Rattle.rules.specs.declared.Received.{Received}
use Rattle.trace_items.specs.Reading.{event_meant, kind_for}
use Rattle.trace_items.specs.declared.Event as code
use Rattle.trace_items.specs.declared.Event.TheVariants as event
use Rattle.trace_events.specs.Events.{Stored, step_of, answer_of, OfEvent}
use Rattle.trace_events.specs.declared.Replay.{Replay}
use Rattle.trace_turns.specs.Turns.{OfWalk, kind_of, happening}
use Rattle.trace_turns.specs.declared.Met.TheVariants as met
use Rattle.trace_turns.specs.declared.Walk.{Walk}

opening-is : (e : code.Event) (body : List ℕ) → eqb (kind_for e) 32 ≡ is_opening (event_meant e body)
opening-is (event.Open timer time) body = refl
opening-is (event.Segment time association n) body = refl
opening-is (event.Clock time) body = refl
opening-is (event.Release association) body = refl

kind-is : (e : code.Event) (body : List ℕ) → kind_for e ≡ kind_of (event_meant e body)
kind-is (event.Open timer time) body = refl
kind-is (event.Segment time association n) body = refl
kind-is (event.Clock time) body = refl
kind-is (event.Release association) body = refl

-- the walk that the code makes of an answer, by the event's kind and whether it opens
abbrev walk_with : Replay → Received → ℕ → Bool → ℕ → Walk
walk_with held a kind opens used =
    record {
      replay = record { registry = held.registry; length = held.length; table = a.table; begun = held.begun || opens };
      met = met.Happens (record { decision = a.decision; position = a.position; kind = kind; refusal = a.refusal; records = a.records; timeouts = a.timeouts });
      used = used;
    }

walk-as : (held : Replay) (a a' : Received) (kind kind' : ℕ) (b b' : Bool) (used : ℕ) → a ≡ a' → kind ≡ kind' → b ≡ b' → walk_with held a kind b used ≡ walk_with held a' kind' b' used
walk-as held a a' kind kind' b b' used e f g = rw (e, f, g)

pub event-walk : (held : Replay) (store : Stored) (lent : Lent) (e : code.Event) (body : List ℕ) (kind used : ℕ) (answer : Received) (store' : Stored) (lent' : Lent)
    → kind ≡ kind_for e → OfEvent held store lent (event_meant e body) answer store' lent'
    → OfWalk (happening held store lent (event_meant e body) used) (walk_with held answer kind (eqb kind 32) used) store' lent'
event-walk held store lent e body kind used answer store' lent' k p =
    record {
      answered = walk-as held answer (answer_of (step_of held store lent (event_meant e body))) _ _ _ _ used p.answered (k ∙ kind-is e body) (ap (λ (x : ℕ). eqb x 32) k ∙ opening-is e body);
      stored = p.stored;
      lends = p.lends;
    }
