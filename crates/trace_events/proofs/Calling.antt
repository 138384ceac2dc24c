-- An event's call is the rules' own step.
use Prim.Native.Nat.{ℕ}
use mathlib.Core.Path.{◌≡◌, refl, ap, ◌∙◌}
use mathlib.Core.List.{List, []}
use Rattle.rules.specs.Opening.{opening}
use Rattle.rules.specs.Summary.{empty_summary}
use Rattle.rules.specs.Calls.{Lent, lending, step}
use Rattle.rules.specs.Promises.{OfArrival, OfClock, OfRelease}
use Rattle.rules.specs.Trace.{Opening, Segment, Clock, Release}
use Rattle.rules.specs.declared.Table.{Table}
use Rattle.rules.specs.declared.Received.{Received}
use Rattle.rules.specs.declared.Swept.{Swept}
use Rattle.trace_events.specs.Events.{Stored, stored_of, registry_of, answer_opened, answer_swept, OfEvent}
use Rattle.trace_events.specs.declared.Replay.{Replay}

-- an arrival, by the octets that its body has of it
pub of_part : (t : Table) (m store report : List ℕ) (time association : ℕ) (s s' : List ℕ) (r : Received) (m' store' report' : List ℕ) → s ≡ s'
    → OfArrival t m store report time association s r m' store' report' → OfArrival t m store report time association s' r m' store' report'
of_part t m store report time association s s' r m' store' report' e p = rw (← e) p

-- the areas, where only one for records is lent
abbrev lent_to : List ℕ → Lent
lent_to report = lending report []

module _ (held : Replay) (m store report : List ℕ) (answer : Received) (m' : List ℕ) where
  abbrev before : Stored
  before = stored_of m store

  pub of-opening : (timer time : ℕ) → answer ≡ answer_opened (opening (registry_of held) timer time) → m' ≡ empty_summary
      → OfEvent held before (lent_to report) (Opening timer time) answer (stored_of m' store) (lent_to report)
  unfolding step
  of-opening timer time a e = record { answered = a; stored = λ i. stored_of (e i) store; lends = refl }

  pub of-arrival : (time association : ℕ) (s store' report' : List ℕ) → OfArrival held.table m store report time association s answer m' store' report'
      → OfEvent held before (lent_to report) (Segment time association s) answer (stored_of m' store') (lent_to report')
  unfolding step
  of-arrival time association s store' report' p = record { answered = p.answered; stored = λ i. stored_of (p.summed i) (p.stored i); lends = ap lent_to p.reported }

  pub of-clock : (time : ℕ) (o : Swept) (report' : List ℕ) → OfClock held.table m report time o m' report' → answer ≡ answer_swept o
      → OfEvent held before (lent_to report) (Clock time) answer (stored_of m' store) (lent_to report')
  unfolding step
  of-clock time o report' p a = record { answered = a ∙ ap answer_swept p.answered; stored = λ i. stored_of (p.summed i) store; lends = ap lent_to p.reported }

  pub of-release : (association : ℕ) (o : Swept) (report' : List ℕ) → OfRelease held.table m report association o m' report' → answer ≡ answer_swept o
      → OfEvent held before (lent_to report) (Release association) answer (stored_of m' store) (lent_to report')
  unfolding step
  of-release association o report' p a = record { answered = a ∙ ap answer_swept p.answered; stored = λ i. stored_of (p.summed i) store; lends = ap lent_to p.reported }
