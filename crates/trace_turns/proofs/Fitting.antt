-- What an event makes fits: as many records as an arrival may make, and the report area has room for them.
use Prim.Native.Nat.{ℕ, ◌≤◌}
use mathlib.Core.Path.{◌≡◌}
use mathlib.Core.Bool.{Bool, true, and-eq-true_iff}
use mathlib.Core.List.{List, [], ◌∷◌}
use native.Mathlib.Omega.{arith}
use borrow.Author.Tests.{ltb-false, not-true}
use lib.ListN.{length}
use Rattle.octets.proofs.Splice.{splice-length}
use Rattle.rules.specs.Numbers.{place_count}
use Rattle.rules.specs.Refusals.{accepted}
use Rattle.rules.specs.Records.{records_octets}
use Rattle.rules.specs.Sweep.{Sweeping, sweep, losses_by, report_least, clock_checks, release_checks}
use Rattle.rules.specs.Calls.{Lent, step}
use Rattle.rules.specs.Trace.{Event, Opening, Segment, Clock, Release, lent_after}
use Rattle.rules.specs.declared.Place.{Place}
use Rattle.rules.specs.declared.Table.{Table}
use Rattle.rules.proofs.Answers.{clock-by, clock-accepted, release-by, release-accepted}
use Rattle.rules.proofs.Arrival.{losses-few}
use Rattle.rules.proofs.Few.{Few, arrival-few}
use Rattle.trace_events.specs.Events.{Stored, replay_of, step_of, OfEvent}
use Rattle.trace_events.specs.declared.Replay.{Replay}
use Rattle.rules.specs.declared.Received.{Received}
use Rattle.trace_events.specs.contracts.Replay.{the_type}
use Rattle.trace_events.proofs.Replay.TheLaws.{the_laws}
use denote.Laws.{Is}
use denote.Struct.Declared.{row}
use denote.Struct.Laws.{val}

-- a sweep makes at most one a place
sweep-fits : (test : Place → Bool) (cause time : ℕ) (t : Table) (report : List ℕ) → length t.places ≡ place_count → report_least ≤ length report
    → Few (sweep test cause time t report).answer.records (sweep test cause time t report).report
unfolding sweep
sweep-fits test cause time t report n room =
    let f = losses-few test cause t.places in
    (omega arith, rw (splice-length report 0 (records_octets (losses_by test cause t.places))) (omega arith))

-- neither is made where the area is too short
clock-room : (t : Table) (report : List ℕ) (time : ℕ) → accepted (clock_checks t report time) ≡ true → report_least ≤ length report
unfolding clock_checks
clock-room t report time e = ltb-false _ _ (not-true _ (simp and-eq-true_iff at e).1.0)

release-room : (t : Table) (report : List ℕ) → accepted (release_checks t report) ≡ true → report_least ≤ length report
unfolding release_checks
release-room t report e = ltb-false _ _ (not-true _ (simp and-eq-true_iff at e).1.0)

none-fits : (report : List ℕ) → Few 0 report
none-fits report = (omega arith, omega arith)

event-fits : (held : Replay) (store : Stored) (lent : Lent) (e : Event) → length held.table.places ≡ place_count
    → Few (step_of held store lent e).answer.records (lent_after (replay_of held store lent) e (step_of held store lent e).answer).report
unfolding step
event-fits held store lent (Opening timer time) n = none-fits lent.report
event-fits held store lent (Segment time association s) n = arrival-few held.table store.summary store.store lent.report time association s n
event-fits held store lent (Clock time) n =
    clock-by held.table store.summary lent.report time (λ (o : Sweeping). Few o.answer.records o.report)
    (λ e. sweep-fits _ 6 time held.table lent.report n (clock-room held.table lent.report time (clock-accepted held.table store.summary lent.report time e).own))
    (λ e. none-fits lent.report)
event-fits held store lent (Release association) n =
    release-by held.table store.summary lent.report association (λ (o : Sweeping). Few o.answer.records o.report)
    (λ e. sweep-fits _ 7 held.table.clock held.table lent.report n (release-room held.table lent.report (release-accepted held.table store.summary lent.report association e).own))
    (λ e. none-fits lent.report)

-- what owning a replay tells: its table has 16 places
pub places-held : (held : Replay) → Is (row the_type) held (val the_type the_laws held ∷ []) → length held.table.places ≡ place_count
places-held held g = g.1.1.1.1.0.1.1.0.1.0.1

pub answer-fits : (held : Replay) (store : Stored) (lent : Lent) (e : Event) (answer : Received) (store' : Stored) (lent' : Lent) → length held.table.places ≡ place_count
    → OfEvent held store lent e answer store' lent' → Few answer.records lent'.report
answer-fits held store lent e answer store' lent' n p = rw (p.answered, p.lends) (event-fits held store lent e n)
