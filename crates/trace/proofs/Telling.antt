-- What a watcher writes of a turn is what its observer prints.
use Rattle.std.proofs.Common.{if◌then◌else◌, ◌≡◌, ℕ, ◌+◌, ◌<◌, ◌≤◌, Bool, true, false, not, ◌&&◌, eqb, ltb, leb, List, [], ◌∷◌, ◌++◌, length, get_or, take, drop, sym, refl, ap, ◌∙◌, true≢false, arith, ltb-false, ltb-true, eqb-true, le-leb}
use mathlib.Core.Bool.{and-true, and-false}
use borrow.Author.Tests.{lt-leb}
use Rattle.octets.specs.Number.{number}
use Rattle.octets.proofs.Splice.{splice-nil, wrote_then}
use Rattle.octets.specs.Splice.{Wrote}
use Rattle.rules.specs.Records.{records_from}
use Rattle.rules.specs.Calls.{Lent, Answer, step}
use Rattle.rules.specs.Trace.{Event, Opening, Segment, Clock, Release, Item, Registers, Happens, is_known, body_length, item_of, is_opening, lent_after}
use Rattle.rules.specs.Layout.{octet}
use Rattle.rules.specs.Lines.{records_by, event_fields, counted}
use Rattle.rules.specs.Listing.{timeouts_field}
use Rattle.rules.specs.Totalling.{heading_line, row_lines}
use Rattle.trace_lines.specs.Printing.{counts_for, fields_for}
use Rattle.trace_records.specs.Listing.{timeouts_for}
use Rattle.trace_items.proofs.Items.{item_by}
use Rattle.trace_events.specs.Events.{Stored, state_with, replay_of, step_of}
use Rattle.trace_events.specs.declared.Replay.{Replay}
use Rattle.trace_turns.specs.Turns.{Front, Waiting, Stopping, Registering, Seeing, Walked, OfWalk, kind_of, met_of, waiting, stopping, registering, happening, at_item, walked}
use Rattle.trace_turns.specs.declared.Walk.{Walk}
use Rattle.trace.specs.Watching.{Watcher, Lines, Records, Totals, observer_of, ended_by, opens_next, first_if, told_by, Begins, count_by, stops_at, lines_of, memory_of, is_stop, OfTurn, turned}

pub ended_is : (held : Replay) (store : Stored) (which : Watcher) (events : ℕ) (stops : Bool)
    → ended_by which held.table.places store.summary stops ≡ (observer_of which).ends events (state_with held.table store) stops
ended_is held store Lines events stops = refl
ended_is held store Records events stops = refl
ended_is held store Totals events stops = refl

-- the code's test of it
pub opens-short : (input : List ℕ) → length input < 9 → false ≡ opens_next input
opens-short [] h = refl
opens-short (kind ∷ l) h = rw (lt-leb 8 (length l) (omega arith)) (sym (and-false (eqb kind 32)))

pub opens-long : (input : List ℕ) → 9 ≤ length input → eqb (get_or input 0 0) 32 ≡ opens_next input
opens-long [] h = absurd (let z : ⊥ = omega arith in z)
opens-long (kind ∷ l) h = rw (le-leb 8 (length l) (omega arith)) (sym (and-true (eqb kind 32)))

pub wrote_none : (out : List ℕ) (at : ℕ) → Wrote out at [] out at
wrote_none out at = record { place = omega arith; stored = sym (splice-nil out at) }

pub begins-low : (which : Watcher) (at : ℕ) → Begins which at → at ≤ 9408
begins-low Lines at h = omega arith
begins-low Records at h = omega arith
begins-low Totals at h = h

leb-not : (n : ℕ) → leb 8 n ≡ not (ltb n 8)
leb-not n = go (ltb n 8) refl
  where
    go : (b : Bool) → ltb n 8 ≡ b → leb 8 n ≡ not b
    go true e = lt-leb 8 n (ltb-true n 8 e)
    go false e = le-leb 8 n (ltb-false n 8 e)

-- whether an opening is met
abbrev opens_at : Front → Bool
opens_at Waiting = false
opens_at Stopping = false
opens_at Registering = false
opens_at (Seeing s) = is_opening s.event

module _ (held : Replay) (store : Stored) (lent : Lent) where
  -- what a walk can be
  pub by-walked : (P : Walked → Type 0) → P (waiting held store lent) → P (stopping held store lent)
      → ((kind : ℕ) (body : List ℕ) → P (registering held store lent kind body)) → ((e : Event) (used : ℕ) → P (happening held store lent e used))
      → (input : List ℕ) → P (walked held store lent input)
  unfolding walked
  by-walked P w s r h [] = w
  by-walked P w s r h (kind ∷ l) = go (is_known kind) (ltb (length l) (body_length kind))
    where
      go : (a b : Bool) → P (if not a then stopping held store lent else if b then waiting held store lent else
          at_item held store lent (item_of kind (take (body_length kind) l)) (1 + body_length kind))
      go false b = s
      go true true = w
      go true false =
          item_by (λ (i : Item). P (at_item held store lent i (1 + body_length kind))) kind (take (body_length kind) l)
          (λ e. h e (1 + body_length kind)) (λ two. r kind (take (body_length kind) l))

  abbrev answer : Event → Answer
  answer e = (step_of held store lent e).answer

  -- an event's fields by its kind octet; an opening makes no records, so that any report does
  fields-is : (e : Event) → fields_for (kind_of e) (answer e).refusal (answer e).position (answer e).records (lent_after (replay_of held store lent) e (answer e)).report ≡ event_fields e (answer e)
  unfolding fields_for counts_for event_fields step
  fields-is (Opening timer time) = refl
  fields-is (Segment time association s) = refl
  fields-is (Clock time) = refl
  fields-is (Release association) = refl

  records-are : (e : Event) → records_from (answer e).records (lent_after (replay_of held store lent) e (answer e)).report ≡ records_by (answer e)
  unfolding step
  records-are (Opening timer time) = refl
  records-are (Segment time association s) = refl
  records-are (Clock time) = refl
  records-are (Release association) = refl

  timeouts-are : (e : Event) (n : ℕ) → timeouts_for (kind_of e) n ≡ timeouts_field e n
  timeouts-are (Opening timer time) n = refl
  timeouts-are (Segment time association s) n = refl
  timeouts-are (Clock time) n = refl
  timeouts-are (Release association) n = refl

  opens-is : (e : Event) → eqb (kind_of e) 32 ≡ is_opening e
  opens-is (Opening timer time) = refl
  opens-is (Segment time association s) = refl
  opens-is (Clock time) = refl
  opens-is (Release association) = refl

  -- an opening is next exactly where one is met
  registry-front : (kind : ℕ) (body : List ℕ) → opens_at (registering held store lent kind body).front ≡ false
  registry-front kind body = go held.begun _
    where
      go : (b : Bool) (next : Replay) → opens_at (if b then stopping held store lent else record { front = Registering; held = next; store = store; lent = lent; used = 3 }).front ≡ false
      go true next = refl
      go false next = refl

  item-opens : (kind : ℕ) (body : List ℕ) (used : ℕ) → opens_at (at_item held store lent (item_of kind body) used).front ≡ eqb kind 32
  item-opens kind body used = go (eqb kind 32) (eqb kind 33) (eqb kind 34) (eqb kind 35)
    where
      go : (a b c d : Bool) → opens_at (at_item held store lent
          (if a then Happens (Opening (number (take 4 body)) (number (drop 4 body))) else
          if b then Happens (Segment (number (take 4 body)) (number (take 2 (drop 4 body))) (take (octet body 6) (drop 7 body))) else
          if c then Happens (Clock (number body)) else
          if d then Happens (Release (number body)) else
          Registers (kind ∷ body)) used).front ≡ a
      go true b c d = refl
      go false true c d = refl
      go false false true d = refl
      go false false false true = refl
      go false false false false = registry-front kind body

  pub opens-front : (input : List ℕ) → opens_next input ≡ opens_at (walked held store lent input).front
  unfolding walked
  opens-front [] = refl
  opens-front (kind ∷ l) = go (eqb kind 32) refl
    where
      known : (b c : Bool) → leb 8 (length l) ≡ not b → ltb (length l) 8 ≡ b
          → leb 8 (length l) ≡ opens_at (if ltb (length l) 8 then waiting held store lent else at_item held store lent (item_of 32 (take 8 l)) 9).front
      known true c e f = rw (e, f)
      known false c e f = rw (e, f)

      other : (a b : Bool) → eqb kind 32 ≡ false
          → opens_at (if not a then stopping held store lent else if b then waiting held store lent else at_item held store lent (item_of kind (take (body_length kind) l)) (1 + body_length kind)).front ≡ false
      other false b e = refl
      other true true e = refl
      other true false e = item-opens kind (take (body_length kind) l) (1 + body_length kind) ∙ e

      go : (a : Bool) → eqb kind 32 ≡ a → opens_next (kind ∷ l) ≡ opens_at (walked held store lent (kind ∷ l)).front
      go true e = let same : kind ≡ 32 = eqb-true kind 32 e in rw same (known (ltb (length l) 8) true (leb-not (length l)) refl)
      go false e = ap (λ (b : Bool). b && leb (body_length 32) (length l)) e ∙ sym (other (is_known kind) (ltb (length l) (body_length kind)) e)

  module _ (which : Watcher) (events : ℕ) where
    Told : Walked → Type 0
    Told w =
        first_if which (opens_at w.front) store.summary ++ told_by which events held.table.places w.store.summary (met_of w.front) w.lent.report
        ≡ lines_of (observer_of which) events (state_with held.table store) w.front

  none_first : (which : Watcher) → first_if which false store.summary ≡ []
  none_first Lines = refl
  none_first Records = refl
  none_first Totals = refl

  event-told : (which : Watcher) (events : ℕ) (e : Event) (used : ℕ) → Told which events (happening held store lent e used)
  unfolding Told
  event-told Lines events e used = rw (fields-is e)
  event-told Records events e used = rw (fields-is e, timeouts-are e (answer e).timeouts, records-are e, opens-is e)
  event-told Totals events e used = rw (opens-is e) (go (is_opening e))
    where
      go : (b : Bool) → (if b then row_lines store.summary else []) ++ (if b then heading_line (counted events) (answer e).refusal else [])
          ≡ (if b then row_lines store.summary ++ heading_line (counted events) (answer e).refusal else [])
      go true = refl
      go false = refl

  stop-told : (which : Watcher) (events : ℕ) → Told which events (stopping held store lent)
  unfolding Told
  stop-told which events = rw (none_first which) (ended_is held store which events true)

  wait-told : (which : Watcher) (events : ℕ) → Told which events (waiting held store lent)
  unfolding Told
  wait-told which events = rw (none_first which)

  registry-told : (which : Watcher) (events kind : ℕ) (body : List ℕ) → Told which events (registering held store lent kind body)
  unfolding Told
  registry-told which events kind body = go held.begun _
    where
      go : (b : Bool) (next : Replay) → Told which events (if b then stopping held store lent else record { front = Registering; held = next; store = store; lent = lent; used = 3 })
      go true next = stop-told which events
      go false next = rw (none_first which)

  told_is : (which : Watcher) (events : ℕ) (input : List ℕ) → Told which events (walked held store lent input)
  unfolding Told
  told_is which events input =
      by-walked (Told which events) (wait-told which events) (stop-told which events) (registry-told which events) (event-told which events) input

  -- nothing is printed before what stops
  stops_first : (which : Watcher) (input : List ℕ) (f : Front) → opens_next input ≡ opens_at f → stops_at (met_of f) ≡ true → first_if which (opens_next input) store.summary ≡ []
  stops_first which input Waiting e h = absurd (true≢false (sym h))
  stops_first which input Stopping e h = rw (e, none_first which)
  stops_first which input Registering e h = absurd (true≢false (sym h))
  stops_first which input (Seeing s) e h = absurd (true≢false (sym h))

  pub stop-begins : (which : Watcher) (input out out1 : List ℕ) (at : ℕ) (w : Walk) (store' : Stored) (lent' : Lent) → OfWalk (walked held store lent input) w store' lent'
      → Wrote out 0 (first_if which (opens_next input) store.summary) out1 at → stops_at w.met ≡ true → at ≡ 0
  stop-begins which input out out1 at w store' lent' p f h =
      let s = rw p.answered at h in
      f.place ∙ rw (stops_first which input (walked held store lent input).front (opens-front input) s)

  -- the code's count and stop are the observer's
  counts : (which : Watcher) (events : ℕ) (f : Front) → count_by events (met_of f) ≡ memory_of (observer_of which) events f
  counts which events Waiting = refl
  counts which events Stopping = refl
  counts which events Registering = refl
  counts Lines events (Seeing s) = refl
  counts Records events (Seeing s) = refl
  counts Totals events (Seeing s) = refl

  stops-is : (f : Front) → stops_at (met_of f) ≡ is_stop f
  stops-is Waiting = refl
  stops-is Stopping = refl
  stops-is Registering = refl
  stops-is (Seeing s) = refl

  pub step-turn : (which : Watcher) (events : ℕ) (input out : List ℕ) (w : Walk) (store' : Stored) (lent' : Lent) (out' : List ℕ) (written events' : ℕ) (ended : Bool)
      → OfWalk (walked held store lent input) w store' lent' → (out1 : List ℕ) (at : ℕ) → Wrote out 0 (first_if which (opens_next input) store.summary) out1 at
      → Wrote out1 at (told_by which events held.table.places store'.summary w.met lent'.report) out' written
      → events' ≡ count_by events w.met → ended ≡ stops_at w.met
      → OfTurn (turned (observer_of which) events held store lent input) out (record { replay = w.replay; events = events'; used = w.used; written = written; ended = ended }) store' lent' out'
  unfolding Told
  step-turn which events input out w store' lent' out' written events' ended p out1 at f t n s =
      record {
        replay = ap (λ (x : Walk). x.replay) p.answered;
        events = n ∙ rw p.answered (counts which events (walked held store lent input).front);
        used = ap (λ (x : Walk). x.used) p.answered;
        ended = s ∙ rw p.answered (stops-is (walked held store lent input).front);
        stored = p.stored;
        lends = p.lends;
        wrote = rw (← told_is which events input) (wrote_then (rw (opens-front input) at f) (rw (p.answered, p.stored, p.lends) at t));
      }
