-- From the promise of each call to what is demanded of it: what is seen of it is what the rules show.
use Rattle.std.specs.Prelude.{Option, Some, None}
use Prim.Native.Nat.{ℕ, ◌<◌, ◌^◌}
use native.Mathlib.Omega.{arith}
use borrow.Author.Tests.{ne_eqb}
use mathlib.Core.Path.{◌≡◌, refl, sym, ap, subst, ◌∙◌}
use mathlib.Core.List.{List, []}
use lib.ListN.{length, length-map}
use Rattle.rules.specs.Numbers.{place_count}
use Rattle.rules.specs.Places.{holds, place_of, number_of, found_at}
use Rattle.rules.specs.Delivery.{delivery}
use Rattle.rules.specs.Receiving.{Reception, key_of, effect_of}
use Rattle.rules.specs.Summary.{Counted, empty_summary}
use Rattle.rules.specs.Sweep.{sweep}
use Rattle.rules.specs.Arrival.{clock_work, table_after, arrival}
use Rattle.rules.specs.Layout.{fields_of}
use Rattle.rules.specs.Promises.{OfOpening, OfArrival, OfClock, OfRelease, OfSending}
use Rattle.rules.specs.Calls.{State, state_of, step, to_arrive, to_tick, to_release, to_send, after_sending}
use Rattle.rules.specs.declared.Key.{Key}
use Rattle.rules.specs.declared.Place.{Place}
use Rattle.rules.specs.declared.Table.{Table}
use Rattle.rules.specs.declared.Fields.{Fields}
use Rattle.rules.specs.declared.Line.{Line}
use Rattle.rules.specs.declared.Line.TheVariants.{Unsegmented, Broken, Restart, Start, Final, Next}
use Rattle.rules.specs.declared.Request.{Request}
use Rattle.rules.specs.declared.Opened.{Opened}
use Rattle.rules.specs.declared.Received.{Received}
use Rattle.rules.specs.declared.Swept.{Swept}
use Rattle.rules.specs.declared.Sent.{Sent}
use Rattle.rules.specs.declared.Part.TheVariants.{OfParameter, OfStore}
use Rattle.rules.specs.declared.Decision.{Decision}
use Rattle.rules.specs.declared.Decision.TheVariants.{Refused, Saved, Delivered, Lost}
use Rattle.rules.proofs.Places.{IsFirst, place_is}
use Rattle.rules.proofs.Arrival.{arrival-by}
use Rattle.host_numbers.specs.Crossing.{c_decision_of, decision_of, taken}
use Rattle.host.specs.declared.CReceived.{CReceived}
use Rattle.host.specs.Promises.{HostArrival, HostDelivery}
use Rattle.demands.specs.Machine.{Typed}
use Rattle.demands.specs.Seen.{Seen, seen_of}
use Rattle.demands.specs.Exactly.{ByRules}
use Rattle.demands.specs.Demanded.{Demanded, Begun}
use Rattle.demands.proofs.Demanded.{demanded, begun}
use Rattle.demanded.specs.Demanded.{seen_opening, seen_clock, seen_release, leaving, DemandedOpening, DemandedArrival, DemandedClock, DemandedRelease, DemandedSending, DemandedC}
use Rattle.demanded.specs.declared.Handed.{Handed}

pub of-opening : (registry : List ℕ) (timer time : ℕ) (r : Opened) (m' : List ℕ) → time < 2 ^ 32 → OfOpening registry timer time r m' → DemandedOpening registry timer time r m'
unfolding step
of-opening registry timer time r m' early k st =
    let seen : _ ≡ _ = λ i. seen_opening st registry timer time (k.answered i) (k.summed i) in
    subst Begun (sym seen) (begun st (record { registry = registry; timer = timer; time = time }) early)

-- an opening leaves the summary empty
pub emptied : (st : State) (registry : List ℕ) (timer time : ℕ) (r : Opened) (m' : List ℕ) → ByRules (seen_opening st registry timer time r m') → m' ≡ empty_summary
unfolding step
emptied st registry timer time r m' e = ap (λ (x : State). x.summary) e.state

pub of-clock : (t : Table) (m report : List ℕ) (time : ℕ) (r : Swept) (m' report' : List ℕ) → time < 2 ^ 32 → OfClock t m report time r m' report'
    → DemandedClock t m report time r m' report'
unfolding step
of-clock t m report time r m' report' early k store =
    let seen : _ ≡ _ = λ i. seen_clock t m store report time (k.answered i) (k.summed i) (k.reported i) in
    subst Demanded (sym seen) (demanded (state_of t m store) (to_tick time report) early refl)

pub of-release : (t : Table) (m report : List ℕ) (association : ℕ) (r : Swept) (m' report' : List ℕ) → association < 2 ^ 16 → OfRelease t m report association r m' report'
    → DemandedRelease t m report association r m' report'
unfolding step
of-release t m report association r m' report' small k store =
    let seen : _ ≡ _ = λ i. seen_release t m store report association (k.answered i) (k.summed i) (k.reported i) in
    subst Demanded (sym seen) (demanded (state_of t m store) (to_release association report) small refl)

pub of-sending : (t : Table) (q : Request) (o d whole area : List ℕ) (r : Sent) (area' : List ℕ) → OfSending t q o d whole area r area' → DemandedSending t q o d whole area r area'
unfolding step
of-sending t q o d whole area r area' k m store =
    let st : State = state_of t m store in
    let seen : _ ≡ _ = λ i. seen_of st (to_send q o d whole area) (after_sending st (record { answer = k.answered i; area = k.written i })) [] in
    subst Demanded (sym seen) (demanded st (to_send q o d whole area) tt refl)

-- the delivery of a decision that crossed is the decision's
pub handed-back : (d : Decision) (s store : List ℕ) → delivery (decision_of (c_decision_of d)) s store ≡ delivery d s store
unfolding delivery
handed-back Refused s store = refl
handed-back (Saved p) s store = refl
handed-back (Delivered (OfParameter start n)) s store = refl
handed-back (Delivered (OfStore p n)) s store = refl
handed-back (Lost cause found) s store = refl

-- a place that is found among 16 crosses as it is: none is number 16
place-back : (k : Key) (ps : List Place) → length ps ≡ place_count → found_at (number_of (place_of k ps)) ≡ place_of k ps
place-back k ps sixteen = go (place_of k ps) (place_is k ps)
  where
    go : (f : Option ℕ) → IsFirst (holds k) ps f → found_at (number_of f) ≡ f
    go (Some i) h = rw (ne_eqb i place_count (λ e. omega (arith, h.0)))
    go None h = refl

-- so does the decision of each line
line-back : (line : Line) (t : Table) (store : List ℕ) (k : Key) (f : Fields) (octets : List ℕ) (found : Option ℕ) (p : Place) (vacant : Option ℕ) → found_at (number_of found) ≡ found
    → decision_of (c_decision_of (effect_of line t store k f octets found p vacant).decision) ≡ (effect_of line t store k f octets found p vacant).decision
unfolding effect_of
line-back Unsegmented t store k f octets found p vacant e = refl
line-back (Broken cause) t store k f octets found p vacant e = λ i. Lost cause (e i)
line-back Restart t store k f octets found p vacant e = λ i. Lost 3 (e i)
line-back Start t store k f octets found p vacant e = refl
line-back Final t store k f octets found p vacant e = refl
line-back Next t store k f octets found p vacant e = refl

-- an answer for C, with a decision for its numbers
abbrev decided : CReceived → Decision → Received
decided r d = record { table = r.table; decision = d; position = r.position; refusal = r.refusal; records = r.records; timeouts = r.timeouts }

module _ (t : Table) (m store report : List ℕ) (time association : ℕ) (s : List ℕ) where
  -- what the rule makes of an arrival
  abbrev ruled : Counted Reception
  ruled = arrival t m store report time association s

  abbrev decision : Decision
  decision = ruled.call.answer.decision

  -- its decision crosses as it is
  decision-back : Typed t → decision_of (c_decision_of decision) ≡ decision
  unfolding sweep
  decision-back typed =
      let after : Table = table_after (clock_work t m report time) in
      let count : length after.places ≡ place_count = simp length-map typed.count in
      arrival-by t m store report time association s (λ (o : Counted Reception). decision_of (c_decision_of o.call.answer.decision) ≡ o.call.answer.decision)
      (λ e. refl) (λ e f. refl) (λ e f g. refl)
      (λ e f g. line-back _ after store _ _ _ _ _ _ (place-back (key_of association s (fields_of t.registry s)) after.places count))

  abbrev seen_arrival : Received → List ℕ → List ℕ → List ℕ → List ℕ → Seen
  seen_arrival r m' store' report' handed = seen_of (state_of t m store) (to_arrive time association s report) (leaving r m' store' report') handed

  ruled-demanded : time < 2 ^ 32 → association < 2 ^ 16
      → Demanded (seen_arrival ruled.call.answer ruled.summary ruled.call.store ruled.call.report (delivery decision s ruled.call.store))
  unfolding step
  ruled-demanded early small = demanded (state_of t m store) (to_arrive time association s report) (early, small) refl

  pub of-arrival : (r : Received) (m' store' report' : List ℕ) → time < 2 ^ 32 → association < 2 ^ 16 → OfArrival t m store report time association s r m' store' report'
      → DemandedArrival t m store report time association s r m' store' report'
  of-arrival r m' store' report' early small k handed d =
      let h : handed ≡ delivery decision s ruled.call.store = d.handed ∙ (λ i. delivery (k.answered i).decision s (k.stored i)) in
      let seen : _ ≡ _ = λ i. seen_arrival (k.answered i) (k.summed i) (k.stored i) (k.reported i) (h i) in
      subst Demanded (sym seen) (ruled-demanded early small)

  pub of-c-arrival : (r : Handed) (m' store' report' : List ℕ) → Typed t → time < 2 ^ 32 → association < 2 ^ 16 → HostArrival t m store report time association s r.received m' store' report'
      → HostDelivery r.received.decision s store' r.part → DemandedC t m store report time association s r m' store' report'
  of-c-arrival r m' store' report' typed early small k d =
      let same : decision_of r.received.decision ≡ decision = (λ i. decision_of (k.answered i).decision) ∙ decision-back typed in
      let h : taken r.part s store' ≡ delivery decision s ruled.call.store
      = d.delivered ∙ (λ i. delivery (decision_of (k.answered i).decision) s (k.stored i)) ∙ handed-back decision s ruled.call.store in
      let seen : _ ≡ _ = λ i. seen_arrival (decided (k.answered i) (same i)) (k.summed i) (k.stored i) (k.reported i) (h i) in
      subst Demanded (sym seen) (ruled-demanded early small)
