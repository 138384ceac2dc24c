-- The loopback by the rules: what is refused is left as it came, and what is not comes back.
use Prim.Native.Nat.{ℕ, zero, suc, ◌+◌, ◌-◌, ◌≤◌, ◌<◌, ◌^◌}
use mathlib.Core.Path.{◌≡◌, refl, sym, ap, ◌∙◌, subst}
use mathlib.Core.Bool.{Bool, true, false, not, or-true, and-eq-true_iff}
use mathlib.Core.List.{List, [], ◌∷◌, ◌++◌}
use native.Mathlib.Omega.{arith}
use native.Mathlib.Nat.{add-zero, zero-add, add-suc, suc-add}
use borrow.Author.Tests.{not-true, not-false, ltb-false, le-ltb, lt-leb}
use lib.ListN.{length, take}
use Rattle.octets.proofs.Splice.{splice-length, splice-back}
use Rattle.rules.specs.Numbers.{store_least, parameter_most}
use Rattle.rules.specs.Refusals.{Check, accepted, first, judged}
use Rattle.rules.specs.Arrival.{arrival_least, arrival}
use Rattle.rules.specs.Places.{lowest_free, place_of, is_at}
use Rattle.rules.specs.Soundness.{sound}
use Rattle.rules.specs.Summary.{row_for, summary_sound}
use Rattle.rules.specs.Delivery.{delivery}
use Rattle.rules.specs.Receiving.{Reception}
use Rattle.rules.specs.Sending.{sending_checks, sending}
use Rattle.rules.specs.Sending as rule
use Rattle.rules.specs.Calls.{State, state_of, to_arrive, Lent, lending, Answer, step}
use Rattle.rules.specs.Promises.{OfSending}
use Rattle.rules.specs.declared.Table.{Table}
use Rattle.rules.specs.declared.Request.{Request}
use Rattle.rules.specs.declared.Sent.{Sent}
use Rattle.rules.specs.declared.Decision.TheVariants.{Refused}
use Rattle.rules.proofs.Refusals.{Sharp, judged-append, judged-by, judged-first, judged-none, accepted-both, first-accepted, accepted-first}
use Rattle.rules.proofs.Sweeping.{none-due}
use Rattle.rules.proofs.Arrival.{quiet, quiet-work}
use Rattle.rules.proofs.Few.{report-length}
use Rattle.rules.proofs.Cutting.{cuttable, within-room, count-two, later-carries, first-leaves}
use Rattle.demands.specs.Machine.{ours, clock_of, Typed, SoundSummary}
use Rattle.demands.specs.Seen.{seen_by}
use Rattle.demands.specs.Demand2.{Shipment, numbered, header, count_in, segmented_in, segment_of, Sender, Sendable, key_in, Slot, arrival_in, arrival_of, Comes, Meanwhile, stop, mine, other, Returns, CanTake, RoundTrip}
use Rattle.demands.proofs.Index.{demand-2}
use Rattle.demands.proofs.Sparing.{store_kept}
use Rattle.loop_laps.specs.Laps.{Asked, Lap, lap, laps, standing, lap_of, OfLap, OfReceipt}
use Rattle.loop_laps.specs.declared.Looped.{Looped}
use Rattle.loop_laps.proofs.Laps.{one-lap}
use Rattle.loopback.specs.Loopback.{shipment_in, is_roomy, fit_checks, loop_checks, Looping, looping, OfLoopback}
use Rattle.loopback.proofs.Room.{Countable, counts-on, timely, silent, can-count}

-- no check has the number 0
some : (n : ℕ) → suc n ≡ 0 → ⊥
some n e = omega (arith, e)

fit-sharp : (t : Table) (m : List ℕ) (association store report area : ℕ) → Sharp (fit_checks t m association store report area)
fit-sharp t m association store report area = (some 0, (some 0, (some 1, (some 2, (some 19, (some 9, (some 20, (some 21, tt))))))))

sending-sharp : (t : Table) (q : Request) (o d whole area : List ℕ) → Sharp (sending_checks t q o d whole area)
unfolding sending_checks
sending-sharp t q o d whole area = (some 0, (some 7, (some 13, (some 8, (some 14, (some 16, (some 15, (some 17, (some 18, (some 19, tt))))))))))

sharp-both : (xs ys : List Check) → Sharp xs → Sharp ys → Sharp (xs ++ ys)
sharp-both [] ys a b = b
sharp-both (x ∷ xs) ys a b = (a.0, sharp-both xs ys a.1 b)

-- where sending segment 0 is not refused, no segment is, in an area that any parameter fits
module _ (x : Asked) (area : List ℕ)
    (ok : accepted (sending_checks x.table (numbered x.request 0) x.origin x.destination x.whole area) ≡ true) where
  pub sendable-all : (k : ℕ) → k < count_in (shipment_in x) → (area' : List ℕ) → length (segment_of (shipment_in x) k) ≤ length area'
      → accepted (sending_checks x.table (numbered x.request k) x.origin x.destination x.whole area') ≡ true
  unfolding sending_checks
  sendable-all k under area' fits =
      let all = simp and-eq-true_iff at ok in
      let room = all.1.1.1.1 in
      let below = ap not (lt-leb (count_in (shipment_in x)) k under) in
      let inside = ap not (le-ltb (length area') (length (segment_of (shipment_in x) k)) fits) in
      simp and-eq-true_iff (all.0, (all.1.0, (all.1.1.0, (all.1.1.1.0, (room.0, (room.1.0, (room.1.1.0, (room.1.1.1.0, (below, (inside, refl))))))))))

  segment-most : (k : ℕ) → k < count_in (shipment_in x) → length (segment_of (shipment_in x) k) ≤ parameter_most
  segment-most k under = (within-room _ _ _ _ _ _ (sendable-all k under (segment_of (shipment_in x) k) (omega arith))).parameter

-- the areas keep their lengths
sending-length : (t : Table) (q : Request) (o d whole area : List ℕ) → length (sending t q o d whole area).area ≡ length area
unfolding sending
sending-length t q o d whole area =
    judged-by (λ (r : rule.Sending). length r.area ≡ length area) (sending_checks t q o d whole area)
    (λ n. record { answer = record { refusal = n; count = 0; length = 0 }; area = area }) _ (λ e. splice-length area 0 _) (λ e. refl)

-- segments that arrive one after the other
more : {x : Shipment} {st st' : State} {i j : ℕ} → Meanwhile ours x st i st' j → (at : Slot) → Comes x st' j at → Meanwhile ours x st i (step st' (arrival_of x j at)).state (suc j)
more stop at comes = mine at comes stop
more (mine again came rest) at comes = mine again came (more rest at comes)
more (other c range spares rest) at comes = other c range spares (more rest at comes)

module _ (x : Asked) (m store : List ℕ) (lent : Lent) where
  -- what goes out
  abbrev out : Shipment
  out = shipment_in x

  abbrev start : Lap
  start = standing (state_of x.table m store) lent

  -- the delivery after a lap
  abbrev handed : Lap → List ℕ
  handed l = delivery l.decision (take l.length l.lent.area) l.state.store

  -- after k segments
  at : ℕ → Lap
  at zero = start
  at (suc k) = lap x k (at k)

  laps-at : (n k : ℕ) → laps n k x (at k) ≡ at (k + n)
  unfolding laps at
  laps-at zero k = rw add-zero
  laps-at (suc n) k = laps-at n (suc k) ∙ rw (add-suc k n, suc-add k n)

  area-at : (k : ℕ) → length (at k).lent.area ≡ length lent.area
  unfolding at
  area-at zero = refl
  area-at (suc k) = sending-length x.table (numbered x.request k) x.origin x.destination x.whole (at k).lent.area ∙ area-at k

  report-at : (k : ℕ) → length (at k).lent.report ≡ length lent.report
  unfolding at
  report-at zero = refl
  report-at (suc k) = report-length (at k).state.table (at k).state.summary (at k).state.store (at k).lent.report (at k).state.table.clock x.association _ ∙ report-at k

  -- segment k comes at the time of the table
  abbrev slot : ℕ → Slot
  slot k = record { time = (at k).state.table.clock; report = (at k).lent.report }

  -- segment k is sent from the table as it came, which needs no summary and no store
  abbrev from : ℕ → Sender
  from k = record { state = state_of x.table [] []; area = (at k).lent.area }

  module _ (ok : accepted (loop_checks x m store lent) ≡ true) (long : length m ≡ 512) (typed : Typed x.table) (clock : x.table.clock < 2 ^ 32) (carrier : x.association < 2 ^ 16) where
    both : (accepted (fit_checks x.table m x.association (length store) (length lent.report) (length lent.area)) ≡ true)
        × (accepted (sending_checks x.table (numbered x.request 0) x.origin x.destination x.whole lent.area) ≡ true)
    unfolding loop_checks
    both =
        accepted-both (fit_checks x.table m x.association (length store) (length lent.report) (length lent.area))
        (sending_checks x.table (numbered x.request 0) x.origin x.destination x.whole lent.area) ok

    record Fit : Type 0 where
      summed : summary_sound m x.table.places ≡ true
      good : sound x.table ≡ true
      stores : store_least ≤ length store
      reports : arrival_least ≤ length lent.report
      wide : parameter_most ≤ length lent.area
      free : is_at (lowest_free x.table.places) ≡ true
      row : is_at (row_for m x.association) ≡ true
      roomy : is_roomy m ≡ true

    fit : Fit
    fit =
        let all = simp and-eq-true_iff at both.0 in
        record {
          summed = not-false _ (not-true _ all.0);
          good = not-false _ (not-true _ all.1.0);
          stores = ltb-false _ _ (not-true _ all.1.1.0);
          reports = ltb-false _ _ (not-true _ all.1.1.1.0);
          wide = ltb-false _ _ (not-true _ all.1.1.1.1.0);
          free = not-false _ (not-true _ all.1.1.1.1.1.0);
          row = not-false _ (not-true _ all.1.1.1.1.1.1.0);
          roomy = not-false _ (not-true _ all.1.1.1.1.1.1.1.0);
        }

    fits-at : (k : ℕ) → k < count_in out → length (segment_of out k) ≤ length (at k).lent.area
    fits-at k under = omega (arith, segment-most x lent.area both.1 k under, area-at k, fit.wide)

    can : (k : ℕ) → k < count_in out → Sendable out (from k) k
    can k under = record { kind = refl; good = sendable-all x lent.area both.1 k under (at k).lent.area (fits-at k under) }

    -- what is handed to the receiver is the segment
    sent_is : (k : ℕ) → k < count_in out → take (at (suc k)).length (at (suc k)).lent.area ≡ segment_of out k
    unfolding step at
    sent_is k under =
        let made = demand-2.made out (from k) k (can k under) in
        let size = ap (λ (a : Answer). a.length) made.answer in
        let written = ap (λ (a : Answer). a.lent.area) made.answer in
        rw (size, written) (splice-back (at k).lent.area 0 (segment_of out k) (omega (arith, fits-at k under)))

    state-is : (k : ℕ) → k < count_in out → (step (at k).state (arrival_of out k (slot k))).state ≡ (at (suc k)).state
    unfolding step at
    state-is k under = ap (λ (p : List ℕ). (step (at k).state (to_arrive (at k).state.table.clock x.association p (at k).lent.report)).state) (sym (sent_is k under))

    summary-first : SoundSummary (at 0).state
    unfolding at
    summary-first = record { size = long; sound = fit.summed }

    short : (k : ℕ) → k < count_in out → length (segment_of out k) ≤ 255
    short k under = segment-most x lent.area both.1 k under

    wide : (k : ℕ) → arrival_least ≤ length (at k).lent.report
    wide k = rw (report-at k) fit.reports

    countable : (k : ℕ) → k ≤ count_in out → Countable x.association m k (at k).state
    unfolding at
    countable zero under = record { table = fit.good; clock = clock; summary = summary-first; row = fit.row; totals = λ i. omega arith }
    countable (suc k) under =
        subst (λ (st : State). Countable x.association m (suc k) st) (state-is k (omega arith))
        (counts-on x.association m k (at k).state (countable k (omega arith)) (segment_of out k) (at k).lent.report (short k (omega arith)) (wide k) carrier)

    store_at : (k : ℕ) → k ≤ count_in out → length (at k).state.store ≡ length store
    unfolding at
    store_at zero under = refl
    store_at (suc k) under =
        sym (ap (λ (st : State). length st.store) (state-is k (omega arith))) ∙ store_kept (at k).state (arrival_of out k (slot k)) ∙ store_at k (omega arith)

    -- each comes, and can be counted
    comes : (k : ℕ) → k < count_in out → Comes out (at k).state k (slot k)
    comes k under =
        let few = (within-room _ _ _ _ _ _ both.1).count in
        let c = countable k (omega arith) in
        record {
          range = c.clock;
          timely = timely x.association m k (at k).state c (segment_of out k) (at k).lent.report (short k under) (wide k) (omega (arith, store_at k (omega arith), fit.stores));
          spares = silent x.association m k (at k).state c (segment_of out k) (at k).lent.report (short k under) (wide k) _;
          counts = can-count x.association m k (at k).state c (segment_of out k) (at k).lent.report (short k under) (wide k) fit.roomy (omega arith);
        }

    some_out : 1 ≤ count_in out
    some_out = let n = (cuttable x.table (numbered x.request 0) x.origin x.destination x.whole lent.area both.1).number in omega arith

    trip : RoundTrip ours out (at 0).state (slot 0)
    unfolding at
    trip =
        demand-2.back out from can (at 0).state (record { sound = fit.good; typed = typed; kind = refl; store = fit.stores; summary = summary-first; carrier = carrier }) (slot 0) (comes 0 some_out)

    meanwhile : (j : ℕ) → j < count_in out → Meanwhile ours out (step (at 0).state (arrival_of out 0 (slot 0))).state 1 (at (suc j)).state (suc j)
    meanwhile zero under = rw (sym (state-is 0 under)) stop
    meanwhile (suc j) under = rw (sym (state-is (suc j) under)) (more (meanwhile j (omega arith)) (slot (suc j)) (comes (suc j) under))

    last-hands : (j : ℕ) → suc j ≡ count_in out → Returns out (seen_by ours (at j).state (arrival_of out j (slot j))) → handed (at (count_in out)) ≡ x.whole
    unfolding step at
    last-hands j e r =
        let got : List ℕ → Reception = λ p. (arrival (at j).state.table (at j).state.summary (at j).state.store (at j).lent.report (at j).state.table.clock x.association p).call in
        subst (λ (n : ℕ). handed (at n) ≡ x.whole) e
        (ap (λ (p : List ℕ). delivery (got p).answer.decision p (got p).store) (sent_is j (omega arith)) ∙ r.handed)

    two-least : segmented_in out ≡ true → 2 ≤ count_in out
    two-least e =
        count-two (header out) x.request (length x.whole) e (later-carries _ _ _ _ _ _ both.1 e) (first-leaves _ _ _ _ _ _ both.1 e)

    free-first : CanTake out (at 0).state (slot 0)
    unfolding at
    free-first =
        let same : clock_of (at 0).state (arrival_in out 0 (slot 0)) ≡ quiet x.table m lent.report x.table.clock = quiet-work x.table m lent.report x.table.clock (none-due x.table fit.good) in
        rw same (rw fit.free (or-true (is_at (place_of (key_in out) x.table.places))))

    back_by : (b : Bool) → segmented_in out ≡ b → handed (at (count_in out)) ≡ x.whole
    unfolding at
    back_by false e =
        let one : suc 0 ≡ count_in out = sym (simp e) in
        last-hands 0 one (trip.alone e)
    back_by true e =
        let two = two-least e in
        let j : ℕ = count_in out - 2 in
        let last : suc (suc j) ≡ count_in out = omega arith in
        last-hands (suc j) last
        ((trip.later e free-first (suc j) (omega arith) (at (suc j)).state (meanwhile j (omega arith)) (slot (suc j)) (comes (suc j) (omega arith))).1 last)

    pub back : handed (laps (count_in out) 0 x start) ≡ x.whole
    unfolding at
    back = ap handed (laps-at (count_in out) 0) ∙ rw zero-add (back_by (segmented_in out) refl)

  abbrev fits : List Check
  fits = fit_checks x.table m x.association (length store) (length lent.report) (length lent.area)

  abbrev sends : List Check
  sends = sending_checks x.table (numbered x.request 0) x.origin x.destination x.whole lent.area

  abbrev sent : rule.Sending
  sent = sending x.table (numbered x.request 0) x.origin x.destination x.whole lent.area

  abbrev unmoved : ℕ → Looping
  unmoved n = record { number = n; lap = start }

  -- refused by a condition on table and areas, or by the sender; or carried out
  pub looping-unfit : (n : ℕ) → n ≡ first fits → (n ≡ 0 → ⊥) → looping x m store lent ≡ unmoved n
  unfolding looping loop_checks
  looping-unfit n e nonzero = judged-append fits sends unmoved _ ∙ judged-first fits unmoved _ (λ z. nonzero (e ∙ z)) ∙ rw (sym e)

  looping-fit : first fits ≡ 0 → looping x m store lent ≡ judged sends unmoved (record { number = 0; lap = laps (count_in out) 0 x start })
  unfolding looping loop_checks
  looping-fit e = judged-append fits sends unmoved _ ∙ judged-none fits unmoved _ (fit-sharp x.table m x.association (length store) (length lent.report) (length lent.area)) e

  unsent : (n : ℕ) → n ≡ sent.answer.refusal → (n ≡ 0 → ⊥) → (sent.area ≡ lent.area) × (n ≡ first sends)
  unfolding sending
  unsent n e nonzero =
      judged-by (λ (o : rule.Sending). n ≡ o.answer.refusal → (o.area ≡ lent.area) × (n ≡ first sends)) sends
      (λ n. record { answer = record { refusal = n; count = 0; length = 0 }; area = lent.area }) _ (λ ok z. absurd (nonzero z)) (λ no z. (refl, z)) e

  pub looping-unsent : (n : ℕ) → first fits ≡ 0 → n ≡ sent.answer.refusal → (n ≡ 0 → ⊥) → looping x m store lent ≡ unmoved n
  looping-unsent n e z nonzero =
      let u = unsent n z nonzero in
      looping-fit e ∙ judged-first sends unmoved _ (λ y. nonzero (u.1 ∙ y)) ∙ rw (sym u.1)

  pub area-unsent : (n : ℕ) → n ≡ sent.answer.refusal → (n ≡ 0 → ⊥) → sent.area ≡ lent.area
  area-unsent n z nonzero = (unsent n z nonzero).0

  sends-accepted : sent.answer.refusal ≡ 0 → accepted sends ≡ true
  unfolding sending
  sends-accepted =
      judged-by (λ (o : rule.Sending). o.answer.refusal ≡ 0 → accepted sends ≡ true) sends
      (λ n. record { answer = record { refusal = n; count = 0; length = 0 }; area = lent.area }) _ (λ ok z. ok)
      (λ no z. first-accepted sends (sending-sharp x.table (numbered x.request 0) x.origin x.destination x.whole lent.area) z)

  pub sent-count : sent.answer.refusal ≡ 0 → sent.answer.count ≡ count_in out
  unfolding sending
  sent-count z = rw (sends-accepted z)

  pub count-some : sent.answer.refusal ≡ 0 → 1 ≤ count_in out
  count-some z = let n = (cuttable x.table (numbered x.request 0) x.origin x.destination x.whole lent.area (sends-accepted z)).number in omega arith

  pub looping-done : first fits ≡ 0 → sent.answer.refusal ≡ 0 → looping x m store lent ≡ record { number = 0; lap = laps (count_in out) 0 x start }
  looping-done e z =
      looping-fit e ∙ judged-none sends unmoved _ (sending-sharp x.table (numbered x.request 0) x.origin x.destination x.whole lent.area)
      (accepted-first sends (sends-accepted z))

  -- the contract, of an answer that is the rule's
  module _ (long : length m ≡ 512) (typed : Typed x.table) (clock : x.table.clock < 2 ^ 32) (carrier : x.association < 2 ^ 16) where
    loop-sharp : Sharp (loop_checks x m store lent)
    unfolding loop_checks
    loop-sharp =
        sharp-both fits sends (fit-sharp x.table m x.association (length store) (length lent.report) (length lent.area))
        (sending-sharp x.table (numbered x.request 0) x.origin x.destination x.whole lent.area)

    number-first : (looping x m store lent).number ≡ first (loop_checks x m store lent)
    unfolding looping
    number-first =
        judged-by (λ (o : Looping). o.number ≡ first (loop_checks x m store lent)) (loop_checks x m store lent) unmoved _
        (λ ok. sym (accepted-first (loop_checks x m store lent) ok)) (λ no. refl)

    done : accepted (loop_checks x m store lent) ≡ true → (looping x m store lent).lap ≡ laps (count_in out) 0 x start
    unfolding looping
    done ok = rw ok

    pub kept : (answer : Looped) (m' store' : List ℕ) (lent' : Lent) → lap_of answer m' store' lent' ≡ (looping x m store lent).lap
        → answer.number ≡ (looping x m store lent).number → OfLoopback x m store lent answer m' store' lent'
    kept answer m' store' lent' l n =
        let zero-only : answer.number ≡ 0 → accepted (loop_checks x m store lent) ≡ true
        = λ z. first-accepted (loop_checks x m store lent) loop-sharp (sym number-first ∙ sym n ∙ z) in
        record {
          answered = λ i. record { table = (l i).state.table; decision = (l i).decision; length = (l i).length; number = n i };
          summed = λ i. (l i).state.summary;
          stored = λ i. (l i).state.store;
          lent = λ i. (l i).lent;
          only = zero-only;
          always = λ ok. n ∙ number-first ∙ accepted-first (loop_checks x m store lent) ok;
          returned = λ z. ap handed l ∙ ap handed (done (zero-only z)) ∙ back (zero-only z) long typed clock carrier;
        }

    -- nothing was done
    pub kept-unmoved : (n : ℕ) (answer : Looped) (lent' : Lent) → answer ≡ record { table = x.table; decision = Refused; length = 0; number = n }
        → looping x m store lent ≡ unmoved n → lent' ≡ lent → OfLoopback x m store lent answer m store lent'
    kept-unmoved n answer lent' a o e =
        kept answer m store lent' ((λ i. lap_of (a i) m store (e i)) ∙ sym (ap (λ (o : Looping). o.lap) o)) ((λ i. (a i).number) ∙ sym (ap (λ (o : Looping). o.number) o))

  -- what the sender was asked for, and answered
  module _ (q : Request) (s : Sent) (area' : List ℕ) (asked-for : q ≡ numbered x.request 0)
      (k : OfSending x.table q x.origin x.destination x.whole lent.area s area') where
    pub refusal_is : s.refusal ≡ sent.answer.refusal
    refusal_is = (λ i. (k.answered i).refusal) ∙ (λ i. (sending x.table (asked-for i) x.origin x.destination x.whole lent.area).answer.refusal)

    count-is : s.count ≡ sent.answer.count
    count-is = (λ i. (k.answered i).count) ∙ (λ i. (sending x.table (asked-for i) x.origin x.destination x.whole lent.area).answer.count)

    pub area-is : area' ≡ sent.area
    area-is = k.written ∙ (λ i. (sending x.table (asked-for i) x.origin x.destination x.whole lent.area).area)

    pub some-sent : s.refusal ≡ 0 → 1 ≤ s.count
    some-sent z =
        let r = sym refusal_is ∙ z in
        let n = count-some r in
        let e = count-is ∙ sent-count r in
        omega arith

    -- all segments
    pub kept-done : (long : length m ≡ 512) (typed : Typed x.table) (clock : x.table.clock < 2 ^ 32) (carrier : x.association < 2 ^ 16) → first fits ≡ 0 → s.refusal ≡ 0
        → (one : Looped) (m1 store1 : List ℕ) (lent1 : Lent)
        → OfReceipt (arrival x.table m store lent.report x.table.clock x.association (take s.length area')) s.length one m1 store1 lent1
        → (answer : Looped) (m2 store2 : List ℕ) (lent2 : Lent) → OfLap (laps (s.count - 1) 1 x (lap_of one m1 store1 (lending lent1.report area'))) answer m2 store2 lent2
        → OfLoopback x m store lent answer m2 store2 lent2
    unfolding laps
    kept-done long typed clock carrier fit z one m1 store1 lent1 got answer m2 store2 lent2 all =
        let r = sym refusal_is ∙ z in
        let n = count-some r in
        let e : count_in out ≡ suc (s.count - 1) = let c = count-is ∙ sent-count r in omega arith in
        let o = looping-done fit r in
        let first-lap = (one-lap x 0 (state_of x.table m store) lent area' q s one m1 store1 lent1 asked-for k got).lapped in
        let after : laps (suc (s.count - 1)) 0 x start ≡ laps (s.count - 1) 1 x (lap x 0 start) = refl in
        kept long typed clock carrier answer m2 store2 lent2
        (all.lapped ∙ ap (laps (s.count - 1) 1 x) first-lap ∙ sym after ∙ ap (λ (n : ℕ). laps n 0 x start) (sym e) ∙ sym (ap (λ (o : Looping). o.lap) o))
        (all.number ∙ sym (ap (λ (o : Looping). o.number) o))
