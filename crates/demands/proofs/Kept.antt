-- DEMAND 3 of the machine that the rules are: the state and the history that led there agree, and every call keeps them so.
use Rattle.std.specs.Prelude.{if◌then◌else◌, Option}
use Prim.Native.Nat.{ℕ, ◌+◌, ◌-◌, ◌*◌, ◌≤◌, ◌<◌, ◌^◌}
use mathlib.Core.Path.{◌≡◌, refl, sym, ap, ap₂, subst, ◌∙◌}
use mathlib.Core.Bool.{Bool, true, false, not, and-eq-true_iff, true≢false}
use mathlib.Core.List.{List, [], ◌∷◌, ◌++◌, append-nil, append_assoc}
use native.Mathlib.Omega.{arith}
use borrow.Author.Tests.{ne_eqb}
use lib.Dec.{eqb, leb}
use lib.ListN.{length, get_or}
use Rattle.octets.specs.Splice.{splice}
use Rattle.rules.specs.Numbers.{elapsed}
use Rattle.rules.specs.Refusals.{accepted, first, fault, unplaced}
use Rattle.rules.specs.Registry.{entries_of}
use Rattle.rules.specs.Layout.{is_unsegmented, fields_of, reading_checks}
use Rattle.rules.specs.Places.{same_key, is_open, no_place, holds, place_of, place_at, lowest_free}
use Rattle.rules.specs.Soundness.{place_sound, open_sound, sound}
use Rattle.rules.specs.Records.{delivered, record_length, records_octets}
use Rattle.rules.specs.Receiving.{key_of, information_of, line_of, line_at, Effect, effect_of, with_places, unreceived}
use Rattle.rules.specs.Delivery.{delivery}
use Rattle.rules.specs.Sweep.{Sweeping, report_least, sweep, is_due, is_of, losses_by}
use Rattle.rules.specs.Summary.{Counted, counting, segment_sums, clock_with, clock_checks_with, release_with, release_checks_with, empty_summary}
use Rattle.rules.specs.Arrival.{behind, stands, clocked_with, both_with}
use Rattle.rules.specs.Opening.{empty_table, unopened, opening_checks, opening}
use Rattle.rules.specs.Calls.{State, state_of, Call, Opens, Arrives, Ticks, Releases, Sends, Opening, Arrival, Tick, Release, Dispatch, Answer, Outcome, after_opening, after_arrival, after_sweep, step}
use Rattle.rules.specs.declared.Entry.{Entry}
use Rattle.rules.specs.declared.Key.{Key}
use Rattle.rules.specs.declared.Place.{Place}
use Rattle.rules.specs.declared.Table.{Table}
use Rattle.rules.specs.declared.Fields.{Fields}
use Rattle.rules.specs.declared.Record.{Record}
use Rattle.rules.specs.declared.Line.{Line}
use Rattle.rules.specs.declared.Opened.{Opened}
use Rattle.rules.specs.declared.Fault.{Fault}
use Rattle.rules.proofs.Soundness.{open-parts}
use Rattle.rules.proofs.Keys.{same-equal}
use Rattle.rules.proofs.Records.{AllFit, records-back, records-front, first_back, second-there, two_back}
use Rattle.rules.proofs.Held.{every-at, open_is, places-sound}
use Rattle.rules.proofs.Reading.{parameter-short}
use Rattle.rules.proofs.Arrived.{arrived as arrived-good}
use Rattle.rules.proofs.Arrival.{losses-few, whole_parts, behind-long, part-stands, both-22, whole-undoes}
use Rattle.rules.proofs.Answers.{segment-accepted, clock-accepted, release-accepted}
use Rattle.demands.specs.Machine.{ours, checks_of, clock_of, clocked_by, whole_of, is_opening, parameter_of, All, InRange, Typed}
use Rattle.demands.specs.Seen.{Seen, seen_of, handing, seen_by}
use Rattle.demands.specs.Demand1.{unmoved}
use Rattle.demands.specs.History.{Segment, Told, Cover, Deed, Takes, Passes, Ends, joined, is_none, remaining_of, covers_of, cover_of, records_in, timeouts_in, own_in, records_of, records_by, settled, deeds_of, counted, beginning, did, did_all, covers_by, EachDeed, after, covers, EachIn}
use Rattle.demands.specs.Demand3.{Ruled, Fair, owed, held, owing, Agrees, Accounted, Demand3}
use Rattle.demands.proofs.Parts.{checks_at, part_of, both_of, taken_by, second-accepted, arrival-cases}
use Rattle.demands.proofs.Holding.{none-held, owing-none}
use Rattle.demands.proofs.Settling.{Arrived, segment_from, line-told, segment-done}
use Rattle.demands.proofs.Sweeping.{sweep-places, losses-lost}
use Rattle.demands.proofs.Accepting.{alone-reference, key_fits, vacant-left, clock-good, release-good}
use Rattle.demands.proofs.Refused.{step-refused, refused-number}
use Rattle.demands.proofs.Spared.{clash}
use Rattle.demands.proofs.Sparing.{table-losses, sweep-back}
use Rattle.demands.proofs.Typed.{clocked-typed, typed-kept, typed-opened}
use Rattle.demands.proofs.Running.{meets}

-- no open place of a sound table has the reference 255
reference-low : (registry : List Entry) (timer clock : ℕ) (p : Place) → open_sound registry timer clock p ≡ true → p.key.reference.0 ≤ 127
reference-low registry timer clock p e = (open-parts registry timer clock p e).reference

not-held : (t : Table) (k : Key) → sound t ≡ true → k.reference.0 ≡ 255 → (j : ℕ) → j < length t.places → holds k (get_or t.places j no_place) ≡ false
not-held t k s r j l = go (holds k (get_or t.places j no_place)) refl
  where
    go : (b : Bool) → holds k (get_or t.places j no_place) ≡ b → b ≡ false
    go true e =
        let p : Place = get_or t.places j no_place in
        let both = (and-eq-true_iff (is_open p) (same_key p.key k)).0 e in
        let ok = every-at (place_sound t.registry t.timer t.clock) t.places no_place j (places-sound t s) l in
        let low = reference-low t.registry t.timer t.clock p (open_is t.registry t.timer t.clock p ok both.0) in
        let same = ap (λ (m : Key). m.reference.0) (same-equal p.key k both.1) in
        let z : ⊥ = omega arith in absurd z
    go false e = refl

-- a call with its outcome, as it is seen
abbrev seen_with : State → Call → Outcome → Seen
seen_with st c o = seen_of st c o (handing ours o.answer.decided (parameter_of c) o.state.store)

-- WHAT DEEDS COME TO at a history: the records, what is handed over, and the state that is left
pub record Done (h : Told) (ds : List Deed) (rs : List Record) (given : List ℕ) (st : State) : Type 0 where
  recorded : rs ≡ records_by ds
  ruled : EachDeed Ruled h ds
  fair : All Fair (covers_by h ds)
  handed : given ≡ owed (covers_by h ds)
  agrees : Agrees st (did_all h ds)

all_append : {A : Type 0} (P : A → Type 0) (a b : List A) → All P a → All P b → All P (a ++ b)
all_append P [] b x y = y
all_append P (e ∷ a) b x y = (x.0, all_append P a b x.1 y)

owed-append : (a b : List Cover) → owed (a ++ b) ≡ owed a ++ owed b
owed-append [] b = refl
owed-append (c ∷ a) b = go (eqb c.made.kind delivered) (owed-append a b)
  where
    go : (k : Bool) → owed (a ++ b) ≡ owed a ++ owed b
        → (if k then joined c.segments ++ owed (a ++ b) else owed (a ++ b)) ≡ (if k then joined c.segments ++ owed a else owed a) ++ owed b
    go true e = rw e (sym (append_assoc (joined c.segments) (owed a) (owed b)))
    go false e = e

-- one deed, and others after it
done-then : {h : Told} {d : Deed} {ds : List Deed} {rs rs' : List Record} {handed : List ℕ} {st st' : State}
    → Done h (d ∷ []) rs [] st → Done (did h d) ds rs' handed st' → Done h (d ∷ ds) (rs ++ rs') handed st'
done-then {h} {d} {ds} {rs} {rs'} {handed} {st} {st'} a b =
    record {
      recorded = ap₂ (λ (x y : List Record). x ++ y) (a.recorded ∙ append-nil (records_of d)) b.recorded;
      ruled = (a.ruled.0, b.ruled);
      fair = all_append Fair (cover_of h d) (covers_by (did h d) ds) (rw append-nil at a.fair) b.fair;
      handed = b.handed ∙ sym (owed-append (cover_of h d) (covers_by (did h d) ds) ∙ ap (λ (l : List ℕ). l ++ owed (covers_by (did h d) ds)) (sym (a.handed ∙ ap owed (append-nil (cover_of h d)))));
      agrees = b.agrees;
    }

-- a deed is not none
some-deed : {d : Deed} {ds : List Deed} → d ∷ ds ≡ [] → ⊥
some-deed e = let z : ◌≡◌ {A = ℕ} 1 0 = cc in omega arith

-- as a call is seen
accounted-by : (st : State) (h : Told) (c : Call) (o : Outcome)
    → Done (counted h) (deeds_of c o.answer) (records_in o.answer) (handing ours o.answer.decided (parameter_of c) o.state.store) o.state
    → (deeds_of c o.answer ≡ [] → o.state ≡ st) → Accounted h (seen_with st c o)
unfolding after covers EachIn
accounted-by st h c o d m = record { recorded = d.recorded; ruled = d.ruled; fair = d.fair; handed = d.handed; agrees = d.agrees; unmoved = m }

-- what the types of the table say, and the agreement
pub record Inv (st : State) (h : Told) : Type 0 where
  pub typed : Typed st.table
  pub agrees : Agrees st h

-- deeds at a state and a history that agree
module _ (st : State) (h : Told) (inv : Inv st h) where
  abbrev t : Table
  t = st.table

  abbrev store : List ℕ
  store = st.store

  abbrev u : Key → List Segment
  u = h.uncovered

  -- none
  idle-done : Done h [] [] [] st
  idle-done = record { recorded = refl; ruled = tt; fair = tt; handed = refl; agrees = inv.agrees }

  -- a segment
  module _ (x : Arrival) where
    abbrev s : List ℕ
    s = x.parameter

    -- its key, itself, and its line, by a registry and a time
    abbrev key_by : List Entry → Key
    key_by registry = key_of x.association s (fields_of registry s)

    abbrev segment_by : List Entry → ℕ → Segment
    segment_by registry time = segment_from (fields_of registry s) (information_of s (fields_of registry s)) time h.number h.ticks

    abbrev line_by : List Entry → Line
    line_by registry =
        let l : List Segment = u (key_by registry) in
        line_of (not (is_none l)) (remaining_of l) (length (joined l)) (fields_of registry s).heading (length (information_of s (fields_of registry s)))

    abbrev Good : List Entry → ℕ → Effect → Type 0
    Good registry time e = (accepted (reading_checks registry s) ≡ true) × Arrived u (key_by registry) (segment_by registry time) s (line_by registry) e

    abbrev pub takes : Effect → Deed
    takes e = Takes x.association s e.records

    take_done : (m' : List ℕ) (e : Effect) → Good h.registry h.time e
        → Done h (takes e ∷ []) e.records (delivery e.decision s e.store) (state_of (with_places t e.places) m' e.store)
    unfolding held
    take_done m' e g =
        let d = g.1 in
        record {
          recorded = sym (append-nil _);
          ruled = (record { read = g.0; ends = d.ends }, tt);
          fair = rw append-nil d.fair;
          handed = rw append-nil d.handed;
          agrees = record { exact = d.exact; registry = inv.agrees.registry; timer = inv.agrees.timer; clock = inv.agrees.clock };
        }

    -- what an accepted one does
    abbrev pub effect : Effect
    effect =
        let f : Fields = fields_of t.registry s in
        let k : Key = key_by t.registry in
        let place : Option ℕ = place_of k t.places in
        effect_of (line_at t k f.heading (length (information_of s f))) t store k f (information_of s f) place (place_at t.places place) (lowest_free t.places)

    -- the state that it leaves
    abbrev pub received : State
    received = state_of (with_places t effect.places) (segment_sums t st.summary store x.report x.association s) effect.store

    pub arrival-good : x.association < 2 ^ 16 → accepted (checks_at st x) ≡ true → Good h.registry h.time effect
    unfolding held
    arrival-good small e =
        let c = arrived-good t store x.report x.association s (segment-accepted t st.summary store x.report x.association s e).0.own in
        let f : Fields = fields_of t.registry s in
        let k : Key = key_by t.registry in
        let exact = inv.agrees.exact in
        let alone : (is_unsegmented f.heading.new f.heading.remaining.0 ≡ true → u k ≡ []) =
        (λ a. owing-none (u k) (sym (exact k) ∙ none-held store k 0 t.places (not-held t k c.table (alone-reference t.registry s c.reading a)))) in
        let short = parameter-short t.registry s c.reading in
        let fit = key_fits t.registry s c.reading x.association small in
        let d = segment-done t store s f k u exact h.number h.ticks c.table inv.typed.count c.stores short fit alone (vacant-left _ _ c.vacant) in
        let told = line-told t store s f k u exact h.number h.ticks c.table inv.typed.count c.stores short fit in
        subst (λ (r : List Entry). Good r h.time effect) inv.agrees.registry (subst (λ (n : ℕ). Good t.registry n effect) inv.agrees.clock (c.reading, rw (← told) d))

  -- a sweep
  module _ (test : Place → Bool) (opens : (p : Place) → test p ≡ true → is_open p ≡ true) (cause : ℕ) (report : List ℕ) (time : ℕ) where
    abbrev made : List Record
    made = losses_by test cause t.places

    sweep-done : (m' : List ℕ) (d : List Record → Deed) → records_of (d made) ≡ made → Ruled h (d made)
        → cover_of h (d made) ≡ covers_of u made → (did h (d made)).uncovered ≡ settled u made → (did h (d made)).registry ≡ h.registry
        → (did h (d made)).timer ≡ h.timer → (did h (d made)).time ≡ time → Done h (d made ∷ []) made [] (state_of (sweep test cause time t report).answer.table m' store)
    unfolding sweep held
    sweep-done m' d own ruled covering left registry timer clock =
        let swept = sweep-places store test opens cause 0 t.places u (λ k. []) inv.agrees.exact in
        record {
          recorded = sym (append-nil (records_of (d made)) ∙ own);
          ruled = (ruled, tt);
          fair = rw (append-nil, covering) swept.fair;
          handed = rw (append-nil, covering) (sym swept.quiet);
          agrees =
              record {
                exact = λ k. swept.exact k ∙ ap (λ (f : Key → List Segment). owing (f k)) (sym left);
                registry = inv.agrees.registry ∙ sym registry;
                timer = inv.agrees.timer ∙ sym timer;
                clock = sym clock;
              };
        }

    pub made-back : (good : sound t ≡ true) (long : report_least ≤ length report) (m' : List ℕ) → records_in (after_sweep store (counting m' (sweep test cause time t report))).answer ≡ made
    made-back good long m' = sweep-back test opens cause t good inv.typed time report long

  pub due-open : (time timer : ℕ) (p : Place) → is_due time timer p ≡ true → is_open p ≡ true
  due-open time timer p e = ((and-eq-true_iff (is_open p) (leb timer (elapsed time p.start))).0 e).0

  pub of-open : (association : ℕ) (p : Place) → is_of association p ≡ true → is_open p ≡ true
  of-open association p e = ((and-eq-true_iff (is_open p) (eqb p.key.association association)).0 e).0

  -- a time that has come
  pub pass-done : (time : ℕ) (report m' : List ℕ) → Done h (Passes time (losses_by (is_due time t.timer) 6 t.places) ∷ []) (losses_by (is_due time t.timer) 6 t.places) []
      (state_of (sweep (is_due time t.timer) 6 time t report).answer.table m' store)
  pass-done time report m' =
      sweep-done (is_due time t.timer) (due-open time t.timer) 6 report time m' (Passes time) refl (losses-lost (is_due time t.timer) 6 t.places) refl refl refl refl refl

  -- an association that has ended
  end-done : (association : ℕ) (report m' : List ℕ) → Done h (Ends association (losses_by (is_of association) 7 t.places) ∷ []) (losses_by (is_of association) 7 t.places) []
      (state_of (sweep (is_of association) 7 t.clock t report).answer.table m' store)
  end-done association report m' =
      sweep-done (is_of association) (of-open association) 7 report t.clock m' (Ends association) refl (losses-lost (is_of association) 7 t.places) refl refl refl refl (sym inv.agrees.clock)

-- the next call finds the history counted
pub counted-inv : (st : State) (h : Told) → Inv st h → Inv st (counted h)
counted-inv st h inv = record { typed = inv.typed; agrees = record { exact = inv.agrees.exact; registry = inv.agrees.registry; timer = inv.agrees.timer; clock = inv.agrees.clock } }

-- CALLS
module _ (st : State) (h : Told) (inv : Inv st h) where
  abbrev now : Inv st (counted h)
  now = counted-inv st h inv

  -- one that is refused as a whole does nothing
  refused-done : (c : Call) (o : Outcome) → deeds_of c o.answer ≡ [] → handing ours o.answer.decided (parameter_of c) o.state.store ≡ [] → o.answer.records ≡ 0 → o.state ≡ st → Accounted h (seen_with st c o)
  refused-done c o e d r s = accounted-by st h c o (rw (e, d, r, s) (idle-done st (counted h) now)) (λ z. s)

  ticks-done : (x : Tick) → Accounted h (seen_by ours st (Ticks x))
  unfolding step clock_with clock_checks_with sweep deeds_of delivery
  ticks-done x = go (accepted (checks_of st (Ticks x))) refl
    where
      test : Place → Bool
      test = is_due x.time st.table.timer

      go : (b : Bool) → accepted (checks_of st (Ticks x)) ≡ b → Accounted h (seen_by ours st (Ticks x))
      go true e =
          let c = clock-good st.table x.report x.time (clock-accepted st.table st.summary x.report x.time e).own in
          let back = made-back st (counted h) now test (due-open st (counted h) now x.time st.table.timer) 6 x.report x.time c.0 c.1 [] in
          rw e (accounted-by st h (Ticks x) _ (rw back (pass-done st (counted h) now x.time x.report _)) (λ z. absurd (some-deed z)))
      go false e =
          subst (λ (o : Outcome). Accounted h (seen_with st (Ticks x) o)) (sym (step-refused st (Ticks x) e))
          (refused-done (Ticks x) (unmoved st (Ticks x) (fault (checks_of st (Ticks x)))) (rw (ne_eqb _ 0 (refused-number st (Ticks x) e))) refl refl refl)

  releases-done : (x : Release) → Accounted h (seen_by ours st (Releases x))
  unfolding step release_with release_checks_with sweep deeds_of delivery
  releases-done x = go (accepted (checks_of st (Releases x))) refl
    where
      test : Place → Bool
      test = is_of x.association

      go : (b : Bool) → accepted (checks_of st (Releases x)) ≡ b → Accounted h (seen_by ours st (Releases x))
      go true e =
          let c = release-good st.table x.report (release-accepted st.table st.summary x.report x.association e).own in
          let back = made-back st (counted h) now test (of-open st (counted h) now x.association) 7 x.report st.table.clock c.0 c.1 [] in
          rw e (accounted-by st h (Releases x) _ (rw back (end-done st (counted h) now x.association x.report _)) (λ z. absurd (some-deed z)))
      go false e =
          subst (λ (o : Outcome). Accounted h (seen_with st (Releases x) o)) (sym (step-refused st (Releases x) e))
          (refused-done (Releases x) (unmoved st (Releases x) (fault (checks_of st (Releases x)))) (rw (ne_eqb _ 0 (refused-number st (Releases x) e))) refl refl refl)

  sends-done : (x : Dispatch) → Accounted h (seen_by ours st (Sends x))
  unfolding step deeds_of
  sends-done x = refused-done (Sends x) (step st (Sends x)) refl refl refl refl

  -- an arrival
  module _ (x : Arrival) where
    abbrev w : Counted Sweeping
    w = clock_of st x

    abbrev pub timed_out : List Record
    timed_out = losses_by (is_due x.time st.table.timer) 6 st.table.places

    -- its time comes
    abbrev pub later : State
    later = clocked_by st x

    abbrev pub told : Told
    told = did (counted h) (Passes x.time timed_out)

    pass : Done (counted h) (Passes x.time timed_out ∷ []) timed_out [] later
    pass = pass-done st (counted h) now x.time x.report w.summary

    pub inv-later : Inv later told
    inv-later = record { typed = clocked-typed st x inv.typed; agrees = pass.agrees }

    module _ (allowed : accepted (whole_of st x) ≡ true) where
      long : record_length * length timed_out ≤ length x.report
      long =
          let few = losses-few (is_due x.time st.table.timer) 6 st.table.places in
          let count = inv.typed.count in
          let room = (whole_parts st.table st.summary st.store x.report x.time x.association x.parameter allowed).reports in
          omega arith

      fit : AllFit timed_out
      fit =
          table-losses (is_due x.time st.table.timer) (due-open st (counted h) now x.time st.table.timer) 6 st.table
          (whole_parts st.table st.summary st.store x.report x.time x.association x.parameter allowed).table inv.typed

      -- its segment alone is refused
      clock-only : accepted (part_of st x) ≡ false → Accounted h (seen_with st (Arrives x) (after_arrival (clocked_with w st.store (fault (part_of st x)))))
      unfolding deeds_of sweep delivery
      clock-only f =
          let stood = part-stands st.table st.summary st.store x.report x.time x.association x.parameter f in
          let not0 = ne_eqb (first (part_of st x)) 0 (λ z. true≢false (sym stood ∙ ap stands z)) in
          let back = records-back timed_out x.report fit long in
          accounted-by st h (Arrives x) _ (rw (not0, stood, back) pass) (λ z. absurd (some-deed (rw (not0, stood) at z)))

      -- and is taken
      module _ (small : x.association < 2 ^ 16) (f : accepted (part_of st x) ≡ true) (g : accepted (both_of st x) ≡ true) where
        abbrev e : Effect
        e = effect later told inv-later x

        good : Good later told inv-later x told.registry told.time e
        good = arrival-good later told inv-later x small (second-accepted st x allowed f g)

        taken : Done told (takes later told inv-later x e ∷ []) e.records (delivery e.decision x.parameter e.store) (state_of (with_places later.table e.places) (taken_by st x).summary e.store)
        taken = take_done later told inv-later x (taken_by st x).summary e good

        room : record_length * length e.records ≤ length (behind w)
        room =
            let one = good.1.one in
            let rest = behind-long st.table st.summary st.store x.report x.time x.association x.parameter allowed inv.typed.count in
            omega arith

        -- its records are told apart
        abbrev answer : Answer
        answer = (after_arrival (both_with w (taken_by st x))).answer

        report-is : answer.lent.report ≡ records_octets timed_out ++ splice (behind w) 0 (records_octets e.records)
        unfolding sweep
        report-is = ap (λ (l : List ℕ). l ++ splice (behind w) 0 (records_octets e.records)) (records-front timed_out x.report fit long)

        timeouts-are : timeouts_in answer ≡ timed_out
        unfolding sweep
        timeouts-are = rw report-is (first_back timed_out e.records (behind w) fit good.1.fits room)

        own-are : own_in answer ≡ e.records
        unfolding sweep
        own-are =
            let n : ℕ = length timed_out in
            let k : n + length e.records - n ≡ length e.records = omega arith in
            rw (report-is, k, second-there timed_out e.records (behind w) fit good.1.fits room) (records-back e.records (behind w) good.1.fits room)

        records-are : records_in answer ≡ timed_out ++ e.records
        unfolding sweep
        records-are = rw report-is (two_back timed_out e.records (behind w) fit good.1.fits room)

        both-taken : Accounted h (seen_with st (Arrives x) (after_arrival (both_with w (taken_by st x))))
        unfolding deeds_of
        both-taken = accounted-by st h (Arrives x) (after_arrival (both_with w (taken_by st x))) (rw (timeouts-are, own-are, records-are) (done-then pass taken)) (λ z. absurd (some-deed z))

    -- it is refused as a whole
    undone : (n : Fault) → stands n.number ≡ false → (n.number ≡ 0 → ⊥) → Accounted h (seen_with st (Arrives x) (after_arrival (counting st.summary (unreceived st.table st.store x.report n))))
    unfolding deeds_of delivery
    undone n e z = refused-done (Arrives x) (after_arrival (counting st.summary (unreceived st.table st.store x.report n))) (rw (ne_eqb n.number 0 z, e)) refl refl refl

    -- THE STATE AND THE DEEDS that are left: none; its time alone; its time, and then its segment
    module _ (small : x.association < 2 ^ 16) (Q : State → List Deed → Type 0) where
      abbrev Left : Outcome → Type 0
      Left o = Q o.state (deeds_of (Arrives x) o.answer)

      abbrev undone_by : Fault → Outcome
      undone_by n = after_arrival (counting st.summary (unreceived st.table st.store x.report n))

      undone-left : (n : Fault) → stands n.number ≡ false → (n.number ≡ 0 → ⊥) → Q st [] → Left (undone_by n)
      unfolding deeds_of
      undone-left n e z none = rw (ne_eqb n.number 0 z, e) none

      clock-left : accepted (whole_of st x) ≡ true → accepted (part_of st x) ≡ false → Q later (Passes x.time timed_out ∷ []) → Left (after_arrival (clocked_with w st.store (fault (part_of st x))))
      unfolding deeds_of sweep
      clock-left e f one =
          let stood = part-stands st.table st.summary st.store x.report x.time x.association x.parameter f in
          rw (ne_eqb (first (part_of st x)) 0 (λ z. true≢false (sym stood ∙ ap stands z)), stood, records-back timed_out x.report (fit e) (long e)) one

      both_left : (a : accepted (whole_of st x) ≡ true) (f : accepted (part_of st x) ≡ true) (g : accepted (both_of st x) ≡ true)
          → Q (received later told inv-later x) (Passes x.time timed_out ∷ takes later told inv-later x (effect later told inv-later x) ∷ []) → Left (after_arrival (both_with w (taken_by st x)))
      unfolding deeds_of segment_sums
      both_left a f g both = rw (timeouts-are a small f g, own-are a small f g) both

      pub arrival-left : Q st [] → (accepted (whole_of st x) ≡ true → Q later (Passes x.time timed_out ∷ []))
          → (accepted (whole_of st x) ≡ true → accepted (checks_at later x) ≡ true
          → Q (received later told inv-later x) (Passes x.time timed_out ∷ takes later told inv-later x (effect later told inv-later x) ∷ []))
          → Left (step st (Arrives x))
      arrival-left none one both =
          arrival-cases st x Left
          (λ e. let n = whole-undoes st.table st.summary st.store x.report x.time x.association x.parameter e in undone-left (fault (whole_of st x)) n.0 n.1 none)
          (λ e f. clock-left e f (one e))
          (λ e f g.
          subst (λ (n : Fault). Left (undone_by n)) (sym (both-22 st.table st.summary st.store x.report x.time x.association x.parameter g))
          (undone-left (unplaced 22) refl (λ z. omega arith) none))
          (λ a e f g. both_left e f g (both e (second-accepted st x e f g)))

    arrives-done : x.association < 2 ^ 16 → Accounted h (seen_by ours st (Arrives x))
    arrives-done small =
        arrival-cases st x (λ (o : Outcome). Accounted h (seen_with st (Arrives x) o))
        (λ e. let n = whole-undoes st.table st.summary st.store x.report x.time x.association x.parameter e in undone (fault (whole_of st x)) n.0 n.1)
        (λ e f. clock-only e f)
        (λ e f g.
        subst (λ (n : Fault). Accounted h (seen_with st (Arrives x) (after_arrival (counting st.summary (unreceived st.table st.store x.report n)))))
        (sym (both-22 st.table st.summary st.store x.report x.time x.association x.parameter g)) (undone (unplaced 22) refl (λ z. omega arith)))
        (λ a e f g. both-taken e small f g)

  pub call-done : (c : Call) → InRange c → is_opening c ≡ false → Accounted h (seen_by ours st c)
  call-done (Opens x) r o = absurd (clash refl o)
  call-done (Arrives x) r o = arrives-done x r.1
  call-done (Ticks x) r o = ticks-done x
  call-done (Releases x) r o = releases-done x
  call-done (Sends x) r o = sends-done x

-- The opening: by whether it is accepted
abbrev opened_by : Opening → Bool → Opened
opened_by x b =
    if b then record { table = empty_table (entries_of x.registry) x.timer x.time; refusal = 0 }
    else record { table = unopened; refusal = first (opening_checks x.registry x.timer) }

opened-zero : (st : State) (x : Opening) (b : Bool) → accepted (opening_checks x.registry x.timer) ≡ b → eqb (opened_by x b).refusal 0 ≡ b
opened-zero st x true e = refl
opened-zero st x false e = ne_eqb (first (opening_checks x.registry x.timer)) 0 (refused-number st (Opens x) e)

opened-agrees : (store : List ℕ) (n : ℕ) (x : Opening) (b : Bool) → Agrees (state_of (opened_by x b).table empty_summary store) (beginning n x b)
unfolding held
opened-agrees store n x true = record { exact = λ k. refl; registry = refl; timer = refl; clock = refl }
opened-agrees store n x false = record { exact = λ k. refl; registry = refl; timer = refl; clock = refl }

pub open_done : (st : State) (h : Told) (x : Opening) → Accounted h (seen_by ours st (Opens x))
unfolding step opening after covers EachIn deeds_of delivery
open_done st h x =
    record {
      recorded = refl;
      ruled = (tt, tt);
      fair = tt;
      handed = refl;
      agrees = go (accepted (opening_checks x.registry x.timer)) refl;
      unmoved = λ z. absurd (some-deed z);
    }
  where
    go : (b : Bool) → accepted (opening_checks x.registry x.timer) ≡ b
        → Agrees (after_opening st.store (opened_by x b)).state (beginning (h.number + 1) x (eqb (opened_by x b).refusal 0))
    go b e = rw (opened-zero st x b e) (opened-agrees st.store (h.number + 1) x b)

-- what an opening and every call leave
pub inv-opened : (st : State) (h : Told) (x : Opening) → Inv (step st (Opens x)).state (after h (seen_by ours st (Opens x)))
inv-opened st h x = record { typed = typed-opened st x.registry x.timer x.time; agrees = (open_done st h x).agrees }

pub inv-call : (st : State) (h : Told) → Inv st h → (c : Call) → InRange c → is_opening c ≡ false → Inv (step st c).state (after h (seen_by ours st c))
inv-call st h inv c r o = record { typed = typed-kept st c inv.typed r; agrees = (call-done st h inv c r o).agrees }

pub demand-3 : Demand3 ours
demand-3 = meets Accounted Inv (λ st h x r. (open_done st h x, inv-opened st h x)) (λ st h inv c r o. (call-done st h inv c r o, inv-call st h inv c r o))
