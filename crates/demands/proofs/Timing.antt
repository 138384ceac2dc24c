-- The timer: ages on the clock are true ages, and a clock call loses exactly what is T old.
use Rattle.std.specs.Prelude.{if◌then◌else◌}
use Prim.Native.Nat.{ℕ, suc, ◌+◌, ◌-◌, ◌%◌, ◌≤◌, ◌<◌, ◌^◌}
use mathlib.Core.Path.{◌≡◌, refl, ap, ap₂, ◌∙◌}
use mathlib.Core.Logic.{◌↔◌}
use mathlib.Core.Bool.{Bool, true, false, ◌&&◌, ◌||◌, and-eq-true_iff}
use mathlib.Core.List.{List, [], ◌∷◌, ◌++◌, map}
use native.Mathlib.Omega.{arith}
use borrow.Author.Tests.{eqb-true, ne_eqb, leb-true, le-leb, ltb-true}
use lib.Dec.{eqb, leb, ltb}
use lib.ListN.{length}
use Rattle.rules.specs.General.{every, those}
use Rattle.rules.specs.Numbers.{elapsed}
use Rattle.rules.specs.Records.{lost}
use Rattle.rules.specs.Places.{same_key, is_open, holds}
use Rattle.rules.specs.Soundness.{place_sound, open_sound, sound}
use Rattle.rules.specs.Receiving.{line_of}
use Rattle.rules.specs.Sweep.{loss_of, report_least, is_due, losses_by}
use Rattle.rules.specs.Summary.{clock_with, clock_checks_with}
use Rattle.rules.proofs.Answers.{clock-accepted}
use Rattle.rules.specs.Refusals.{accepted}
use Rattle.rules.specs.Calls.{State, Call, Opens, Arrives, Ticks, Releases, Sends, Opening, Arrival, Tick, step}
use Rattle.rules.specs.declared.Entry.{Entry}
use Rattle.rules.specs.declared.Key.{Key}
use Rattle.rules.specs.declared.Place.{Place}
use Rattle.rules.specs.declared.Table.{Table}
use Rattle.rules.specs.declared.Heading.{Heading}
use Rattle.rules.specs.declared.Line.{Line}
use Rattle.rules.specs.declared.Record.{Record}
use Rattle.rules.proofs.Numbers.{elapsed-leads, elapsed-is}
use Rattle.rules.proofs.Held.{open_is, places-sound}
use Rattle.demands.specs.Machine.{ours, clocked_by, whole_of, is_opening, All, InRange}
use Rattle.demands.proofs.Parts.{clock-allowed}
use Rattle.demands.specs.Seen.{seen_by}
use Rattle.demands.specs.History.{Segment, Told, Deed, Takes, Passes, Ends, filed, settled, arrived, left_in, records_in, deeds_of, beginning, counted, did, did_all, EachDeed, EachIn, after, is_restart, line_in}
use Rattle.demands.specs.Demand3.{Ending, ending_of, endings_of, TakenBy, Ruled, IsLost, View, view_of, held_from, held, owing}
use Rattle.demands.specs.Demanded.{Early}
use Rattle.demands.specs.Timer.{lost_by, IsOld, ticks_after, Timed, Timer}
use Rattle.demands.proofs.ByLine.{line-cases}
use Rattle.demands.proofs.Spared.{clash}
use Rattle.demands.proofs.Accepting.{clock-good}
use Rattle.demands.proofs.Refused.{zero-accepted}
use Rattle.demands.proofs.Kept.{Inv, counted-inv, due-open, made-back, effect, timed_out, told, inv-later, arrival-left, call-done, inv-opened, inv-call}
use Rattle.demands.proofs.Running.{either, meets}

abbrev pub Prompt : ℕ → ℕ → (Key → List Segment) → Type 0
Prompt time ticks u = (k : Key) → Early time ticks (u k)

pub record Timely (h : Told) : Type 0 where
  pub time : h.time < 2 ^ 32
  pub early : Prompt h.time h.ticks h.uncovered

module _ (time ticks : ℕ) where
  early-filed : (u : Key → List Segment) (k : Key) (l : List Segment) → Prompt time ticks u → Early time ticks l → Prompt time ticks (filed u k l)
  early-filed u k l p e k' = go (same_key k k')
    where
      go : (b : Bool) → Early time ticks (if b then l else u k')
      go true = e
      go false = p k'

  early-settled : (rs : List Record) (u : Key → List Segment) → Prompt time ticks u → Prompt time ticks (settled u rs)
  early-settled [] u p = p
  early-settled (r ∷ rs) u p = early-settled rs (filed u r.key []) (early-filed u r.key [] p tt)

  early-more : (x : Segment) (l : List Segment) → Early time ticks (x ∷ []) → Early time ticks l → Early time ticks (l ++ (x ∷ []))
  early-more x [] a b = a
  early-more x (y ∷ l) a b = b

  early-arrived : (u : Key → List Segment) (k : Key) (x : Segment) → x.time ≡ time → x.ticks ≡ ticks → time < 2 ^ 32 → Prompt time ticks u → Prompt time ticks (arrived u k x)
  unfolding elapsed
  early-arrived u k x e f b p = early-filed u k (u k ++ (x ∷ [])) p (early-more x (u k) (rw e b, rw f (omega arith), rw (e, f) (omega arith)) (p k))

  early-left : (restart : Bool) (u : Key → List Segment) (k : Key) (x : Segment) (rs : List Record) → x.time ≡ time → x.ticks ≡ ticks → time < 2 ^ 32 → Prompt time ticks u
      → Prompt time ticks (left_in restart u k x rs)
  early-left true u k x rs e f b p = early-arrived (settled u rs) k x e f b (early-settled rs u p)
  early-left false u k x rs e f b p = early-settled rs (arrived u k x) (early-arrived u k x e f b p)

-- a step of the clock, where nothing turns round
turns : (new now old a b : ℕ) → (a + old) % 2 ^ 32 ≡ now → (b + now) % 2 ^ 32 ≡ new → (a + b + old) % 2 ^ 32 ≡ new
turns new now old a b e f = omega arith

elapsed-more : (new now old ticks was : ℕ) → new < 2 ^ 32 → now < 2 ^ 32 → old < 2 ^ 32 → was ≤ ticks → elapsed now old ≡ ticks - was → elapsed now old < 1000001 → elapsed new now < 2 ^ 31
    → elapsed new old ≡ ticks + elapsed new now - was
elapsed-more new now old ticks was a b c d e f g =
    let r = turns new now old (elapsed now old) (elapsed new now) (elapsed-leads now old b c) (elapsed-leads new now a b) in
    let q = elapsed-is new old (elapsed now old + elapsed new now) a c (omega arith) r in
    omega arith

open-young : (registry : List Entry) (timer clock : ℕ) (p : Place) → open_sound registry timer clock p ≡ true → ltb (elapsed clock p.start) timer ≡ true
unfolding open_sound
open-young registry timer clock p e = (simp and-eq-true_iff at e).1

-- the views of open places that are not T old
young-held : (registry : List Entry) (timer clock : ℕ) (store : List ℕ) (k : Key) (i : ℕ) (ps : List Place) → every (place_sound registry timer clock) ps ≡ true
    → every (λ (w : View). ltb (elapsed clock w.start) timer) (held_from store k i ps) ≡ true
young-held registry timer clock store k i [] e = refl
young-held registry timer clock store k i (p ∷ ps) e =
    let both = (and-eq-true_iff (place_sound registry timer clock p) (every (place_sound registry timer clock) ps)).0 e in
    go (holds k p) refl both.0 (young-held registry timer clock store k (suc i) ps both.1)
  where
    go : (b : Bool) → holds k p ≡ b → place_sound registry timer clock p ≡ true → every (λ (w : View). ltb (elapsed clock w.start) timer) (held_from store k (suc i) ps) ≡ true
        → every (λ (w : View). ltb (elapsed clock w.start) timer) (if b then view_of store i p ∷ held_from store k (suc i) ps else held_from store k (suc i) ps) ≡ true
    go true h q ih = simp (open-young registry timer clock p (open_is registry timer clock p q ((and-eq-true_iff (is_open p) (same_key p.key k)).0 h).0), ih)
    go false h q ih = ih

unfoldable pub any_of : (View → Bool) → List View → Bool
any_of seen [] = false
any_of seen (w ∷ ws) = seen w || any_of seen ws

-- a sweep loses a key exactly where what is held of it passes the test
pub swept-is : (cause : ℕ) → eqb cause cause ≡ true → (test : Place → Bool) (seen : View → Bool) (store : List ℕ) (k : Key)
    → ((i : ℕ) (p : Place) → same_key p.key k ≡ true → test p ≡ (is_open p && seen (view_of store i p)))
    → (i : ℕ) (ps : List Place) → lost_by cause k (losses_by test cause ps) ≡ any_of seen (held_from store k i ps)
unfolding any_of
swept-is cause own test seen store k fits i [] = refl
swept-is cause own test seen store k fits i (p ∷ ps) =
    go (test p) (is_open p) (same_key p.key k) (seen (view_of store i p)) refl refl (fits i p) (swept-is cause own test seen store k fits (suc i) ps)
  where
    go : (b o s d : Bool) → same_key p.key k ≡ s → seen (view_of store i p) ≡ d → (s ≡ true → b ≡ (o && d))
        → lost_by cause k (losses_by test cause ps) ≡ any_of seen (held_from store k (suc i) ps)
        → lost_by cause k (map (loss_of cause) (if b then p ∷ those test ps else those test ps))
        ≡ any_of seen (if o && s then view_of store i p ∷ held_from store k (suc i) ps else held_from store k (suc i) ps)
    go true true false d q e f ih = simp q ih
    go true false false d q e f ih = simp q ih
    go false true false d q e f ih = ih
    go false false false d q e f ih = ih
    go true true true true q e f ih = simp (q, own, e)
    go false true true false q e f ih = simp e ih
    go false false true d q e f ih = ih
    go true true true false q e f ih = absurd (clash refl (f refl))
    go false true true true q e f ih = absurd (clash (f refl) refl)
    go true false true d q e f ih = absurd (clash refl (f refl))

timer-most : (t : Table) → sound t ≡ true → t.timer ≤ 1000000
unfolding sound
timer-most t s = leb-true t.timer 1000000 (simp and-eq-true_iff at s).0.0.0.1

-- a view is T old
abbrev olds : ℕ → ℕ → View → Bool
olds timer time w = leb timer (elapsed time w.start)

-- No other deed gives a cause over 5 but the release, and that gives 7

other-cause : (a b c l : Bool) → c ≡ false → (if a && b && c then true else l) ≡ l
other-cause true true c l e = rw e
other-cause true false c l e = refl
other-cause false true c l e = refl
other-cause false false c l e = refl

pub lost-other : (n cause : ℕ) → eqb n cause ≡ false → (k : Key) (rs : List Record) → All (IsLost n) rs → lost_by cause k rs ≡ false
lost-other n cause e k [] all = refl
lost-other n cause e k (r ∷ rs) all =
    other-cause (same_key r.key k) (eqb r.kind lost) (eqb r.cause cause) (lost_by cause k rs) (ap (λ (m : ℕ). eqb m cause) all.0.cause ∙ e)
    ∙ lost-other n cause e k rs all.1

-- one record at most, with a cause up to 5
abbrev Mild : List Ending → Type 0
Mild [] = Unit {0}
Mild (x ∷ []) = x.cause < 6
Mild (x ∷ y ∷ l) = ⊥

mild-line : (k : Key) (is_open : Bool) (before saved : ℕ) (g : Heading) (n : ℕ) → Mild (endings_of k (line_of is_open before saved g n))
mild-line k is_open before saved g n =
    line-cases (λ (line : Line). Mild (endings_of k line)) is_open before saved g n
    (λ e. omega arith) (λ cause l e. l) (λ e o. omega arith) (λ e o. tt) (λ e o l. omega arith) (λ e o l. tt)

mild-other : (cause : ℕ) → 6 ≤ cause → (k : Key) (rs : List Record) → Mild (map ending_of rs) → lost_by cause k rs ≡ false
mild-other cause b k [] m = refl
mild-other cause b k (r ∷ []) m = other-cause (same_key r.key k) (eqb r.kind lost) (eqb r.cause cause) false (ne_eqb r.cause cause (omega arith))
mild-other cause b k (r ∷ q ∷ rs) m = absurd m

pub line_other : (cause : ℕ) → 6 ≤ cause → (h : Told) (association : ℕ) (s : List ℕ) (rs : List Record) → TakenBy h association s rs → (k : Key) → lost_by cause k rs ≡ false
line_other cause b h association s rs d k = mild-other cause b k rs (rw d.ends (mild-line _ _ _ _ _ _))

module _ (st : State) (h : Told) (inv : Inv st h) where
  abbrev t : Table
  t = st.table

  module _ (timely : Timely h) where
    -- what is uncovered is not T old, and stays timed by the clock
    older : (time : ℕ) → time < 2 ^ 32 → sound t ≡ true → elapsed time t.clock < 2 ^ 31 → Prompt time (ticks_after h time) h.uncovered
    unfolding held
    older time b good step k = go (h.uncovered k) (inv.agrees.exact k) (timely.early k)
      where
        go : (l : List Segment) → held_from st.store k 0 t.places ≡ owing l → Early h.time h.ticks l → Early time (ticks_after h time) l
        go [] e y = tt
        go (x ∷ l) e y =
            let link = inv.agrees.clock in
            let young = rw e at (young-held t.registry t.timer t.clock st.store k 0 t.places (places-sound t good)) in
            let less = ltb-true (elapsed t.clock x.time) t.timer ((and-eq-true_iff _ _).0 young).0 in
            let now : elapsed h.time x.time < 1000001 = rw (← link) (let m = timer-most t good in omega arith) in
            let far : elapsed time h.time < 2 ^ 31 = rw (← link) step in
            (y.0, (let z = y.1 in omega arith), elapsed-more time h.time x.time h.ticks x.ticks b timely.time y.0 y.1 y.2 now far)

    -- a time that has come, and a segment that is accepted
    pass-timely : (time : ℕ) → time < 2 ^ 32 → sound t ≡ true → elapsed time t.clock < 2 ^ 31 → (rs : List Record) → Timely (did h (Passes time rs))
    pass-timely time b good step rs = record { time = b; early = early-settled time (ticks_after h time) rs h.uncovered (older time b good step) }

    old-is : (time : ℕ) (l : List Segment) → Early time (ticks_after h time) l → (any_of (olds h.timer time) (owing l) ≡ true) ↔ IsOld h.timer (ticks_after h time) l
    unfolding any_of
    old-is time [] e = (λ z. absurd (clash z refl), λ z. absurd z)
    old-is time (x ∷ l) e =
        let a = e.2 in
        (λ z. (let q = leb-true h.timer (elapsed time x.time) (or-false _ z) in omega arith), λ z. simp (le-leb h.timer (elapsed time x.time) (omega arith)))
      where
        or-false : (b : Bool) → (b || false) ≡ true → b ≡ true
        or-false true q = refl
        or-false false q = q

    -- it loses exactly what is T old by then
    clock-timed : (time : ℕ) → time < 2 ^ 32 → sound t ≡ true → elapsed time t.clock < 2 ^ 31 → (k : Key)
        → (lost_by 6 k (losses_by (is_due time t.timer) 6 t.places) ≡ true) ↔ IsOld h.timer (ticks_after h time) (h.uncovered k)
    unfolding held
    clock-timed time b good step k =
        let e : lost_by 6 k (losses_by (is_due time t.timer) 6 t.places) ≡ any_of (olds h.timer time) (owing (h.uncovered k)) =
        swept-is 6 refl (is_due time t.timer) (olds t.timer time) st.store k (λ i p e. refl) 0 t.places
        ∙ ap₂ (λ (m : ℕ) (l : List View). any_of (olds m time) l) inv.agrees.timer (inv.agrees.exact k) in
        rw e (old-is time (h.uncovered k) (older time b good step k))

take-timely : (h : Told) → Timely h → (association : ℕ) (s : List ℕ) (rs : List Record) → Timely (did h (Takes association s rs))
take-timely h timely association s rs =
    record { time = timely.time; early = early-left h.time h.ticks (is_restart (line_in h association s)) h.uncovered _ _ rs refl refl timely.time timely.early }

-- CALLS
module _ (st : State) (h : Told) (inv : Inv st h) (timely : Timely h) where
  -- the same history, counted
  still : Timely (counted h)
  still = record { time = timely.time; early = timely.early }

  now : Inv st (counted h)
  now = counted-inv st h inv

  -- a time that is accepted
  steps-good : (x : Arrival) → accepted (whole_of st x) ≡ true → (sound st.table ≡ true) × (elapsed x.time st.table.clock < 2 ^ 31)
  steps-good x e =
      let c = clock-good st.table x.report x.time (clock-accepted st.table st.summary x.report x.time (clock-allowed st x e)).own in
      (c.0, c.2)

  ticks-good : (x : Tick) → eqb (step st (Ticks x)).answer.refusal 0 ≡ true → (sound st.table ≡ true) × (report_least ≤ length x.report) × (elapsed x.time st.table.clock < 2 ^ 31)
  ticks-good x e = clock-good st.table x.report x.time (clock-accepted st.table st.summary x.report x.time (zero-accepted st (Ticks x) (eqb-true _ 0 e))).own

  ticks-records : (x : Tick) → eqb (step st (Ticks x)).answer.refusal 0 ≡ true → records_in (step st (Ticks x)).answer ≡ losses_by (is_due x.time st.table.timer) 6 st.table.places
  unfolding step clock_with clock_checks_with
  ticks-records x e =
      let c = ticks-good x e in
      rw (zero-accepted st (Ticks x) (eqb-true _ 0 e))
      (made-back st h inv (is_due x.time st.table.timer) (due-open st h inv x.time st.table.timer) 6 x.report x.time c.0 c.1 st.summary)

  pub timely-call : (c : Call) → InRange c → is_opening c ≡ false → Timely (after h (seen_by ours st c))
  unfolding after deeds_of
  timely-call (Opens x) r o = absurd (clash refl o)
  timely-call (Arrives x) r o =
      let passed : accepted (whole_of st x) ≡ true → Timely (told st h inv x) = λ e. let c = steps-good x e in pass-timely st (counted h) now still x.time r.0 c.0 c.1 (timed_out st h inv x) in
      arrival-left st h inv x r.1 (λ (st : State) (ds : List Deed). Timely (did_all (counted h) ds)) still passed (λ e f. take-timely (told st h inv x) (passed e) x.association x.parameter (effect (clocked_by st x) (told st h inv x) (inv-later st h inv x) x).records)
  timely-call (Ticks x) r o =
      either (λ (ds : List Deed). Timely (did_all (counted h) ds)) (eqb (step st (Ticks x)).answer.refusal 0) (Passes x.time (records_in (step st (Ticks x)).answer))
      (λ e. let c = ticks-good x e in pass-timely st (counted h) now still x.time r c.0 c.2 (records_in (step st (Ticks x)).answer)) still
  timely-call (Releases x) r o =
      let rs : List Record = records_in (step st (Releases x)).answer in
      either (λ (ds : List Deed). Timely (did_all (counted h) ds)) (eqb (step st (Releases x)).answer.refusal 0) (Ends x.association rs)
      (λ e. record { time = timely.time; early = early-settled h.time h.ticks rs h.uncovered timely.early })
      still
  timely-call (Sends x) r o = still

  -- deeds that are ruled are timed
  abbrev So : List Deed → Type 0
  So ds = EachDeed Ruled (counted h) ds → EachDeed Timed (counted h) ds

  pub timed-call : (c : Call) → InRange c → is_opening c ≡ false → EachIn Ruled h (seen_by ours st c) → EachIn Timed h (seen_by ours st c)
  unfolding EachIn deeds_of
  timed-call (Opens x) r o = absurd (clash refl o)
  timed-call (Arrives x) r o =
      let passed : accepted (whole_of st x) ≡ true → Timed (counted h) (Passes x.time (timed_out st h inv x)) = λ e. let c = steps-good x e in clock-timed st (counted h) now still x.time r.0 c.0 c.1 in
      arrival-left st h inv x r.1 (λ (st : State) (ds : List Deed). So ds) (λ d. tt) (λ e d. (passed e, tt))
      (λ e f d. (passed e, (line_other 6 (omega arith) (told st h inv x) x.association x.parameter _ d.1.0, tt)))
  timed-call (Ticks x) r o =
      either So (eqb (step st (Ticks x)).answer.refusal 0) _
      (λ e d. let c = ticks-good x e in (rw (ticks-records x e) (clock-timed st (counted h) now still x.time r c.0 c.2), tt)) (λ d. tt)
  timed-call (Releases x) r o =
      either So (eqb (step st (Releases x)).answer.refusal 0) _ (λ e d. (λ k. lost-other 7 6 refl k (records_in (step st (Releases x)).answer) d.0, tt)) (λ d. tt)
  timed-call (Sends x) r o = λ d. tt

pub record Timing (st : State) (h : Told) : Type 0 where
  pub inv : Inv st h
  pub timely : Timely h

pub timing-opened : (st : State) (h : Told) (x : Opening) → InRange (Opens x) → Timely (after h (seen_by ours st (Opens x)))
unfolding after deeds_of
timing-opened st h x r = go (eqb (step st (Opens x)).answer.refusal 0)
  where
    go : (b : Bool) → Timely (beginning (h.number + 1) x b)
    go true = record { time = r; early = λ k. tt }
    go false = record { time = omega arith; early = λ k. tt }

pub opened-timed : (st : State) (h : Told) (x : Opening) → EachIn Timed h (seen_by ours st (Opens x))
unfolding EachIn deeds_of
opened-timed st h x = (tt, tt)

pub timer : Timer ours
timer =
    meets (EachIn Timed) Timing
    (λ st h x r. (opened-timed st h x, record { inv = inv-opened st h x; timely = timing-opened st h x r }))
    (λ st h i c r o. (
      timed-call st h i.inv i.timely c r o (call-done st h i.inv c r o).ruled,
      record { inv = inv-call st h i.inv c r o; timely = timely-call st h i.inv i.timely c r o },
    ))
