-- Every call that spares a key leaves its place; a sweep does because each place that it frees has its record, and that is read back.
use Rattle.std.specs.Prelude.{if◌then◌else◌}
use Prim.Native.Nat.{ℕ, ◌≤◌}
use mathlib.Core.Path.{◌≡◌, refl, subst}
use mathlib.Core.Bool.{Bool, true, false, and-eq-true_iff}
use mathlib.Core.List.{List, [], ◌∷◌, map}
use native.Mathlib.Omega.{arith}
use borrow.Author.Tests.{ltb-false, not-true}
use lib.ListN.{length}
use Rattle.rules.specs.General.{every, those}
use Rattle.rules.specs.Refusals.{accepted}
use Rattle.rules.specs.Registry.{is_usable}
use Rattle.rules.specs.Records.{records_from}
use Rattle.rules.specs.Places.{no_place, is_open}
use Rattle.rules.specs.Soundness.{open_sound, place_sound, sound}
use Rattle.rules.specs.Sweep.{loss_of, sweep, Sweeping, report_least, is_due, is_of, clock_checks, release_checks, losses_by}
use Rattle.rules.specs.Calls.{State, Arrival, Call, Opens, Arrives, Ticks, Releases, Sends, step}
use Rattle.rules.specs.declared.Entry.{Entry}
use Rattle.rules.specs.declared.Key.{Key}
use Rattle.rules.specs.declared.Place.{Place}
use Rattle.rules.specs.declared.Table.{Table}
use Rattle.rules.specs.declared.Record.{Record}
use Rattle.rules.proofs.Soundness.{open-parts}
use Rattle.rules.proofs.Cutting.{kind-known}
use Rattle.rules.proofs.Held.{open_is, places-sound}
use Rattle.rules.proofs.Records.{Fits, AllFit, records-back}
use Rattle.rules.proofs.Arrival.{losses-few}
use Rattle.rules.proofs.Answers.{clock-by, clock-accepted, release-by, release-accepted}
use Rattle.demands.specs.Machine.{clocked_by, is_opening, All, TypedPlace, Typed}
use Rattle.demands.proofs.Parts.{arrival-state, arrival-spared}
use Rattle.demands.proofs.Typed.{clocked-typed}
use Rattle.demands.specs.Demand2.{SparesTime, Spares}
use Rattle.demands.proofs.Spared.{Kept, segment-kept, segment-registry, segment-length, sweep-kept}

-- no record of it is of a key
abbrev Silent : Key → Sweeping → Type 0
Silent k o = All (λ (r : Record). r.key ≡ k → ⊥) (records_from o.answer.records o.report)

pub registry-usable : (t : Table) → sound t ≡ true → every is_usable t.registry ≡ true
unfolding sound
registry-usable t e = (simp and-eq-true_iff at e).0.0.1.0

loss-fits : (r : List Entry) (timer clock cause : ℕ) (p : Place) → every is_usable r ≡ true → open_sound r timer clock p ≡ true → TypedPlace p → Fits (loss_of cause p)
loss-fits r timer clock cause p usable e typed =
    let all = open-parts r timer clock p e in
    let known = kind-known r p.key.context.0 usable all.registered in
    let most = known.2 in
    let size = all.octets in
    record { addresses = typed.addresses; association = typed.association; context = omega arith; octets = omega arith }

module _ (test : Place → Bool) (opens : (p : Place) → test p ≡ true → is_open p ≡ true) (cause : ℕ) where
  losses-fit : (r : List Entry) (timer clock : ℕ) (ps : List Place) → every is_usable r ≡ true → every (place_sound r timer clock) ps ≡ true → All TypedPlace ps
      → AllFit (losses_by test cause ps)
  losses-fit r timer clock [] usable e typed = tt
  losses-fit r timer clock (p ∷ ps) usable e typed = go (test p) refl (losses-fit r timer clock ps usable both.1 typed.1)
    where
      both : (place_sound r timer clock p ≡ true) × (every (place_sound r timer clock) ps ≡ true)
      both = (and-eq-true_iff (place_sound r timer clock p) _).0 e

      go : (b : Bool) → test p ≡ b → AllFit (losses_by test cause ps) → AllFit (map (loss_of cause) (if b then p ∷ those test ps else those test ps))
      go true t later = (loss-fits r timer clock cause p usable (open_is r timer clock p both.0 (opens p t)) typed.0, later)
      go false t later = later

  pub table-losses : (t : Table) → sound t ≡ true → Typed t → AllFit (losses_by test cause t.places)
  table-losses t good typed = losses-fit t.registry t.timer t.clock t.places (registry-usable t good) (places-sound t good) typed.each

  module _ (t : Table) (good : sound t ≡ true) (typed : Typed t) (time : ℕ) (report : List ℕ) where
    pub sweep-back : report_least ≤ length report
        → records_from (sweep test cause time t report).answer.records (sweep test cause time t report).report ≡ losses_by test cause t.places
    unfolding sweep
    sweep-back h =
        let few = losses-few test cause t.places in
        let count = typed.count in
        records-back (losses_by test cause t.places) report
        (table-losses t good typed) (omega arith)

    carried-kept : (k : Key) (i : ℕ) (p : Place) (saved store : List ℕ) → test no_place ≡ false → Kept k i p saved t.places store → report_least ≤ length report
        → Silent k (sweep test cause time t report) → Kept k i p saved (sweep test cause time t report).answer.table.places store
    unfolding sweep
    carried-kept k i p saved store none kept ample others =
        sweep-kept k i p saved store test cause t.places none
        (subst (λ (rs : List Record). All (λ (r : Record). r.key ≡ k → ⊥) rs) (sweep-back ample) others) kept

clock-ample : (t : Table) (report : List ℕ) (time : ℕ) → accepted (clock_checks t report time) ≡ true → report_least ≤ length report
unfolding clock_checks
clock-ample t report time e = ltb-false (length report) report_least (not-true _ (simp and-eq-true_iff at e).1.0)

release-ample : (t : Table) (report : List ℕ) → accepted (release_checks t report) ≡ true → report_least ≤ length report
unfolding release_checks
release-ample t report e = ltb-false (length report) report_least (not-true _ (simp and-eq-true_iff at e).1.0)

-- an arrival's clock work that makes no record of the key
pub clock-spared : (k : Key) (i : ℕ) (p : Place) (saved : List ℕ) (st : State) (x : Arrival) → SparesTime st k x → Kept k i p saved st.table.places st.store
    → Kept k i p saved (clocked_by st x).table.places st.store
unfolding sweep
clock-spared k i p saved st x none kept = sweep-kept k i p saved st.store (is_due x.time st.table.timer) 6 st.table.places refl none kept

-- the place and what was saved there
pub spared : (k : Key) (i : ℕ) (p : Place) (saved : List ℕ) → length saved ≤ 2048 → (st : State) (c : Call) → sound st.table ≡ true → Typed st.table
    → Spares st k c → Kept k i p saved st.table.places st.store → Kept k i p saved (step st c).state.table.places (step st c).state.store
unfolding step sweep
spared k i p saved size st (Opens x) good typed spares kept = absurd spares
spared k i p saved size st (Arrives x) good typed spares kept =
    arrival-spared st x (λ (st : State). Kept k i p saved st.table.places st.store) kept (λ e. clock-spared k i p saved st x (spares.0 e) kept)
    (λ a e f.
    segment-kept (clocked_by st x).table (clocked_by st x).summary st.store x.report x.association x.parameter k i p saved size (clock-spared k i p saved st x (spares.0 e) kept)
    (clocked-typed st x typed).count f (spares.1 a))
spared k i p saved size st (Ticks x) good typed spares kept =
    clock-by st.table st.summary x.report x.time (λ (o : Sweeping). Silent k o → Kept k i p saved o.answer.table.places st.store)
    (λ e.
    carried-kept (is_due x.time st.table.timer) (λ q e. ((and-eq-true_iff (is_open q) _).0 e).0) 6 st.table good typed x.time x.report k i p saved st.store refl kept
    (clock-ample st.table x.report x.time (clock-accepted st.table st.summary x.report x.time e).own))
    (λ e others. kept) spares
spared k i p saved size st (Releases x) good typed spares kept =
    release-by st.table st.summary x.report x.association (λ (o : Sweeping). Silent k o → Kept k i p saved o.answer.table.places st.store)
    (λ e.
    carried-kept (is_of x.association) (λ q e. ((and-eq-true_iff (is_open q) _).0 e).0) 7 st.table good typed st.table.clock x.report k i p saved st.store refl kept
    (release-ample st.table x.report (release-accepted st.table st.summary x.report x.association e).own))
    (λ e others. kept) spares
spared k i p saved size st (Sends x) good typed spares kept = kept

-- the registry and the store's length
pub registry-kept : (st : State) (c : Call) → is_opening c ≡ false → (step st c).state.table.registry ≡ st.table.registry
unfolding step sweep
registry-kept st (Opens x) o = cc
registry-kept st (Arrives x) o =
    arrival-state st x (λ (s : State). s.table.registry ≡ st.table.registry) refl (λ e. refl)
    (λ e f. segment-registry (clocked_by st x).table (clocked_by st x).summary st.store x.report x.association x.parameter)
registry-kept st (Ticks x) o = clock-by st.table st.summary x.report x.time (λ (s : Sweeping). s.answer.table.registry ≡ st.table.registry) (λ e. refl) (λ e. refl)
registry-kept st (Releases x) o =
    release-by st.table st.summary x.report x.association (λ (s : Sweeping). s.answer.table.registry ≡ st.table.registry) (λ e. refl) (λ e. refl)
registry-kept st (Sends x) o = refl

pub store_kept : (st : State) (c : Call) → length (step st c).state.store ≡ length st.store
unfolding step
store_kept st (Opens x) = refl
store_kept st (Arrives x) =
    arrival-state st x (λ (s : State). length s.store ≡ length st.store) refl (λ e. refl)
    (λ e f. segment-length (clocked_by st x).table (clocked_by st x).summary st.store x.report x.association x.parameter)
store_kept st (Ticks x) = refl
store_kept st (Releases x) = refl
store_kept st (Sends x) = refl
