-- What a call does to the state and to the history: a property that an accepted segment, a sweep and the count of calls leave is left by every call but an opening.
use Prim.Native.Nat.{ℕ, ◌<◌, ◌^◌}
use mathlib.Core.Path.{◌≡◌}
use mathlib.Core.Bool.{Bool, true, false, true≢false}
use mathlib.Core.List.{List, [], map}
use borrow.Author.Tests.{ne_eqb}
use Rattle.rules.specs.Refusals.{accepted}
use Rattle.rules.specs.Places.{is_open}
use Rattle.rules.specs.Sweep.{Sweeping, freed_by, losses_by, sweep, is_due, is_of}
use Rattle.rules.specs.Summary.{Counted, billed}
use Rattle.rules.specs.Calls.{State, state_of, Call, Opens, Arrives, Ticks, Releases, Sends, Arrival, Tick, Release, after_sweep, step}
use Rattle.rules.specs.declared.Place.{Place}
use Rattle.rules.specs.declared.Table.{Table}
use Rattle.rules.specs.declared.Record.{Record}
use Rattle.rules.proofs.Answers.{clock-with, clock-accepted, release-with, release-accepted}
use Rattle.demands.specs.Machine.{ours, clocked_by, is_opening, All, InRange, SoundSummary}
use Rattle.demands.specs.Seen.{seen_by}
use Rattle.demands.specs.History.{Told, Deed, covers_of, cover_of, settled, going, did, did_all, deeds_of, counted, after}
use Rattle.demands.specs.Demand3.{Ruled, Fair, held}
use Rattle.demands.proofs.Parts.{checks_at}
use Rattle.demands.proofs.Refused.{refused-number}
use Rattle.demands.proofs.Counted.{clocked-counted}
use Rattle.demands.proofs.Sweeping.{sweep-places}
use Rattle.demands.proofs.Accepting.{clock-good, release-good}
use Rattle.demands.proofs.Kept.{Inv, counted-inv, effect, takes, received, arrival-good, made-back, due-open, of-open, told, inv-later, arrival-left}

-- P is left by an accepted segment
abbrev pub Took : (State → Told → Type 0) → Type 0
Took P =
    (st : State) (h : Told) (inv : Inv st h) → SoundSummary st → P st h → (x : Arrival) → accepted (checks_at st x) ≡ true
    → let d : Deed = takes st h inv x (effect st h inv x) in Ruled h d → All Fair (cover_of h d) → P (received st h inv x) (did h d)

-- .. and by a sweep
abbrev pub Swept : (State → Told → Type 0) → Type 0
Swept P =
    (st : State) (h : Told) → Inv st h → SoundSummary st → P st h → (test : Place → Bool) → ((p : Place) → test p ≡ true → is_open p ≡ true) → (cause clock time ticks : ℕ)
    → let losses : List Record = losses_by test cause st.table.places in
    let table : Table = record { places = map (freed_by test) st.table.places; registry = st.table.registry; timer = st.table.timer; clock = clock } in
    All Fair (covers_of h.uncovered losses)
    → P (state_of table (billed st.summary losses) st.store) (going h time ticks (settled h.uncovered losses) [] (covers_of h.uncovered losses))

module _ (P : State → Told → Type 0) (takes-by : Took P) (sweeps-by : Swept P) (counts : (st : State) (h : Told) → P st h → P st (counted h)) (st : State) (h : Told) (inv : Inv st h)
    (sums : SoundSummary st) (before : P st h) where
  abbrev Leaves : Call → Type 0
  Leaves c = P (step st c).state (after h (seen_by ours st c))

  now : Inv st (counted h)
  now = counted-inv st h inv

  idle : P st (counted h)
  idle = counts st h before

  fair : (test : Place → Bool) → ((p : Place) → test p ≡ true → is_open p ≡ true) → (cause : ℕ) → All Fair (covers_of h.uncovered (losses_by test cause st.table.places))
  unfolding held
  fair test opens cause = (sweep-places st.store test opens cause 0 st.table.places h.uncovered (λ k. []) inv.agrees.exact).fair

  ticks-by : (x : Tick) → Leaves (Ticks x)
  unfolding step after deeds_of sweep
  ticks-by x =
      clock-with st.table st.summary x.report x.time
      (λ (o : Counted Sweeping). P (after_sweep st.store o).state (did_all (counted h) (deeds_of (Ticks x) (after_sweep st.store o).answer)))
      (λ e.
      let c = clock-good st.table x.report x.time (clock-accepted st.table st.summary x.report x.time e).own in
      let due = due-open st (counted h) now x.time st.table.timer in
      rw (made-back st (counted h) now (is_due x.time st.table.timer) due 6 x.report x.time c.0 c.1 [])
      (sweeps-by st (counted h) now sums idle (is_due x.time st.table.timer) due 6 x.time _ _ (fair _ due 6)))
      (λ e. rw (ne_eqb _ 0 (refused-number st (Ticks x) e)) idle)

  releases-by : (x : Release) → Leaves (Releases x)
  unfolding step after deeds_of sweep
  releases-by x =
      release-with st.table st.summary x.report x.association
      (λ (o : Counted Sweeping). P (after_sweep st.store o).state (did_all (counted h) (deeds_of (Releases x) (after_sweep st.store o).answer)))
      (λ e.
      let c = release-good st.table x.report (release-accepted st.table st.summary x.report x.association e).own in
      let of = of-open st (counted h) now x.association in
      rw (made-back st (counted h) now (is_of x.association) of 7 x.report st.table.clock c.0 c.1 [])
      (sweeps-by st (counted h) now sums idle (is_of x.association) of 7 st.table.clock _ _ (fair _ of 7)))
      (λ e. rw (ne_eqb _ 0 (refused-number st (Releases x) e)) idle)

  -- an arrival: its time, and then its segment
  module _ (x : Arrival) (small : x.association < 2 ^ 16) where
    passed : P (clocked_by st x) (told st h inv x)
    unfolding sweep
    passed = let due = due-open st (counted h) now x.time st.table.timer in sweeps-by st (counted h) now sums idle (is_due x.time st.table.timer) due 6 x.time _ _ (fair _ due 6)

    arrives-by : Leaves (Arrives x)
    unfolding after
    arrives-by =
        arrival-left st h inv x small (λ (st : State) (ds : List Deed). P st (did_all (counted h) ds)) idle (λ e. passed)
        (λ e f.
        let then-inv = inv-later st h inv x in
        let g = arrival-good (clocked_by st x) (told st h inv x) then-inv x small f in
        takes-by (clocked_by st x) (told st h inv x) then-inv (clocked-counted st x sums) passed x f (record { read = g.0; ends = g.1.ends }) g.1.fair)

  pub call_by : (c : Call) → InRange c → is_opening c ≡ false → Leaves c
  unfolding step after deeds_of
  call_by (Opens x) r o = absurd (true≢false o)
  call_by (Arrives x) r o = arrives-by x r.1
  call_by (Ticks x) r o = ticks-by x
  call_by (Releases x) r o = releases-by x
  call_by (Sends x) r o = idle
