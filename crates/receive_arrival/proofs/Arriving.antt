-- An arrival by the number that `judge` answers, and by what the clock's work and the segment's rule do.
use Prim.Native.Nat.{ℕ, ◌-◌, ◌*◌, ◌≤◌, ◌^◌}
use mathlib.Core.Path.{◌≡◌, refl, sym, ap, ◌∙◌}
use mathlib.Core.Bool.{Bool, true, false, not, ◌&&◌, and-eq-true_iff}
use mathlib.Core.List.{List, [], ◌∷◌, ◌++◌}
use native.Mathlib.Omega.{arith}
use borrow.Author.Tests.{ltb-false, le-ltb, not-true, not-false}
use lib.Dec.{ltb}
use lib.ListN.{length, take}
use Rattle.rules.specs.General.{those}
use Rattle.rules.specs.Numbers.{store_least, place_count, elapsed}
use Rattle.rules.specs.Refusals.{Check, ◌when◌, accepted, first, fault, unplaced}
use Rattle.rules.specs.Records.{record_length}
use Rattle.rules.specs.Soundness.{sound}
use Rattle.rules.specs.Receiving.{Reception, unreceived}
use Rattle.rules.specs.Sweep.{Sweeping, is_due}
use Rattle.rules.specs.Summary.{Counted, counting, summary_sound, fits, total_checks, segment_with}
use Rattle.rules.specs.Arrival.{arrival_least, clock_work, table_after, behind, whole_checks, both_with, arrival}
use Rattle.rules.specs.Promises.{OfArrival}
use Rattle.rules.specs.declared.Fault.{Fault}
use Rattle.rules.specs.declared.Received.{Received}
use Rattle.rules.specs.declared.Table.{Table}
use Rattle.rules.proofs.Refusals.{first-accepted, accepted-one}
use Rattle.rules.proofs.Fitting.{fits-same}
use Rattle.rules.proofs.Answers.{segment-with, segment-by}
use Rattle.rules.proofs.Few.{segment-one}
use Rattle.rules.proofs.Arrival.{clock-is, sound-after, two-calls, undone-both, at_time, quiet, quiet-work, quiet-both}
use Rattle.receive_segment.specs.Arrival.{OfSegment}
use Rattle.receive_arrival.specs.Arriving.{area_checks, Allowed, beside_of}

-- the segment's rule makes one record at most, tells of no timeouts, and where it refuses leaves what there was
pub one-record : {t : Table} {m store report : List ℕ} {association : ℕ} {s : List ℕ} {r : Received} {m' store' report' : List ℕ} → OfSegment t m store report association s r m' store' report'
    → r.records ≤ 1
one-record {t} {m} {store} {report} {association} {s} o = rw o.answered (segment-one t m store report association s)

module _ (t : Table) (m store report : List ℕ) (association : ℕ) (s : List ℕ) where
  no-timeouts : (segment_with t m store report association s).call.answer.timeouts ≡ 0
  no-timeouts = segment-by t m store report association s (λ (o : Reception). o.answer.timeouts ≡ 0) (λ e. refl) (λ e. refl)

  abbrev Kept : List ℕ → List ℕ → List ℕ → Type 0
  Kept m' store' report' = (m' ≡ m) × (store' ≡ store) × (report' ≡ report)

  refused-keeps : {r : Received} {m' store' report' : List ℕ} → OfSegment t m store report association s r m' store' report' → r.refusal ≡ 22 → Kept m' store' report'
  refused-keeps o is22 =
      let kept = segment-with t m store report association s (λ (x : Counted Reception). x.call.answer.refusal ≡ 22 → Kept x.summary x.call.store x.call.report)
      (λ e h. absurd (omega (arith, h))) (λ e h. (refl, refl, refl)) (sym (ap (λ (x : Received). x.refusal) o.answered) ∙ is22) in
      (o.summed ∙ kept.0, o.stored ∙ kept.1, o.reported ∙ kept.2)

-- an outcome that is told of an arrival
module _ (t : Table) (m store report : List ℕ) (time association : ℕ) (s : List ℕ) where
  abbrev whole : Counted Reception
  whole = arrival t m store report time association s

  abbrev undone : ℕ → Counted Reception
  undone n = counting m (unreceived t store report (unplaced n))

  pub arrives : {o : Counted Reception} {r : Received} {m' store' report' : List ℕ} → whole ≡ o → r ≡ o.call.answer → m' ≡ o.summary → store' ≡ o.call.store
      → report' ≡ o.call.report → OfArrival t m store report time association s r m' store' report'
  arrives e a b c d =
      record {
        answered = a ∙ ap (λ (x : Counted Reception). x.call.answer) (sym e);
        summed = b ∙ ap (λ (x : Counted Reception). x.summary) (sym e);
        stored = c ∙ ap (λ (x : Counted Reception). x.call.store) (sym e);
        reported = d ∙ ap (λ (x : Counted Reception). x.call.report) (sym e);
      }

  -- THE FIRST LIST, by its number. The summary and the table have one: two checks are one of both
  abbrev areas : Bool → Bool → Bool → Bool → Bool → List Check
  areas a b c d f = 1 when not (a && b) ∷ 2 when c ∷ 3 when d ∷ 13 when f ∷ []

  one-of-both : (a b c d f : Bool) (more : List Check) → (first (areas a b c d f) ≡ 0 → ⊥)
      → let cs : List Check = 1 when not b ∷ 1 when not a ∷ 2 when c ∷ 3 when d ∷ 13 when f ∷ more in (accepted cs ≡ false) × (fault cs ≡ unplaced (first (areas a b c d f)))
  one-of-both true true true d f more some = (refl, refl)
  one-of-both true true false true f more some = (refl, refl)
  one-of-both true true false false true more some = (refl, refl)
  one-of-both true true false false false more some = absurd (some refl)
  one-of-both true false c d f more some = (refl, refl)
  one-of-both false true c d f more some = (refl, refl)
  one-of-both false false c d f more some = (refl, refl)

  module _ {is_sound summed : Bool} (g : is_sound ≡ sound t) (h : summed ≡ summary_sound m t.places) {step n : ℕ} (p : step ≡ elapsed time t.clock)
      (e : n ≡ first (area_checks (is_sound && summed) (length store) (length report) step)) where
    abbrev area : List Check
    area = areas (sound t) (summary_sound m t.places) (ltb (length store) store_least) (ltb (length report) arrival_least) (ltb (2 ^ 31 - 1) (elapsed time t.clock))

    number_is : n ≡ first area
    number_is = e ∙ rw (g, h, p)

    pub refused-whole : (n ≡ 0 → ⊥) → whole ≡ undone n
    unfolding arrival whole_checks
    refused-whole some =
        let r = one-of-both (sound t) (summary_sound m t.places) (ltb (length store) store_least) (ltb (length report) arrival_least) (ltb (2 ^ 31 - 1) (elapsed time t.clock))
        (total_checks m (clock_work t m report time).summary) (λ z. some (number_is ∙ z)) in
        rw r.0 (ap (λ (x : Fault). counting m (unreceived t store report x)) (r.1 ∙ ap unplaced (sym number_is)))

    pub allowed : n ≡ 0 → Allowed t m store report time
    allowed z =
        let passed = first-accepted area (λ z. omega arith, (λ z. omega arith, (λ z. omega arith, (λ z. omega arith, tt)))) (sym number_is ∙ z) in
        let all = simp and-eq-true_iff at passed in
        let both = simp and-eq-true_iff at (not-false (sound t && summary_sound m t.places) (not-true _ all.0)) in
        record { table = both.0; summary = both.1; stores = ltb-false _ _ (not-true _ all.1.0); reports = ltb-false _ _ (not-true _ all.1.1.0); steps = rw (not-true (ltb (2 ^ 31 - 1) (elapsed time t.clock)) all.1.1.1.0) }

  -- WHERE NONE OF IT APPLIES
  module _ (ok : Allowed t m store report time) where
    abbrev w : Counted Sweeping
    w = clock_work t m report time

    within : ltb (2 ^ 31 - 1) (elapsed time t.clock) ≡ false
    within = accepted-one (13 when ltb (2 ^ 31 - 1) (elapsed time t.clock)) ok.steps

    -- the clock's work has room for its totals, or not
    pub unfit : fits m w.summary ≡ false → whole ≡ undone 22
    unfolding arrival whole_checks
    unfit e = rw (ok.summary, ok.table, le-ltb (length store) store_least ok.stores, le-ltb (length report) arrival_least ok.reports, within, e)

    pub fit : fits m w.summary ≡ true → accepted (whole_checks t m store report time) ≡ true
    unfolding whole_checks
    fit e = rw (ok.summary, ok.table, le-ltb (length store) store_least ok.stores, le-ltb (length report) arrival_least ok.reports, within, e)

    -- nothing is due: the segment's rule at the new time, unless that is a 22
    module _ (none : those (is_due time t.timer) t.places ≡ []) where
      abbrev at : Counted Sweeping → Counted Reception
      at v = segment_with (table_after v) v.summary store (behind v) association s

      still : w ≡ quiet t m report time
      still = quiet-work t m report time none

      quiet-fit : accepted (whole_checks t m store report time) ≡ true
      quiet-fit = fit (ap (λ (v : Counted Sweeping). fits m v.summary) still ∙ fits-same m)

      pub sound-still : sound (at_time time t) ≡ true
      sound-still = sym (ap (λ (v : Counted Sweeping). sound (table_after v)) still) ∙ sound-after t m store report time association s quiet-fit

      module _ (count : length t.places ≡ place_count) {r : Received} {m' store' report' : List ℕ} (o : OfSegment (at_time time t) m store report association s r m' store' report') where
        number_at : (at w).call.answer.refusal ≡ r.refusal
        number_at = ap (λ (v : Counted Sweeping). (at v).call.answer.refusal) still ∙ sym (ap (λ (x : Received). x.refusal) o.answered)

        pub passes : (r.refusal ≡ 22 → ⊥) → OfArrival t m store report time association s r m' store' report'
        passes not22 =
            arrives
            (two-calls t m store report time association s quiet-fit count (λ z. not22 (sym number_at ∙ z))
            ∙ ap (λ (v : Counted Sweeping). both_with v (at w)) (clock-is t m store report time association s quiet-fit)
            ∙ ap (λ (v : Counted Sweeping). both_with v (at v)) still
            ∙ quiet-both t m report time (at (quiet t m report time)) (no-timeouts (at_time time t) m store report association s))
            o.answered o.summed o.stored o.reported

        pub passes-22 : r.refusal ≡ 22 → {a : Received} → a ≡ (undone r.refusal).call.answer → OfArrival t m store report time association s a m' store' report'
        passes-22 is22 e =
            let kept = refused-keeps (at_time time t) m store report association s o is22 in
            arrives (undone-both t m store report time association s quiet-fit count (number_at ∙ is22)) (e ∙ ap (λ (n : ℕ). (undone n).call.answer) is22) kept.0 kept.1 kept.2

    -- something is: the segment's rule behind the clock's work, unless that is a 22
    module _ (room : fits m w.summary ≡ true) (count : length t.places ≡ place_count) {r : Received} {m' store' after : List ℕ}
        (o : OfSegment (table_after w) w.summary store (behind w) association s r m' store' after) where
      number-after : (segment_with (table_after w) w.summary store (behind w) association s).call.answer.refusal ≡ r.refusal
      number-after = sym (ap (λ (x : Received). x.refusal) o.answered)

      pub loses : (r.refusal ≡ 22 → ⊥) → {a : Received} → a ≡ beside_of r w.call.answer.records
          → OfArrival t m store report time association s a m' store' (take (w.call.answer.records * record_length) w.call.report ++ after)
      loses not22 e =
          let n = w.call.answer.records in
          arrives
          (two-calls t m store report time association s (fit room) count (λ z. not22 (sym number-after ∙ z))
          ∙ ap (λ (v : Counted Sweeping). both_with v (segment_with (table_after w) w.summary store (behind w) association s)) (clock-is t m store report time association s (fit room)))
          (e ∙ ap (λ (x : Received). beside_of x n) o.answered) o.summed o.stored (ap (λ (l : List ℕ). take (n * record_length) w.call.report ++ l) o.reported)

      pub loses-22 : r.refusal ≡ 22 → {a : Received} → a ≡ (undone r.refusal).call.answer → {report' : List ℕ} → (after ≡ behind w → report' ≡ report) → OfArrival t m store report time association s a m store' report'
      loses-22 is22 e back =
          let kept = refused-keeps (table_after w) w.summary store (behind w) association s o is22 in
          arrives (undone-both t m store report time association s (fit room) count (number-after ∙ is22)) (e ∙ ap (λ (n : ℕ). (undone n).call.answer) is22) refl kept.1 (back kept.2)
