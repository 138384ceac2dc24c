-- The clock and the release by the number that `judge` answers: both judge 1 and 3 first, and the totals last.
use Rattle.std.specs.Prelude.{if◌then◌else◌}
use Prim.Native.Nat.{ℕ, ◌-◌, ◌<◌, ◌≤◌, ◌^◌}
use Rattle.std.proofs.lemmas.Bool.{lt-ltb, le-ltb}
use borrow.Author.Tests.{eq-eqb, ne_eqb}
use native.Mathlib.Omega.{arith}
use mathlib.Core.Path.{◌≡◌, refl, ◌∙◌}
use mathlib.Core.Bool.{Bool, true, false, not, ◌&&◌}
use mathlib.Core.List.{List, [], ◌∷◌, ◌++◌}
use lib.Dec.{eqb, ltb}
use lib.ListN.{length}
use Rattle.rules.specs.Numbers.{elapsed}
use Rattle.rules.specs.Refusals.{Check, ◌when◌, first, judged}
use Rattle.rules.specs.Soundness.{sound}
use Rattle.rules.specs.Sweep.{Sweeping, unswept, report_least, step_checks, clock_checks, release_checks}
use Rattle.rules.specs.Summary.{Counted, counting, summary_sound, summary_checks, total_checks, sweep_sums, clock_with, release_with}
use Rattle.rules.proofs.Refusals.{judged-append}
use Rattle.rules.specs.declared.Table.{Table}
use Rattle.receive_sweep.specs.Sweeping.{Test, Aged, Of, swept_by}
use Rattle.receive_clock.specs.Clocking.{swept_at, swept_with}

module _ (t : Table) (m report : List ℕ) {is_sound summed : Bool} (g : is_sound ≡ sound t) (h : summed ≡ summary_sound m t.places) {n : ℕ}
    (e : n ≡ first (1 when not (is_sound && summed) ∷ 3 when ltb (length report) report_least ∷ [])) where
  abbrev refused : ℕ → Counted Sweeping
  refused n = counting m (unswept t report n)

  -- the summary and the table have one number: two checks are one of both
  judged-by : (s : Counted Sweeping) → judged (summary_checks m t.places) refused (judged (release_checks t report) refused s) ≡ (if eqb n 0 then s else refused n)
  unfolding release_checks
  judged-by s = rw (e, g, h) (go (sound t) (summary_sound m t.places) (ltb (length report) report_least))
    where
      go : (a b d : Bool) → judged (1 when not b ∷ []) refused (judged (1 when not a ∷ 3 when d ∷ []) refused s)
          ≡ (if eqb (first (1 when not (a && b) ∷ 3 when d ∷ [])) 0 then s else refused (first (1 when not (a && b) ∷ 3 when d ∷ [])))
      go true true true = refl
      go true true false = refl
      go true false d = refl
      go false true d = refl
      go false false d = refl

  -- a list of the call's own, after that
  then_by : (own : List Check) (o : Sweeping) (s : Counted Sweeping)
      → judged (summary_checks m t.places ++ ((release_checks t report ++ own) ++ total_checks m (sweep_sums m o))) refused s
      ≡ (if eqb n 0 then judged own refused (judged (total_checks m (sweep_sums m o)) refused s) else refused n)
  then_by own o s =
      judged-append (summary_checks m t.places) ((release_checks t report ++ own) ++ total_checks m (sweep_sums m o)) refused s
      ∙ rw (judged-append (release_checks t report ++ own) (total_checks m (sweep_sums m o)) refused s, judged-append (release_checks t report) own refused (judged (total_checks m (sweep_sums m o)) refused s))
      (judged-by (judged own refused (judged (total_checks m (sweep_sums m o)) refused s)))

  -- its step is judged before its totals
  pub swept-at : (which : Test) (time : ℕ) → swept_at which time t m report
      ≡ (if eqb n 0 then judged (step_checks time t.clock) refused (swept_with which time t m report) else refused n)
  unfolding swept_at release_checks
  swept-at which time = then_by (step_checks time t.clock) (swept_by which time t report) _

  pub misjudged : (n ≡ 0 → ⊥) → (which : Test) (time : ℕ) → swept_at which time t m report ≡ refused n
  misjudged some which time = swept-at which time ∙ simp (ne_eqb n 0 some)

  pub stepped-back : n ≡ 0 → (which : Test) (time : ℕ) → 2 ^ 31 ≤ elapsed time t.clock → swept_at which time t m report ≡ refused 13
  stepped-back z which time over = swept-at which time ∙ simp (eq-eqb n 0 z, lt-ltb (2 ^ 31 - 1) (elapsed time t.clock) (omega arith))

  pub goes-on : n ≡ 0 → (which : Test) (time : ℕ) → elapsed time t.clock < 2 ^ 31 → swept_at which time t m report ≡ swept_with which time t m report
  goes-on z which time under = swept-at which time ∙ simp (eq-eqb n 0 z, le-ltb (2 ^ 31 - 1) (elapsed time t.clock) (omega arith))

-- the clock is a sweep of what is too old; the release one of an association, at the table's own time
pub clock-is : (t : Table) (m report : List ℕ) (time : ℕ) → clock_with t m report time ≡ swept_at (Aged time t.timer) time t m report
unfolding clock_with clock_checks swept_at
clock-is t m report time = refl

no-step : (time : ℕ) → elapsed time time ≡ 0
unfolding elapsed
no-step time = omega arith

pub release-is : (t : Table) (m report : List ℕ) (association : ℕ) → release_with t m report association ≡ swept_at (Of association) t.clock t m report
unfolding release_with release_checks swept_at
release-is t m report association = rw (no-step t.clock)
