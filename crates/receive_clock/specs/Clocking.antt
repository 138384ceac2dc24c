-- A sweep with the summary.
use Rattle.std.specs.Prelude.{ℕ, ◌≡◌, Bool, List, ◌++◌, length, Result, Ok, Err}
use Rattle.refusals.specs.Numbers.{number_of}
use Rattle.refusals.specs.declared.Refusal.{Refusal}
use Rattle.rules.specs.Refusals.{judged}
use Rattle.rules.specs.Places.{first_from, is_at}
use Rattle.rules.specs.Soundness.{sound}
use Rattle.rules.specs.Sweep.{Sweeping, unswept, sweep_checks, step_checks}
use Rattle.rules.specs.Summary.{Counted, counting, total_checks, sweep_sums, sweep_with}
use Rattle.rules.specs.declared.Swept.{Swept}
use Rattle.rules.specs.declared.Table.{Table}
use Rattle.receive_sweep.specs.Sweeping.{Test, test_of, swept_by}

-- at a time: what the clock and the release have in common
unfoldable pub swept_at : Test → ℕ → Table → List ℕ → List ℕ → Counted Sweeping
swept_at which time t m report =
    sweep_with (sweep_checks (sound t) (length report) ++ step_checks time t.clock) t m report (swept_by which time t report)

-- where only its totals are left to judge
abbrev pub swept_with : Test → ℕ → Table → List ℕ → List ℕ → Counted Sweeping
swept_with which time t m report =
    judged (total_checks m (sweep_sums m (swept_by which time t report))) (λ n. counting m (unswept t report n))
    (counting (sweep_sums m (swept_by which time t report)) (swept_by which time t report))

-- the answer where nothing is lost
abbrev pub passed_at : ℕ → Table → Swept
passed_at time t =
    record {
      table = record { places = t.places; registry = t.registry; timer = t.timer; clock = time };
      refusal = 0;
      records = 0;
    }

-- its first part: it is refused and nothing is billed, or its losses are, and it is known whether there are any
abbrev pub Billed : Test → ℕ → Table → List ℕ → List ℕ → Result Bool Refusal → List ℕ → Type 0
Billed which time t m report (Ok due) m' =
    (due ≡ is_at (first_from (test_of which) t.places 0)) × (swept_at which time t m report ≡ counting m' (swept_by which time t report))
Billed which time t m report (Err r) m' =
    (m' ≡ m) × (swept_at which time t m report ≡ counting m (unswept t report (number_of r)))
