-- A sweep by which sequences it loses: the rules' sweep at the rules' test and cause.
use Rattle.std.specs.Prelude.{ℕ, Bool, List, map}
use Rattle.rules.specs.General.{those}
use Rattle.rules.specs.Sweep.{Sweeping, loss_of, is_due, is_of, sweep}
use Rattle.rules.specs.declared.Place.{Place}
use Rattle.rules.specs.declared.Record.{Record}
use Rattle.rules.specs.declared.Table.{Table}

-- which sequences a sweep loses: those too old at a time, or those of an association
pub data Test : Type 0 where
  Aged : ℕ → ℕ → Test
  Of : ℕ → Test

abbrev pub test_of : Test → Place → Bool
test_of (Aged time timer) = is_due time timer
test_of (Of association) = is_of association

abbrev pub cause_of : Test → ℕ
cause_of (Aged time timer) = 6
cause_of (Of association) = 7

-- the records that places give
unfoldable pub losses : Test → List Place → List Record
losses which ps = map (loss_of (cause_of which)) (those (test_of which) ps)

abbrev pub swept_by : Test → ℕ → Table → List ℕ → Sweeping
swept_by which time t report = sweep (test_of which) (cause_of which) time t report
