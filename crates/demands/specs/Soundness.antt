-- SOUNDNESS. A good opening gives a sound table, and every call hands a sound table back sound; any opening gives a sound summary, and every call hands a sound one back sound; so
-- after a good opening no call is refused by 1.
use Rattle.std.specs.Prelude.{◌≡◌, true, false}
use Rattle.rules.specs.Refusals.{accepted}
use Rattle.rules.specs.Soundness.{sound}
use Rattle.rules.specs.Calls.{State, Call}
use Rattle.demands.specs.Machine.{Machine, checks_of, is_opening, InRange, SoundSummary}
use Rattle.demands.specs.Seen.{Seen, seen_by}
use Rattle.demands.specs.History.{Told, Meets}

pub record LeavesSound (x : Seen) : Type 0 where
  pub opened : is_opening x.call ≡ true → accepted (checks_of x.before x.call) ≡ true → sound x.left.table ≡ true
  pub kept : is_opening x.call ≡ false → sound x.before.table ≡ true → sound x.left.table ≡ true
  pub emptied : is_opening x.call ≡ true → SoundSummary x.left
  pub counted : is_opening x.call ≡ false → InRange x.call → SoundSummary x.before → SoundSummary x.left

abbrev pub NotBy1 : Told → Seen → Type 0
NotBy1 h x = h.opened ≡ true → x.answer.refusal ≡ 1 → ⊥

pub record Sound (m : Machine) : Type 0 where
  pub every : (st : State) (c : Call) → LeavesSound (seen_by m st c)
  pub never1 : Meets NotBy1 m
