-- The age of a time is the one number of ticks that leads from it to now on a clock that runs round.
use Prim.Native.Nat.{ℕ, ◌+◌, ◌%◌, ◌^◌, ◌<◌}
use mathlib.Core.Path.{◌≡◌}
use native.Mathlib.Omega.{arith}
use Rattle.rules.specs.Numbers.{elapsed}

pub elapsed-leads : (new old : ℕ) → new < 2 ^ 32 → old < 2 ^ 32 → (elapsed new old + old) % 2 ^ 32 ≡ new
unfolding elapsed
elapsed-leads new old a b = omega arith

pub elapsed-bound : (new old : ℕ) → elapsed new old < 2 ^ 32
unfolding elapsed
elapsed-bound new old = omega arith

pub elapsed-is : (new old ticks : ℕ) → new < 2 ^ 32 → old < 2 ^ 32 → ticks < 2 ^ 32 → (ticks + old) % 2 ^ 32 ≡ new → ticks ≡ elapsed new old
unfolding elapsed
elapsed-is new old ticks a b c e = omega arith
