-- Rows by their number: there are 64, and what is found is one of them.
use Rattle.std.specs.Prelude.{Option, Some, None}
use Prim.Native.Nat.{ℕ, ◌<◌}
use mathlib.Core.Path.{◌≡◌, refl, ◌∙◌}
use mathlib.Core.List.{List}
use native.Mathlib.Omega.{arith}
use Rattle.rules.specs.Summary.{row_count, total_count, is_for, is_unused, row_of, unused_row, row_for, or_else}
use Rattle.rules.proofs.Below.{first_passes}

pub row_count_lem : row_count ≡ 64
unfolding row_count
row_count_lem = refl

pub total-count : total_count ≡ 384
unfolding total_count
total-count = refl

-- the row that is found is one of the 64
pub row-of-within : (m : List ℕ) (a i : ℕ) → row_of m a ≡ Some i → i < 64
row-of-within m a i e = omega (arith, row_count_lem, (first_passes (is_for m a) row_count i e).0)

pub unused-within : (m : List ℕ) (i : ℕ) → unused_row m ≡ Some i → i < 64
unused-within m i e = omega (arith, row_count_lem, (first_passes (is_unused m) row_count i e).0)

pub row-for-within : (m : List ℕ) (a i : ℕ) → row_for m a ≡ Some i → i < 64
row-for-within m a i e = go (row_of m a) refl e
  where
    go : (r : Option ℕ) → row_of m a ≡ r → or_else r (unused_row m) ≡ Some i → i < 64
    go (Some k) f h = row-of-within m a i (f ∙ h)
    go None f h = unused-within m i h
