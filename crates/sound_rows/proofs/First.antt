-- Rows that are used from the first on, and then none.
use Prim.Native.Nat.{ℕ, zero, suc, ◌+◌, ◌-◌, ◌≤◌}
use mathlib.Core.Path.{◌≡◌, refl, sym, ap, ◌∙◌}
use mathlib.Core.Bool.{Bool, true, false, ◌&&◌, and-eq-true_iff}
use mathlib.Core.List.{List}
use native.Mathlib.Omega.{arith}
use borrow.Author.Tests.{eqb-true, eqb-false, ne_eqb}
use lib.Bits.{bit_or}
use lib.Dec.{eqb}
use lib.ListN.{length}
use Rattle.rules.specs.Summary.{every_below, row_count, number_at, is_used, is_unused, is_bare, row_sound}
use Rattle.rules.proofs.Below.{below-same, below_at}
use Rattle.rules.proofs.Rows.{row_count_lem}
use Rattle.sound_rows.specs.Listing.{of_those, low_of, name_fits, EmptyFrom}
use Rattle.rules.proofs.Nought.{or-nought}

module _ (m : List ℕ) where
  -- one row more
  pub empty-more : (at i rest x : ℕ) → (eqb rest 0 ≡ true → EmptyFrom m at i) → eqb x 0 ≡ is_bare m i
      → eqb (bit_or rest (bit_or (number_at m 0 i) x)) 0 ≡ true → EmptyFrom m at (i + 1)
  empty-more at i rest x so_far bare e row h k = go (eqb row i) refl
    where
      both : (eqb rest 0 ≡ true) × (eqb (bit_or (number_at m 0 i) x) 0 ≡ true)
      both = (and-eq-true_iff _ _).0 (sym (or-nought rest (bit_or (number_at m 0 i) x)) ∙ e)

      here : (is_unused m i && is_bare m i) ≡ true
      here = rw (← bare) (sym (or-nought (number_at m 0 i) x) ∙ both.1)

      go : (b : Bool) → eqb row i ≡ b → (is_unused m row && is_bare m row) ≡ true
      go true s = rw (eqb-true row i s) here
      go false s = so_far both.0 row h (omega (arith, k, eqb-false row i s))

  used-row : (i : ℕ) → is_used m i ≡ true → row_sound m i ≡ name_fits m i
  used-row i e = rw (e, ne_eqb (number_at m 0 i) 0 (λ z. omega (arith, eqb-true (number_at m 0 i) 1 e)))

  not-used : (i : ℕ) → (is_unused m i && is_bare m i) ≡ true → is_used m i ≡ false
  not-used i e =
      let zero-mark = eqb-true (number_at m 0 i) 0 ((and-eq-true_iff (is_unused m i) (is_bare m i)).0 e).0 in
      ne_eqb (number_at m 0 i) 1 (λ z. omega (arith, zero-mark))

  module _ (k : ℕ) (used : every_below k (is_used m) ≡ true) where
    sound-to : (j n : ℕ) → n ≡ j + k → EmptyFrom m k n → every_below n (row_sound m) ≡ every_below k (name_fits m)
    sound-to zero n e none =
        let same : n ≡ k = omega (arith, e) in
        rw same (below-same (row_sound m) (name_fits m) k (λ i h. used-row i (below_at (is_used m) k used i h)))
    sound-to (suc j) zero e none = absurd (omega (arith, e))
    sound-to (suc j) (suc n) e none = rw (none n (omega (arith, e)) (omega arith)) (sound-to j n (omega (arith, e)) (λ i h l. none i h (omega (arith, l))))

    count-to : (j n : ℕ) → n ≡ j + k → EmptyFrom m k n → length (of_those (is_used m) (low_of m) n) ≡ length (of_those (is_used m) (low_of m) k)
    count-to zero n e none = let same : n ≡ k = omega (arith, e) in rw same
    count-to (suc j) zero e none = absurd (omega (arith, e))
    count-to (suc j) (suc n) e none =
        rw (not-used n (none n (omega (arith, e)) (omega arith))) (count-to j n (omega (arith, e)) (λ i h l. none i h (omega (arith, l))))

  count-all : (k : ℕ) → every_below k (is_used m) ≡ true → length (of_those (is_used m) (low_of m) k) ≡ k
  count-all zero used = refl
  count-all (suc k) used =
      let both = (and-eq-true_iff (is_used m k) (every_below k (is_used m))).0 used in
      rw both.0 (ap suc (count-all k both.1))

  module _ (k : ℕ) (h : k ≤ 64) (used : every_below k (is_used m) ≡ true) (none : EmptyFrom m k 64) where
    pub rows-first : every_below row_count (row_sound m) ≡ every_below k (name_fits m)
    rows-first = rw row_count_lem (sound-to k used (64 - k) 64 (omega arith) none)

    pub used-first : k ≡ length (of_those (is_used m) (low_of m) row_count)
    used-first = rw row_count_lem (sym (count-to k used (64 - k) 64 (omega arith) none ∙ count-all k used))
