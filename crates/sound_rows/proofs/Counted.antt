-- How many rows are used: the sum of marks that are sound, and what is known of the rest once some were met.
use Rattle.std.specs.Prelude.{if◌then◌else◌}
use Prim.Native.Nat.{ℕ, zero, suc, ◌+◌, ◌≤◌, ◌%◌}
use mathlib.Core.Path.{◌≡◌, refl, ap}
use mathlib.Core.Bool.{Bool, true, false, and-eq-true_iff}
use mathlib.Core.List.{List, ◌∷◌}
use native.Mathlib.Omega.{arith}
use native.Mathlib.Numerals.{add-one}
use borrow.Author.Tests.{eqb-true, eqb-false, leb-true}
use lib.ListN.{length}
use Rattle.rules.specs.Summary.{every_below, number_at, is_used}
use Rattle.sound_rows.specs.Listing.{of_those}
use Rattle.sound_rows.proofs.Sound.{mark_sound}

-- a mark that is sound is what it adds
pub count-more : (m : List ℕ) (value : ℕ → ℕ) (i used : ℕ) → (every_below i (mark_sound m) ≡ true → used ≡ length (of_those (is_used m) value i))
    → every_below (i + 1) (mark_sound m) ≡ true → used + number_at m 0 i % 2 ≡ length (of_those (is_used m) value (i + 1))
count-more m value i used so_far e = rw (add-one i) (go (is_used m i) refl (so_far both.1))
  where
    both : (mark_sound m i ≡ true) × (every_below i (mark_sound m) ≡ true)
    both = (and-eq-true_iff (mark_sound m i) (every_below i (mark_sound m))).0 (rw (add-one i) at e)

    go : (b : Bool) → is_used m i ≡ b → used ≡ length (of_those (is_used m) value i)
        → used + number_at m 0 i % 2 ≡ length (if b then value i ∷ of_those (is_used m) value i else of_those (is_used m) value i)
    go true f more = omega (arith, more, eqb-true (number_at m 0 i) 1 f)
    go false f more = omega (arith, more, eqb-false (number_at m 0 i) 1 f, leb-true (number_at m 0 i) 1 both.0)

module _ (chosen : ℕ → Bool) (value : ℕ → ℕ) where
  -- from i to n there are none less and at most n - i more
  pub no-fewer : (k i n : ℕ) → n ≡ k + i → length (of_those chosen value i) ≤ length (of_those chosen value n)
  no-fewer zero i n e = let same : n ≡ i = omega (arith, e) in rw same (omega arith)
  no-fewer (suc k) i zero e = absurd (omega (arith, e))
  no-fewer (suc k) i (suc n) e = go (chosen n) (no-fewer k i n (omega (arith, e)))
    where
      go : (b : Bool) → length (of_those chosen value i) ≤ length (of_those chosen value n)
          → length (of_those chosen value i) ≤ length (if b then value n ∷ of_those chosen value n else of_those chosen value n)
      go true more = omega (arith, more)
      go false more = more

  pub no_more : (k i n : ℕ) → n ≡ k + i → length (of_those chosen value n) + i ≤ length (of_those chosen value i) + n
  no_more zero i n e = let same : n ≡ i = omega (arith, e) in rw same (omega arith)
  no_more (suc k) i zero e = absurd (omega (arith, e))
  no_more (suc k) i (suc n) e = go (chosen n) (no_more k i n (omega (arith, e)))
    where
      go : (b : Bool) → length (of_those chosen value n) + i ≤ length (of_those chosen value i) + n
          → length (if b then value n ∷ of_those chosen value n else of_those chosen value n) + i ≤ length (of_those chosen value i) + suc n
      go true more = omega (arith, more)
      go false more = omega (arith, more)

  -- once all were met no more come
  pub all-met : (k i n : ℕ) → n ≡ k + i → length (of_those chosen value n) ≤ length (of_those chosen value i) → of_those chosen value n ≡ of_those chosen value i
  all-met zero i n e h = let same : n ≡ i = omega (arith, e) in ap (of_those chosen value) same
  all-met (suc k) i zero e h = absurd (omega (arith, e))
  all-met (suc k) i (suc n) e h = go (chosen n) (no-fewer k i n (omega (arith, e))) (all-met k i n (omega (arith, e))) h
    where
      go : (b : Bool) → length (of_those chosen value i) ≤ length (of_those chosen value n)
          → (length (of_those chosen value n) ≤ length (of_those chosen value i) → of_those chosen value n ≡ of_those chosen value i)
          → length (if b then value n ∷ of_those chosen value n else of_those chosen value n) ≤ length (of_those chosen value i)
          → (if b then value n ∷ of_those chosen value n else of_those chosen value n) ≡ of_those chosen value i
      go true f more h = absurd (omega (arith, f, h))
      go false f more h = more h
