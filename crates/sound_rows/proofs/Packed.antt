-- The associations of used rows as a list: what it tells of the rows, and how it grows at the front of an array.
use Rattle.std.specs.Prelude.{if◌then◌else◌, Option, Some, None}
use Prim.Native.Nat.{ℕ, zero, suc, ◌<◌}
use mathlib.Core.Path.{◌≡◌, refl, sym, ap, ◌∙◌}
use mathlib.Core.Bool.{Bool, true, false, not, ◌&&◌, and-false, and-eq-true_iff}
use mathlib.Core.List.{List, [], ◌∷◌}
use native.Mathlib.Omega.{arith}
use borrow.Author.Tests.{leb-true}
use lib.Dec.{eqb}
use Rattle.rules.specs.General.{every, every_two}
use Rattle.rules.specs.Places.{is_at}
use Rattle.rules.specs.Summary.{every_below, every_pair, first_below, or_else, row_count, number_at, is_used, is_for, row_of, row_sound, rows_apart}
use Rattle.sound_rows.specs.Listing.{is_other, of_those, low_of, name_fits, listed_in, has_row}
use Rattle.rules.proofs.Below.{below_at}
use Rattle.sound_rows.proofs.Sound.{mark_sound, first_of, row_is}

below_all : (n : ℕ) → every_below n (λ i. true) ≡ true
below_all zero = refl
below_all (suc n) = below_all n

-- none passes where none is found
none_found : (test : ℕ → Bool) (n : ℕ) → every_below n (λ i. not (test i)) ≡ not (is_at (first_below n test))
none_found test zero = refl
none_found test (suc n) = rw (none_found test n) (go (first_below n test) (test n))
  where
    go : (r : Option ℕ) (b : Bool) → (not b && not (is_at r)) ≡ not (is_at (or_else r (if b then Some n else None)))
    go (Some i) b = and-false (not b)
    go None true = refl
    go None false = refl

module _ (chosen : ℕ → Bool) (value : ℕ → ℕ) where
  told-each : (x n : ℕ) → every (is_other x) (of_those chosen value n) ≡ every_below n (λ i. not (chosen i && eqb (value i) x))
  told-each x zero = refl
  told-each x (suc n) = go (chosen n) (told-each x n)
    where
      go : (b : Bool) → every (is_other x) (of_those chosen value n) ≡ every_below n (λ i. not (chosen i && eqb (value i) x))
          → every (is_other x) (if b then value n ∷ of_those chosen value n else of_those chosen value n)
          ≡ (not (b && eqb (value n) x) && every_below n (λ i. not (chosen i && eqb (value i) x)))
      go true more = rw more
      go false more = more

  abbrev apart : ℕ → ℕ → Bool
  apart i j = not (chosen j && (chosen i && eqb (value i) (value j)))

  -- no two chosen ones have the same
  told-all : (n : ℕ) → every_two is_other (of_those chosen value n) ≡ every_pair n apart
  told-all zero = refl
  told-all (suc n) = go (chosen n) (told-all n)
    where
      go : (b : Bool) → every_two is_other (of_those chosen value n) ≡ every_pair n apart
          → every_two is_other (if b then value n ∷ of_those chosen value n else of_those chosen value n)
          ≡ (every_below n (λ i. not (b && (chosen i && eqb (value i) (value n)))) && every_pair n apart)
      go true more = rw (told-each (value n) n, more)
      go false more = rw (below_all n) more

  -- another value that is the same for the chosen ones
  same-values : (other : ℕ → ℕ) (n : ℕ) → ((i : ℕ) → i < n → chosen i ≡ true → other i ≡ value i) → of_those chosen other n ≡ of_those chosen value n
  same-values other zero same = refl
  same-values other (suc n) same = go (chosen n) refl (same-values other n (λ i h. same i (omega arith)))
    where
      go : (b : Bool) → chosen n ≡ b → of_those chosen other n ≡ of_those chosen value n
          → (if b then other n ∷ of_those chosen other n else of_those chosen other n) ≡ (if b then value n ∷ of_those chosen value n else of_those chosen value n)
      go true e more = rw (same n (omega arith) e, more)
      go false e more = more

-- where all rows are sound their low halves are their associations, and tell what they would
module _ (m : List ℕ) (sound : every_below row_count (row_sound m) ≡ true) where
  used-named : (i : ℕ) → row_sound m i ≡ true → is_used m i ≡ true → low_of m i ≡ number_at m 1 i
  used-named i e u =
      let named : (mark_sound m i && name_fits m i) ≡ true = first_of _ _ (sym (row_is m i) ∙ e) in
      omega (arith, leb-true (number_at m 1 i) 65535 ((and-eq-true_iff (mark_sound m i) (name_fits m i)).0 named).1)

  low-all : of_those (is_used m) (low_of m) row_count ≡ of_those (is_used m) (number_at m 1) row_count
  low-all = same-values (is_used m) (number_at m 1) (low_of m) row_count (λ i h u. used-named i (below_at (row_sound m) row_count sound i h) u)

  pub low-apart : every_two is_other (of_those (is_used m) (low_of m) row_count) ≡ every_pair row_count (rows_apart m)
  low-apart = ap (every_two is_other) low-all ∙ told-all (is_used m) (number_at m 1) row_count

  -- one that is listed has a row
  low-row : (a : ℕ) → every (is_other a) (of_those (is_used m) (low_of m) row_count) ≡ not (is_at (row_of m a))
  low-row a = ap (every (is_other a)) low-all ∙ told-each (is_used m) (number_at m 1) a row_count ∙ none_found (is_for m a) row_count

  pub low-listed : (names : List ℕ) → every (listed_in (of_those (is_used m) (low_of m) row_count)) names ≡ every (has_row m) names
  low-listed [] = refl
  low-listed (a ∷ names) = rw (low-row a, low-listed names) (go (is_at (row_of m a)))
    where
      go : (b : Bool) → (not (not b) && every (has_row m) names) ≡ (b && every (has_row m) names)
      go true = refl
      go false = refl
