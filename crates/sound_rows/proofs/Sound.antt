-- When all rows are sound, as the code asks it.
use Prim.Native.Nat.{ℕ}
use Rattle.std.specs.Prelude.{Some}
use Rattle.std.specs.Bool.{then_some}
use mathlib.Core.Path.{◌≡◌, refl, sym, ap, ◌∙◌}
use mathlib.Core.Bool.{Bool, true, false, not, ◌&&◌, ◌||◌, and-false, and-true, and-eq-true_iff, true≢false}
use mathlib.Core.List.{List}
use native.Mathlib.Omega.{arith}
use borrow.Author.Tests.{eqb-true, eqb-false, le-leb, lt-leb}
use lib.Dec.{eqb, leb}
use Rattle.rules.specs.Places.{is_at}
use Rattle.rules.specs.Summary.{every_below, number_at, is_unused, is_bare, row_sound}
use Rattle.rules.proofs.Below.{below_both}
use Rattle.sound_rows.specs.Listing.{name_fits}

row-pick : (m a : ℕ) (bare : Bool) → (bare ≡ true → a ≡ 0)
    → (eqb m 0 && bare || eqb m 1 && leb a 65535) ≡ ((leb m 1 && leb a 65535) && (not (eqb m 0) || bare))
row-pick m a bare g = go (eqb m 0) refl (eqb m 1) refl bare g
  where
    go : (z : Bool) → eqb m 0 ≡ z → (o : Bool) → eqb m 1 ≡ o → (bare : Bool) → (bare ≡ true → a ≡ 0)
        → (z && bare || o && leb a 65535) ≡ ((leb m 1 && leb a 65535) && (not z || bare))
    go true e true f bare g = absurd (omega (arith, eqb-true m 0 e, eqb-true m 1 f))
    go true e false f true g = rw (le-leb m 1 (omega (arith, eqb-true m 0 e)), le-leb a 65535 (omega (arith, g refl)))
    go true e false f false g = sym (and-false (leb m 1 && leb a 65535))
    go false e true f bare g = rw (le-leb m 1 (omega (arith, eqb-true m 1 f))) (sym (and-true (leb a 65535)))
    go false e false f bare g = rw (lt-leb m 1 (omega (arith, eqb-false m 0 e, eqb-false m 1 f)))

pub first_of : (a b : Bool) → (a && b) ≡ true → a ≡ true
first_of a b e = ((and-eq-true_iff a b).0 e).0

-- a number that is told where something holds
pub is_at-then : (b : Bool) (k : ℕ) → is_at (then_some b k) ≡ b
is_at-then true k = refl
is_at-then false k = refl

pub of_then : (b : Bool) (k n : ℕ) → then_some b k ≡ Some n → (b ≡ true) × (k ≡ n)
of_then true k n e = (refl, cc)
of_then false k n e = absurd (true≢false (ap is_at (sym e)))

module _ (m : List ℕ) where
  abbrev pub mark_sound : ℕ → Bool
  mark_sound i = leb (number_at m 0 i) 1

  abbrev pub rest_sound : ℕ → Bool
  rest_sound i = not (is_unused m i) || is_bare m i

  bare-name : (i : ℕ) → is_bare m i ≡ true → number_at m 1 i ≡ 0
  bare-name i e = eqb-true _ 0 (first_of _ _ (first_of _ _ (first_of _ _ (first_of _ _ (first_of _ _ (first_of _ _ e))))))

  pub row_is : (i : ℕ) → row_sound m i ≡ ((mark_sound i && name_fits m i) && rest_sound i)
  row_is i = row-pick (number_at m 0 i) (number_at m 1 i) (is_bare m i) (bare-name i)

  pub rows_are : (n : ℕ) → every_below n (row_sound m) ≡ ((every_below n mark_sound && every_below n (name_fits m)) && every_below n rest_sound)
  rows_are n =
      below_both (λ i. mark_sound i && name_fits m i) rest_sound (row_sound m) row_is n
      ∙ rw (below_both mark_sound (name_fits m) (λ i. mark_sound i && name_fits m i) (λ i. refl) n)
