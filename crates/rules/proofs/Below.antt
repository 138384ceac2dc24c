-- Laws on tests over the numbers below a bound.
use Rattle.std.specs.Prelude.{if◌then◌else◌, Option, Some, None}
use Prim.Native.Nat.{ℕ, zero, suc, ◌+◌, ◌<◌}
use mathlib.Core.Path.{◌≡◌, refl, sym, ◌∙◌}
use mathlib.Core.Bool.{Bool, true, false, ◌&&◌, and-false, and-eq-true_iff}
use native.Mathlib.Omega.{arith}
use native.Mathlib.Numerals.{add-one}
use borrow.Author.Tests.{eqb-true, eqb-false}
use lib.Dec.{eqb}
use Rattle.rules.specs.Places.{is_at}
use Rattle.rules.specs.Summary.{every_below, first_below, or_else}

crossed : (a b c d : Bool) → ((a && b) && (c && d)) ≡ ((a && c) && (b && d))
crossed false b c d = refl
crossed true true c d = refl
crossed true false c d = sym (and-false c)

-- all pass both tests where all pass each
pub below_both : (f g h : ℕ → Bool) → ((i : ℕ) → h i ≡ (f i && g i)) → (n : ℕ) → every_below n h ≡ (every_below n f && every_below n g)
below_both f g h e zero = refl
below_both f g h e (suc n) = rw (e n, below_both f g h e n) (crossed (f n) (g n) (every_below n f) (every_below n g))

-- two tests that agree
pub below-same : (f g : ℕ → Bool) (n : ℕ) → ((i : ℕ) → i < n → f i ≡ g i) → every_below n f ≡ every_below n g
below-same f g zero e = refl
below-same f g (suc n) e = rw (e n (omega arith), below-same f g n (λ i h. e i (omega arith)))

module _ (test : ℕ → Bool) where
  -- what all pass each passes
  pub below_at : (n : ℕ) → every_below n test ≡ true → (i : ℕ) → i < n → test i ≡ true
  below_at zero e i h = absurd (omega arith)
  below_at (suc n) e i h = go (eqb i n) refl (λ h. below_at n both.1 i h)
    where
      both : (test n ≡ true) × (every_below n test ≡ true)
      both = (and-eq-true_iff (test n) (every_below n test)).0 e

      go : (b : Bool) → eqb i n ≡ b → (i < n → test i ≡ true) → test i ≡ true
      go true s more = rw (eqb-true i n s) both.0
      go false s more = more (omega (arith, eqb-false i n s))

  pub below-from : (n : ℕ) → ((i : ℕ) → i < n → test i ≡ true) → every_below n test ≡ true
  below-from zero each = refl
  below-from (suc n) each =
      (and-eq-true_iff (test n) (every_below n test)).1 (each n (omega arith), below-from n (λ i h. each i (omega arith)))

  -- one that fails
  pub below_fails : (n i : ℕ) → i < n → test i ≡ false → every_below n test ≡ false
  below_fails n i h e = go (every_below n test) refl
    where
      go : (b : Bool) → every_below n test ≡ b → b ≡ false
      go true f = sym (below_at n f i h) ∙ e
      go false f = refl

  -- where all but two pass these two decide
  pub below_two : (n i j : ℕ) → i < n → j < n → ((k : ℕ) → k < n → (k ≡ i → ⊥) → (k ≡ j → ⊥) → test k ≡ true)
      → every_below n test ≡ (test i && test j)
  below_two n i j hi hj others = go (test i) refl (test j) refl
    where
      each : test i ≡ true → test j ≡ true → (k : ℕ) → k < n → (x : Bool) → eqb k i ≡ x → (y : Bool) → eqb k j ≡ y → test k ≡ true
      each e f k h true s y t = rw (eqb-true k i s) e
      each e f k h false s true t = rw (eqb-true k j t) f
      each e f k h false s false t = others k h (eqb-false k i s) (eqb-false k j t)

      go : (x : Bool) → test i ≡ x → (y : Bool) → test j ≡ y → every_below n test ≡ (x && y)
      go true e true f = below-from n (λ k h. each e f k h (eqb k i) refl (eqb k j) refl)
      go true e false f = below_fails n j hj f
      go false e y f = below_fails n i hi e

  -- the first that passes
  pub first_more : (i : ℕ) → first_below i test ≡ None → test i ≡ false → first_below (i + 1) test ≡ None
  first_more i none e = rw (add-one i, none, e)

  pub first-at : (n i : ℕ) → first_below i test ≡ None → test i ≡ true → i < n → first_below n test ≡ Some i
  first-at zero i none e h = absurd (omega arith)
  first-at (suc n) i none e h = go (eqb i n) refl (first-at n i none e)
    where
      go : (b : Bool) → eqb i n ≡ b → (i < n → first_below n test ≡ Some i) → first_below (suc n) test ≡ Some i
      go true s more = let same : n ≡ i = sym (eqb-true i n s) in rw (same, none, e)
      go false s more = rw (more (omega (arith, eqb-false i n s)))

  -- the one found passes
  pub first_passes : (n i : ℕ) → first_below n test ≡ Some i → (i < n) × (test i ≡ true)
  first_passes zero i e = let z : ◌≡◌ {A = ℕ} 0 1 = cc in absurd (omega arith)
  first_passes (suc n) i e = go (first_below n test) refl (test n) refl e (first_passes n i)
    where
      go : (r : Option ℕ) → first_below n test ≡ r → (b : Bool) → test n ≡ b → or_else r (if b then Some n else None) ≡ Some i
          → (first_below n test ≡ Some i → (i < n) × (test i ≡ true)) → (i < suc n) × (test i ≡ true)
      go (Some k) f b g h more =
          let m = more (f ∙ h) in
          (omega (arith, m.0), m.1)
      go None f true g h more =
          let same : n ≡ i = cc in
          (omega arith, rw same at g)
      go None f false g h more = let z : ◌≡◌ {A = ℕ} 0 1 = cc in absurd (omega arith)

  -- where none is found none passes
  pub first-none : (n k : ℕ) → first_below n test ≡ None → k < n → test k ≡ false
  first-none zero k e h = absurd (omega arith)
  first-none (suc n) k e h = go (first_below n test) refl (test n) refl e (eqb k n) refl (first-none n k)
    where
      go : (r : Option ℕ) → first_below n test ≡ r → (b : Bool) → test n ≡ b → or_else r (if b then Some n else None) ≡ None
          → (s : Bool) → eqb k n ≡ s → (first_below n test ≡ None → k < n → test k ≡ false) → test k ≡ false
      go (Some j) f b g e s es more = let z : ◌≡◌ {A = ℕ} 0 1 = cc in absurd (omega arith)
      go None f true g e s es more = let z : ◌≡◌ {A = ℕ} 0 1 = cc in absurd (omega arith)
      go None f false g e true es more = rw (eqb-true k n es) g
      go None f false g e false es more = more f (omega (arith, eqb-false k n es))

  pub none_first : (n : ℕ) → ((k : ℕ) → k < n → test k ≡ false) → first_below n test ≡ None
  none_first zero none = refl
  none_first (suc n) none = rw (none_first n (λ k h. none k (omega arith)), none n (omega arith))

  -- none passes before the one found
  pub first-before : (n i : ℕ) → first_below n test ≡ Some i → (k : ℕ) → k < i → test k ≡ false
  first-before zero i e k h = let z : ◌≡◌ {A = ℕ} 0 1 = cc in absurd (omega arith)
  first-before (suc n) i e k h = go (first_below n test) refl (test n) e (λ f. first-before n i f k h)
    where
      go : (r : Option ℕ) → first_below n test ≡ r → (b : Bool) → or_else r (if b then Some n else None) ≡ Some i
          → (first_below n test ≡ Some i → test k ≡ false) → test k ≡ false
      go (Some j) f b g more = more (f ∙ g)
      go None f true g more =
          let same : n ≡ i = cc in
          first-none n k f (omega arith)
      go None f false g more = let z : ◌≡◌ {A = ℕ} 0 1 = cc in absurd (omega arith)

  -- one that passes, and none before it
  pub first-is : (n i : ℕ) → i < n → test i ≡ true → ((k : ℕ) → k < i → test k ≡ false) → first_below n test ≡ Some i
  first-is n i h e none = first-at n i (none_first i none) e h

  pub is_found : (n i : ℕ) → i < n → test i ≡ true → is_at (first_below n test) ≡ true
  is_found n i h e = go (first_below n test) refl
    where
      go : (r : Option ℕ) → first_below n test ≡ r → is_at r ≡ true
      go (Some j) f = refl
      go None f = sym (first-none n i f h) ∙ e

-- two tests that agree find the same
pub first-same : (f g : ℕ → Bool) (n : ℕ) → ((i : ℕ) → i < n → f i ≡ g i) → first_below n f ≡ first_below n g
first-same f g zero e = refl
first-same f g (suc n) e = rw (e n (omega arith), first-same f g n (λ i h. e i (omega arith)))
