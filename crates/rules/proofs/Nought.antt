-- A sum is 0 exactly where both parts are, and so are two numbers joined by `|`.
use Prim.Native.Nat.{ℕ, ◌+◌}
use mathlib.Core.Path.{◌≡◌, refl}
use mathlib.Core.Bool.{Bool, true, false, ◌&&◌}
use native.Mathlib.Omega.{arith}
use borrow.Author.Tests.{eqb-true, eqb-false, eq-eqb, ne_eqb}
use lib.Dec.{eqb}
use lib.Bits.{bit_or, or_add_and, and_le_l, and_le_r}

pub sum-nought : (s x : ℕ) → eqb (s + x) 0 ≡ (eqb s 0 && eqb x 0)
sum-nought s x = go (eqb s 0) refl (eqb x 0) refl
  where
    go : (a : Bool) → eqb s 0 ≡ a → (b : Bool) → eqb x 0 ≡ b → eqb (s + x) 0 ≡ (a && b)
    go true ea true eb = eq-eqb (s + x) 0 (let h = eqb-true s 0 ea in let k = eqb-true x 0 eb in omega arith)
    go true ea false eb = ne_eqb (s + x) 0 (let k = eqb-false x 0 eb in omega (arith, k))
    go false ea b eb = ne_eqb (s + x) 0 (let k = eqb-false s 0 ea in omega (arith, k))

pub or-nought : (a b : ℕ) → eqb (bit_or a b) 0 ≡ (eqb a 0 && eqb b 0)
or-nought a b = go (eqb a 0) refl (eqb b 0) refl
  where
    go : (x : Bool) → eqb a 0 ≡ x → (y : Bool) → eqb b 0 ≡ y → eqb (bit_or a b) 0 ≡ (x && y)
    go true e true f = eq-eqb (bit_or a b) 0 (omega (arith, or_add_and a b, eqb-true a 0 e, eqb-true b 0 f))
    go true e false f = ne_eqb (bit_or a b) 0 (λ z. eqb-false b 0 f (omega (arith, or_add_and a b, and_le_l a b, and_le_r a b)))
    go false e y f = ne_eqb (bit_or a b) 0 (λ z. eqb-false a 0 e (omega (arith, or_add_and a b, and_le_l a b, and_le_r a b)))
