-- Numbers joined by `|`: what holds of the one is what holds of each.
use Prim.Native.Nat.{ℕ, ◌+◌, ◌<◌, ◌^◌}
use mathlib.Core.Path.{◌≡◌, refl}
use mathlib.Core.Bool.{Bool, true, false, ◌&&◌}
use native.Mathlib.Omega.{arith}
use borrow.Author.Tests.{leb-true, leb-false, le-leb, lt-leb}
use lib.Dec.{leb}
use lib.Bits.{bit_or, or_add_and, and_le_l, and_le_r, or_lt}

-- below a power of two where both are
pub or-below : (k a b : ℕ) (most : ℕ) → most + 1 ≡ 2 ^ k → leb (bit_or a b) most ≡ (leb a most && leb b most)
or-below k a b most p = go (leb a most) refl (leb b most) refl
  where
    go : (x : Bool) → leb a most ≡ x → (y : Bool) → leb b most ≡ y → leb (bit_or a b) most ≡ (x && y)
    go true e true f =
        let la : a < 2 ^ k = omega (arith, leb-true a most e) in
        let lb : b < 2 ^ k = omega (arith, leb-true b most f) in
        le-leb (bit_or a b) most (omega (arith, or_lt k a b la lb))
    go true e false f = lt-leb (bit_or a b) most (omega (arith, leb-false b most f, or_add_and a b, and_le_l a b, and_le_r a b))
    go false e y f = lt-leb (bit_or a b) most (omega (arith, leb-false a most e, or_add_and a b, and_le_l a b, and_le_r a b))
