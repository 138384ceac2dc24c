-- Numbers and their octets go both ways, at every width.
use mathlib.Core.Path.{◌≡◌, refl, sym, ap, ◌∙◌}
use mathlib.Core.List.{List, [], ◌∷◌, ◌++◌}
use Prim.Native.Nat.{ℕ, zero, suc, ◌+◌, ◌*◌, ◌/◌, ◌%◌, ◌^◌, ◌<◌}
use native.Mathlib.Nat.{pow-suc}
use native.Mathlib.Numerals.{add-one}
use native.Mathlib.Omega.{arith}
use lib.ListN.{length, take, get_or, length-append}
use lib.Seq.{take-suc, take_all, length-take-le, get_or-take}
use Rattle.octets.specs.Number.{number_from, number, big_endian}

number-last : (high : ℕ) (xs : List ℕ) (x : ℕ) → number_from high (xs ++ (x ∷ [])) ≡ number_from high xs * 256 + x
number-last high [] x = refl
number-last high (y ∷ xs) x = number-last (high * 256 + y) xs x

pub big_endian-length : (width x : ℕ) → length (big_endian width x) ≡ width
big_endian-length zero x = refl
big_endian-length (suc width) x = length-append (big_endian width (x / 256)) (x % 256 ∷ []) ∙ rw (big_endian-length width (x / 256), add-one)

-- a number that fits its octets is read back
pub number-back : (width x : ℕ) → x < 256 ^ width → number (big_endian width x) ≡ x
number-back zero x h = omega arith
number-back (suc width) x h =
    let g : x < 256 ^ width * 256 = rw pow-suc at h in
    let i : number (big_endian width (x / 256)) ≡ x / 256 = number-back width (x / 256) (omega arith) in
    number-last 0 (big_endian width (x / 256)) (x % 256) ∙ rw i (omega arith)

pub empty : (xs : List ℕ) → length xs ≡ 0 → xs ≡ []
empty [] e = refl
empty (x ∷ xs) e = let z : ⊥ = omega arith in absurd z

-- octets are those of their number
pub octets-back : (xs : List ℕ) (width : ℕ) → length xs ≡ width → ((i : ℕ) → i < width → get_or xs i 0 < 256) → big_endian width (number xs) ≡ xs
octets-back xs zero e f = sym (empty xs e)
octets-back xs (suc width) e f =
    let x = get_or xs width 0 in
    let b : x < 256 = f width (omega arith) in
    let s : take width xs ++ (x ∷ []) ≡ xs = sym (take-suc xs width 0 (omega arith)) ∙ take_all (suc width) xs (omega arith) in
    let n : number xs ≡ number (take width xs) * 256 + x = ap number (sym s) ∙ number-last 0 (take width xs) x in
    let d : number xs / 256 ≡ number (take width xs) = omega arith in
    let m : number xs % 256 ≡ x = omega arith in
    let i : big_endian width (number (take width xs)) ≡ take width xs =
    octets-back (take width xs) width (length-take-le width xs (omega arith)) (λ i h. rw (get_or-take width xs i 0 h) (f i (omega arith))) in
    rw (d, m, i) s
