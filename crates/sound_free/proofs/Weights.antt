-- Several numbers, added up or joined by `|`: 0 exactly where each of them is.
use Prim.Native.Nat.{ℕ, ◌+◌, ◌*◌, ◌<◌, ◌≤◌}
use mathlib.Core.Path.{◌≡◌, refl, sym, ◌∙◌}
use mathlib.Core.Bool.{Bool, true, false, ◌&&◌, and-true, and-false, and_assoc}
use mathlib.Core.List.{List}
use native.Mathlib.Nat.{mul-pos, mul-zero}
use native.Mathlib.Omega.{arith}
use borrow.Author.Tests.{eqb-true, eqb-false, eq-eqb, ne_eqb}
use lib.Bits.{bit_or}
use lib.Dec.{eqb}
use lib.ListN.{length, take, drop, get_or, length-drop, drop_of_length-le}
use lib.Seq.{take_all}
use Rattle.rules.specs.General.{every}
use Rattle.rules.specs.Places.{is_free}
use Rattle.rules.specs.Soundness.{is_zero, address_zero, free_sound}
use Rattle.rules.specs.declared.Address.{Address}
use Rattle.rules.specs.declared.Place.{Place}
use Rattle.rules.proofs.Lists.{left}
use Rattle.rules.proofs.Nought.{sum-nought, or-nought}
use Rattle.sound_free.specs.Idle.{sound_if_idle}
use Rattle.sound_free.proofs.Parts.{in_two}

-- a number that is taken several times
times-nought : (k x : ℕ) → 0 < k → eqb (k * x) 0 ≡ eqb x 0
times-nought k x h = go (eqb x 0) refl
  where
    go : (b : Bool) → eqb x 0 ≡ b → eqb (k * x) 0 ≡ b
    go true e = eq-eqb (k * x) 0 (rw (eqb-true x 0 e) (mul-zero k))
    go false e =
        let n = eqb-false x 0 e in
        let more : 0 < k * x = mul-pos h (omega (arith, n)) in
        ne_eqb (k * x) 0 (λ z. omega arith)

pub word-nought : (a b c d : ℕ) → eqb (a + 256 * b + 65536 * c + 16777216 * d) 0 ≡ (is_zero a && is_zero b && is_zero c && is_zero d)
word-nought a b c d =
    simp (sum-nought, times-nought 256 b (omega arith), times-nought 65536 c (omega arith), times-nought 16777216 d (omega arith))

module _ (a : List ℕ) where
  abbrev four_zero : ℕ → Bool
  four_zero i = is_zero (get_or a i 0) && is_zero (get_or a (i + 1) 0) && is_zero (get_or a (i + 2) 0) && is_zero (get_or a (i + 3) 0)

  next-four : (i : ℕ) → i + 4 ≤ length a → every is_zero (drop i a) ≡ (four_zero i && every is_zero (drop (i + 4) a))
  next-four i h =
      let two : i + 1 + 1 ≡ i + 2 = omega arith in
      let three : i + 2 + 1 ≡ i + 3 = omega arith in
      let four : i + 3 + 1 ≡ i + 4 = omega arith in
      rw (left a 0 i (omega arith), left a 0 (i + 1) (omega arith), two, left a 0 (i + 2) (omega arith), three, left a 0 (i + 3) (omega arith), four)
      (simp and_assoc)

  twenty-nought : length a ≡ 20 → every is_zero a ≡ (four_zero 0 && four_zero 4 && four_zero 8 && four_zero 12 && four_zero 16)
  twenty-nought h =
      next-four 0 (omega arith)
      ∙ rw (
        next-four 4 (omega arith),
        next-four 8 (omega arith),
        next-four 12 (omega arith),
        next-four 16 (omega arith),
        drop_of_length-le a {i = 20} (omega arith),
      )
      (simp (and-true, and_assoc))

-- an address: its length, and its octets four by four
pub address-zero : (a : Address) → length a.octets ≡ 20
    → address_zero a ≡ (is_zero a.length && four_zero a.octets 0 && four_zero a.octets 4 && four_zero a.octets 8 && four_zero a.octets 12 && four_zero a.octets 16)
address-zero a h = rw (twenty-nought a.octets h) (simp and_assoc)

-- the numbers of a place, in the order of the weight and in that of the rules
in_order : (association context reference octets start mark instruction remaining segments origin destination : Bool)
    → ((association && context) && (reference && octets) && start && (mark && instruction && remaining && segments) && origin && destination)
    ≡ (mark && (association && context && reference && octets && start && instruction && remaining && segments && origin && destination))
in_order false c r o s m i n k x y = sym (and-false m)
in_order true false r o s m i n k x y = sym (and-false m)
in_order true true false o s m i n k x y = sym (and-false m)
in_order true true true false s m i n k x y = sym (and-false m)
in_order true true true true false m i n k x y = sym (and-false m)
in_order true true true true true false i n k x y = refl
in_order true true true true true true i n k x y = refl

-- what a place weighs, with weights o and d for its addresses and w for its word
pub weight-nought : (p : Place) (o d w : ℕ) → eqb o 0 ≡ address_zero p.key.origin → eqb d 0 ≡ address_zero p.key.destination
    → eqb w 0 ≡ (is_free p && is_zero p.instruction && is_zero p.remaining.0 && is_zero p.segments)
    → eqb
    (bit_or
    (bit_or
    (bit_or (bit_or (bit_or (p.key.association + 65536 * p.key.context.0) (bit_or p.key.reference.0 p.octets)) p.start) w)
    o)
    d)
    0
    ≡ (is_free p && free_sound p)
unfolding free_sound
weight-nought p o d w eo ed ew =
    simp (
      or-nought,
      sum-nought,
      times-nought 65536 p.key.context.0 (omega arith),
      eo,
      ed,
      ew,
    )
    (in_order
    (is_zero p.key.association)
    (is_zero p.key.context.0)
    (is_zero p.key.reference.0)
    (is_zero p.octets)
    (is_zero p.start)
    (is_free p)
    (is_zero p.instruction)
    (is_zero p.remaining.0)
    (is_zero p.segments)
    (address_zero p.key.origin)
    (address_zero p.key.destination))

-- what two halves of eight weigh
pub in_halves : (ps : List Place) (a b : ℕ) → length ps ≡ 16 → eqb a 0 ≡ every sound_if_idle (take 8 ps) → eqb b 0 ≡ every sound_if_idle (take 8 (drop 8 ps))
    → eqb (bit_or a b) 0 ≡ every sound_if_idle ps
in_halves ps a b h ea eb =
    let rest : take 8 (drop 8 ps) ≡ drop 8 ps = take_all 8 (drop 8 ps) (rw (length-drop 8 ps) (omega arith)) in
    rw (or-nought a b, ea, eb, rest) (sym (in_two sound_if_idle 8 ps 0))
