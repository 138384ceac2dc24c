-- The part that crosses as numbers is the delivery.
use Rattle.std.specs.Prelude.{if◌then◌else◌}
use Prim.Native.Nat.{ℕ, ◌+◌, ◌≤◌, ◌<◌}
use mathlib.Core.Path.{◌≡◌, refl, ap}
use mathlib.Core.Bool.{Bool, true, false, ◌&&◌}
use mathlib.Core.List.{List, [], ◌∷◌}
use lib.Dec.{eqb, leb, ltb}
use lib.ListN.{length, take, drop, length-drop}
use lib.Seq.{length-take-le}
use native.Mathlib.Omega.{arith}
use native.Mathlib.Nat.{suc-ne-zero}
use borrow.Author.Tests.{leb-true, ltb-true, ne_eqb}
use Rattle.rules.specs.Numbers.{place_count, stretch_length, place_start}
use Rattle.rules.specs.Delivery.{part_of, part_of_place, delivery}
use Rattle.rules.specs.declared.Part.TheVariants.{OfParameter, OfStore}
use Rattle.rules.specs.declared.Decision.{Decision}
use Rattle.rules.specs.declared.Decision.TheVariants.{Refused, Saved, Delivered, Lost}
use Rattle.host_numbers.specs.Crossing.{c_part, located, taken, Within}

-- no octets are nowhere
pub none-nowhere : (d : Decision) → located d 0 ≡ c_part 0 0 0
none-nowhere Refused = refl
none-nowhere (Saved p) = refl
none-nowhere (Delivered (OfParameter start n)) = refl
none-nowhere (Delivered (OfStore p n)) = refl
none-nowhere (Lost cause found) = refl

-- so many octets from a position on are taken back as they are, and so are none
inside-taken : (l : List ℕ) (start n : ℕ) → leb (start + n) (length l) ≡ true → take (length (take n (drop start l))) (drop start l) ≡ take n (drop start l)
inside-taken l start n inside =
    let fits : n ≤ length (drop start l) = rw (length-drop start l) (omega (arith, leb-true (start + n) (length l) inside)) in
    ap (λ m. take m (drop start l)) (length-take-le n (drop start l) fits)

part-taken : (l : List ℕ) (start n : ℕ) → take (length (part_of l start n)) (drop start l) ≡ part_of l start n
part-taken l start n = go (leb (start + n) (length l)) refl where
  go : (b : Bool) → leb (start + n) (length l) ≡ b
      → let p : List ℕ = if b then take n (drop start l) else [] in take (length p) (drop start l) ≡ p
  go true inside = inside-taken l start n inside
  go false outside = refl

place-taken : (store : List ℕ) (p n : ℕ) → take (length (part_of_place store p n)) (drop (place_start p) store) ≡ part_of_place store p n
place-taken store p n = go (ltb p place_count && leb n stretch_length) where
  go : (b : Bool) → let q : List ℕ = if b then part_of store (place_start p) n else [] in take (length q) (drop (place_start p) store) ≡ q
  go true = part-taken store (place_start p) n
  go false = refl

module _ (s store : List ℕ) where
  taken-part : (source start : ℕ) (p : List ℕ) → take (length p) (drop start (if eqb source 0 then s else store)) ≡ p
      → taken (if eqb (length p) 0 then c_part 0 0 0 else c_part source start (length p)) s store ≡ p
  taken-part source start [] e = refl
  taken-part source start (x ∷ xs) e = rw (ne_eqb (length (x ∷ xs)) 0 (suc-ne-zero (length xs))) e

  -- what the host takes is the delivery
  pub taken-delivery : (d : Decision) → taken (located d (length (delivery d s store))) s store ≡ delivery d s store
  unfolding delivery
  taken-delivery Refused = refl
  taken-delivery (Saved p) = refl
  taken-delivery (Delivered (OfParameter start n)) = taken-part 0 start (part_of s start n) (part-taken s start n)
  taken-delivery (Delivered (OfStore p n)) = taken-part 1 (place_start p) (part_of_place store p n) (place-taken store p n)
  taken-delivery (Lost cause found) = refl

  -- and octets are delivered of one of the 16 places only
  pub delivery-within : (d : Decision) → Within d (length (delivery d s store))
  unfolding delivery
  delivery-within Refused = tt
  delivery-within (Saved p) = tt
  delivery-within (Delivered (OfParameter start n)) = tt
  delivery-within (Delivered (OfStore p n)) = go (ltb p place_count) refl where
    go : (b : Bool) → ltb p place_count ≡ b → 1 ≤ length (if b && leb n stretch_length then part_of store (place_start p) n else []) → p < place_count
    go true inside some = ltb-true p place_count inside
    go false outside some = absurd (omega (arith, some))
  delivery-within (Lost cause found) = tt
