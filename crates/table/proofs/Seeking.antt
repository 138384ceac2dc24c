-- What a search passes by does not hold the key.
use Rattle.std.specs.Prelude.{if◌then◌else◌, Option, Some, None}
use Rattle.std.proofs.Common.{◌≡◌, ℕ, suc, ◌+◌, ◌<◌, Bool, true, false, true≢false, ◌&&◌, eqb, List, [], ◌∷◌, length, sym, refl, ◌∙◌, arith}
use mathlib.Core.Bool.{and-true, and-false, and_comm}
use Rattle.rules.specs.Places.{same_octets, same_address, same_key, is_open, holds, first_from}
use Rattle.rules.specs.declared.Key.{Key}
use Rattle.rules.specs.declared.Place.{Place}
use Rattle.table.specs.declared.Search.TheVariants.{Open, Vacant, Nowhere}
use Rattle.table.specs.Seeking.{same_addresses, Points}

-- the order in which fields are compared does not matter
in_order : (a c x u y v r : Bool) → (a && (c && ((x && u) && ((y && v) && r)))) ≡ (a && c && r && (u && x) && (v && y))
in_order false c x u y v r = refl
in_order true false x u y v r = refl
in_order true true x u y v true = rw (and-true (y && v), and_comm x u, and_comm y v)
in_order true true x u y v false = rw (and-false (y && v)) (and-false (x && u))

pub key_by_fields : (a b : Key) (r : Bool)
    → r
    ≡ (eqb a.association b.association
    && (eqb a.context.0 b.context.0
    && ((same_octets a.origin.octets b.origin.octets && eqb a.origin.length b.origin.length)
    && ((same_octets a.destination.octets b.destination.octets && eqb a.destination.length b.destination.length) && eqb a.reference.0 b.reference.0))))
    → r ≡ same_key a b
unfolding same_key same_address
key_by_fields a b r e =
    e
    ∙ in_order
    (eqb a.association b.association)
    (eqb a.context.0 b.context.0)
    (same_octets a.origin.octets b.origin.octets)
    (eqb a.origin.length b.origin.length)
    (same_octets a.destination.octets b.destination.octets)
    (eqb a.destination.length b.destination.length)
    (eqb a.reference.0 b.reference.0)

-- what is compared first: mark, numbers and lengths
abbrev pub alike : Place → Key → Bool
alike p k =
    ((((is_open p && eqb p.key.association k.association) && eqb p.key.context.0 k.context.0) && eqb p.key.reference.0 k.reference.0)
    && eqb p.key.origin.length k.origin.length)
    && eqb p.key.destination.length k.destination.length

module _ (p : Place) (k : Key) where
  apart : holds k p ≡ (alike p k && same_addresses p.key k)
  unfolding same_key same_address
  apart =
      go
      (is_open p)
      (eqb p.key.association k.association)
      (eqb p.key.context.0 k.context.0)
      (eqb p.key.reference.0 k.reference.0)
      (eqb p.key.origin.length k.origin.length)
      (eqb p.key.destination.length k.destination.length)
      (same_octets p.key.origin.octets k.origin.octets)
      (same_octets p.key.destination.octets k.destination.octets)
    where
      go : (o a c r x y u v : Bool) → (o && (a && c && r && (x && u) && (y && v))) ≡ ((((((o && a) && c) && r) && x) && y) && (u && v))
      go false a c r x y u v = refl
      go true false c r x y u v = refl
      go true true false r x y u v = refl
      go true true true false x y u v = refl
      go true true true true false y u v = refl
      go true true true true true false u v = and-false u
      go true true true true true true u v = refl

  -- where these agree the octets decide; where they differ a place does not hold the key, whatever its octets
  pub decided : (b : Bool) → alike p k ≡ true → b ≡ same_addresses p.key k → b ≡ holds k p
  decided b e f = f ∙ sym (apart ∙ rw e)

  pub unlike : alike p k ≡ false → alike p k ≡ holds k p
  unlike e = e ∙ sym (apart ∙ rw e)

-- a place that is found is one of them
pub found-within : (test : Place → Bool) (ps : List Place) (i k : ℕ) → first_from test ps i ≡ Some k → k < i + length ps
found-within test [] i k e = let z : ◌≡◌ {A = ℕ} 0 1 = cc in absurd (omega arith)
found-within test (p ∷ ps) i k e = go (test p) e (found-within test ps (i + 1) k)
  where
    go : (b : Bool) → (if b then Some i else first_from test ps (i + 1)) ≡ Some k → (first_from test ps (i + 1) ≡ Some k → k < i + 1 + length ps) → k < i + suc (length ps)
    go true f more = let same : i ≡ k = cc in omega arith
    go false f more = let m = more f in omega arith

-- what is told of a key that is found, and of one that is not
pub points-found : (vacant : Option ℕ) (at : ℕ) → at < 16 → Points (Some at) vacant (Open at)
points-found vacant at h = record { inside = h; open_at = refl; free-at = λ e. absurd (true≢false e) }

pub points-vacant : (at : ℕ) → at < 16 → Points None (Some at) (Vacant at)
points-vacant at h = record { inside = h; open_at = refl; free-at = λ e. refl }

pub points-none : Points None None Nowhere
points-none = record { inside = omega arith; open_at = refl; free-at = λ e. refl }
