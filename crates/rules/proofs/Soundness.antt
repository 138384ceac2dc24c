-- What soundness asks of an open place, of a key and of a table, in parts.
use Rattle.std.specs.Prelude.{if◌then◌else◌}
use Prim.Native.Nat.{ℕ, zero, suc, ◌+◌, ◌≤◌, ◌<◌}
use mathlib.Core.Path.{◌≡◌, refl}
use mathlib.Core.Bool.{Bool, true, false, not, ◌&&◌, ◌||◌, and-eq-true_iff, or-true}
use mathlib.Core.List.{List, [], ◌∷◌, ◌++◌}
use borrow.Author.Tests.{leb-true, ltb-true, eqb-true, eqb-false, ne_eqb, le-leb, lt-ltb, not-true}
use native.Mathlib.Omega.{arith}
use lib.Dec.{eqb}
use lib.ListN.{take, drop, replicate}
use Rattle.rules.specs.General.{every, every_two}
use Rattle.rules.specs.Numbers.{timer_in_range, reference_most, instruction_most, segments_most, data_most, address_most, elapsed}
use Rattle.rules.specs.Registry.{kind_of, registry_sound}
use Rattle.rules.specs.Layout.{octet, has_addresses, span_at}
use Rattle.rules.specs.Places.{is_open, free_place}
use Rattle.rules.specs.Soundness.{is_zero, address_sound, open_sound, free_sound, place_sound, places_apart, sound}
use Rattle.rules.specs.Receiving.{address_at}
use Rattle.rules.specs.declared.Entry.{Entry}
use Rattle.rules.specs.declared.Place.{Place}
use Rattle.rules.specs.declared.Table.{Table}

pub record SoundTable (t : Table) : Type 0 where
  pub timer : timer_in_range t.timer ≡ true
  pub registry : registry_sound t.registry ≡ true
  pub places : every (place_sound t.registry t.timer t.clock) t.places ≡ true
  pub apart : every_two places_apart t.places ≡ true

pub sound-parts : (t : Table) → sound t ≡ true → SoundTable t
unfolding sound
sound-parts t s =
    let places : Bool = every (place_sound t.registry t.timer t.clock) t.places in
    let three = (and-eq-true_iff (timer_in_range t.timer && registry_sound t.registry && places) (every_two places_apart t.places)).0 s in
    let two = (and-eq-true_iff (timer_in_range t.timer && registry_sound t.registry) places).0 three.0 in
    let one = (and-eq-true_iff (timer_in_range t.timer) (registry_sound t.registry)).0 two.0 in
    record { timer = one.0; registry = one.1; places = two.1; apart = three.1 }

pub sound-of : (t : Table) → SoundTable t → sound t ≡ true
unfolding sound
sound-of t s = rw (s.timer, s.registry, s.places, s.apart)

pub record OpenPlace (registry : List Entry) (timer clock : ℕ) (p : Place) : Type 0 where
  pub registered : kind_of registry p.key.context.0 ≡ 0 → ⊥
  pub reference : p.key.reference.0 ≤ reference_most
  pub instruction : p.instruction ≤ instruction_most
  pub left : 1 ≤ p.remaining.0
  pub most : p.remaining.0 ≤ 9
  pub begun : 1 ≤ p.segments
  pub count : p.segments + p.remaining.0 ≤ segments_most
  pub octets : p.octets ≤ data_most
  pub origin : address_sound (kind_of registry p.key.context.0) p.key.origin ≡ true
  pub destination : address_sound (kind_of registry p.key.context.0) p.key.destination ≡ true
  pub young : elapsed clock p.start < timer

module _ (registry : List Entry) (timer clock : ℕ) (p : Place) where
  pub open-parts : open_sound registry timer clock p ≡ true → OpenPlace registry timer clock p
  unfolding open_sound
  open-parts e =
      let all = simp and-eq-true_iff at e in
      record {
        registered = eqb-false _ _ (not-true _ all.0.0.0.0.0.0.0.0.0.0);
        reference = leb-true _ _ all.0.0.0.0.0.0.0.0.0.1;
        instruction = leb-true _ _ all.0.0.0.0.0.0.0.0.1;
        left = leb-true _ _ all.0.0.0.0.0.0.0.1;
        most = leb-true _ _ all.0.0.0.0.0.0.1;
        begun = leb-true _ _ all.0.0.0.0.0.1;
        count = leb-true _ _ all.0.0.0.0.1;
        octets = leb-true _ _ all.0.0.0.1;
        origin = all.0.0.1;
        destination = all.0.1;
        young = ltb-true _ _ all.1;
      }

  pub open_of : OpenPlace registry timer clock p → open_sound registry timer clock p ≡ true
  unfolding open_sound
  open_of h =
      rw (
        ne_eqb _ _ h.registered,
        le-leb _ _ h.reference,
        le-leb _ _ h.instruction,
        le-leb _ _ h.left,
        le-leb _ _ h.most,
        le-leb _ _ h.begun,
        le-leb _ _ h.count,
        le-leb _ _ h.octets,
        h.origin,
        h.destination,
        lt-ltb _ _ h.young,
      )

pub free-sound : (registry : List Entry) (timer clock : ℕ) → place_sound registry timer clock free_place ≡ true
unfolding free_sound
free-sound registry timer clock = refl

-- a place of a sound table that is not open holds nothing
pub free-holds : (registry : List Entry) (timer clock : ℕ) (p : Place) → place_sound registry timer clock p ≡ true → is_open p ≡ false → (p.octets ≡ 0) × (p.segments ≡ 0)
unfolding free_sound
free-holds registry timer clock p e o =
    let all = simp and-eq-true_iff at (simp o at e) in
    (eqb-true _ _ all.1.0.0.0.0.0.0.1, eqb-true _ _ all.1.0.0.1)

zeros : (n m : ℕ) → every is_zero (drop n (replicate m 0)) ≡ true
zeros zero zero = refl
zeros zero (suc m) = zeros zero m
zeros (suc n) zero = refl
zeros (suc n) (suc m) = zeros n m

-- what is filled after n octets or fewer is zero after n
filled_zero : (n m : ℕ) (l : List ℕ) → every is_zero (drop n (take n l ++ replicate m 0)) ≡ true
filled_zero zero m l = zeros zero m
filled_zero (suc n) m [] = zeros (suc n) m
filled_zero (suc n) m (x ∷ l) = filled_zero n m l

-- an address that stands in a parameter, where there are address fields, and none where there are not
pub span-sound : (kind : ℕ) (s : List ℕ) (at : ℕ) → (if has_addresses kind then octet s at else 0) ≤ address_most
    → address_sound kind (address_at s (span_at (has_addresses kind) s at)) ≡ true
unfolding address_sound
span-sound kind s at short =
    rw (le-leb _ _ short, filled_zero (span_at (has_addresses kind) s at).length _ _, empty (eqb kind 2) refl)
  where
    -- kind 1 has no addresses
    empty : (b : Bool) → eqb kind 2 ≡ b → (not (eqb kind 1) || is_zero (if b then octet s at else 0)) ≡ true
    empty true e = let two = eqb-true kind 2 e in rw (ne_eqb kind 1 (λ h. omega arith))
    empty false e = or-true (not (eqb kind 1))
