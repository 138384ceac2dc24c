-- What a place of a sound table holds.
use Rattle.std.specs.Prelude.{Option, Some, None}
use Prim.Native.Nat.{ℕ, zero, suc, ◌≤◌, ◌<◌}
use mathlib.Core.Path.{◌≡◌, refl}
use mathlib.Core.Bool.{Bool, true, false, ◌||◌, and-eq-true_iff}
use mathlib.Core.List.{List, [], ◌∷◌}
use native.Mathlib.Omega.{arith}
use borrow.Author.Tests.{eqb-true, ne_eqb}
use lib.ListN.{length, get_or}
use Rattle.rules.specs.General.{every}
use Rattle.rules.specs.Places.{no_place, is_open, is_free, holds, place_of, place_at}
use Rattle.rules.specs.Soundness.{open_sound, place_sound, sound}
use Rattle.rules.specs.declared.Entry.{Entry}
use Rattle.rules.specs.declared.Key.{Key}
use Rattle.rules.specs.declared.Place.{Place}
use Rattle.rules.specs.declared.Table.{Table}
use Rattle.rules.proofs.Places.{IsFirst, place_is}
use Rattle.rules.proofs.Soundness.{sound-parts, open-parts}

pub every-at : {A : Type 0} (f : A → Bool) (l : List A) (d : A) (i : ℕ) → every f l ≡ true → i < length l → f (get_or l i d) ≡ true
every-at f [] d i e h = let z : ⊥ = omega arith in absurd z
every-at f (x ∷ l) d zero e h = ((and-eq-true_iff (f x) (every f l)).0 e).0
every-at f (x ∷ l) d (suc i) e h = every-at f l d i ((and-eq-true_iff (f x) (every f l)).0 e).1 (omega arith)

-- an open place of a sound table is as the paper asks of one
pub open_is : (registry : List Entry) (timer clock : ℕ) (p : Place) → place_sound registry timer clock p ≡ true → is_open p ≡ true → open_sound registry timer clock p ≡ true
open_is registry timer clock p e o =
    let mark = eqb-true p.mark 1 o in
    let free : is_free p ≡ false = ne_eqb p.mark 0 (omega arith) in
    go (open_sound registry timer clock p) (simp (o, free) at e)
  where
    go : (b : Bool) → (b || false) ≡ true → b ≡ true
    go true h = refl
    go false h = h

pub places-sound : (t : Table) → sound t ≡ true → every (place_sound t.registry t.timer t.clock) t.places ≡ true
places-sound t s = (sound-parts t s).places

-- what was saved at a key's place fits a place, and leaves a segment to come
pub record Held (p : Place) : Type 0 where
  pub octets : p.octets ≤ 2048
  pub segments : p.segments ≤ 9

held-open : (registry : List Entry) (timer clock : ℕ) (p : Place) → open_sound registry timer clock p ≡ true → Held p
held-open registry timer clock p e =
    let all = open-parts registry timer clock p e in
    let count = all.count in
    let left = all.left in
    record { octets = all.octets; segments = omega arith }

pub held : (t : Table) (k : Key) → sound t ≡ true → Held (place_at t.places (place_of k t.places))
held t k s = go (place_of k t.places) (place_is k t.places)
  where
    go : (f : Option ℕ) → IsFirst (holds k) t.places f → Held (place_at t.places f)
    go (Some i) h =
        let p : Place = get_or t.places i no_place in
        let ok = every-at (place_sound t.registry t.timer t.clock) t.places no_place i (places-sound t s) h.0 in
        held-open t.registry t.timer t.clock p (open_is t.registry t.timer t.clock p ok ((and-eq-true_iff _ _).0 h.1).0)
    go None h = record { octets = omega arith; segments = omega arith }
