-- The first place that passes a test is what its name says; so are the place of a key and the lowest free place.
use Rattle.std.specs.Prelude.{if◌then◌else◌, Option, Some, None}
use Prim.Native.Nat.{ℕ, zero, suc, ◌+◌, ◌<◌}
use mathlib.Core.Path.{◌≡◌, refl}
use mathlib.Core.Bool.{Bool, true, false}
use mathlib.Core.List.{List, [], ◌∷◌}
use native.Mathlib.Numerals.{add-one}
use native.Mathlib.Omega.{arith}
use lib.ListN.{length, get_or}
use Rattle.rules.specs.Places.{no_place, first_from, holds, is_free, place_of, lowest_free}
use Rattle.rules.specs.declared.Key.{Key}
use Rattle.rules.specs.declared.Place.{Place}

-- it passes the test and none before it does; or none does
abbrev pub IsFirst : (Place → Bool) → List Place → Option ℕ → Type 0
IsFirst test ps (Some i) = (i < length ps) × (test (get_or ps i no_place) ≡ true) × ((j : ℕ) → j < i → test (get_or ps j no_place) ≡ false)
IsFirst test ps None = (j : ℕ) → j < length ps → test (get_or ps j no_place) ≡ false

abbrev later : Option ℕ → Option ℕ
later (Some i) = Some (i + 1)
later None = None

later-if : (b : Bool) (i : ℕ) (r s : Option ℕ) → r ≡ later s → if b then Some (i + 1) else r ≡ later (if b then Some i else s)
later-if true i r s e = refl
later-if false i r s e = e

from-later : (test : Place → Bool) (ps : List Place) (i : ℕ) → first_from test ps (i + 1) ≡ later (first_from test ps i)
from-later test [] i = refl
from-later test (p ∷ ps) i = later-if (test p) i _ _ (from-later test ps (i + 1))

module _ (test : Place → Bool) (p : Place) (ps : List Place) where
  below : test p ≡ false → (i : ℕ) → ((j : ℕ) → j < i → test (get_or ps j no_place) ≡ false) → (j : ℕ) → j < suc i → test (get_or (p ∷ ps) j no_place) ≡ false
  below e i h zero l = e
  below e i h (suc j) l = h j (omega arith)

  passed : test p ≡ false → (r : Option ℕ) → IsFirst test ps r → IsFirst test (p ∷ ps) (later r)
  passed e (Some i) h = rw add-one (omega arith, h.1, below e i h.2)
  passed e None h = below e (length ps) h

  first_of : (b : Bool) → test p ≡ b → (r : Option ℕ) → IsFirst test ps r → IsFirst test (p ∷ ps) (if b then Some 0 else later r)
  first_of true e r h = (omega arith, e, λ j l. let z : ⊥ = omega arith in absurd z)
  first_of false e r h = passed e r h

pub first-is : (test : Place → Bool) (ps : List Place) → IsFirst test ps (first_from test ps 0)
first-is test [] = λ j h. let z : ⊥ = omega arith in absurd z
first-is test (p ∷ ps) = rw (from-later test ps 0) (first_of test p ps (test p) refl (first_from test ps 0) (first-is test ps))

pub place_is : (k : Key) (ps : List Place) → IsFirst (holds k) ps (place_of k ps)
place_is k ps = first-is (holds k) ps

pub free-is : (ps : List Place) → IsFirst is_free ps (lowest_free ps)
free-is ps = first-is is_free ps
