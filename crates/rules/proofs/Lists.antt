-- A loop over a list: what is left at turn i is the element at i and what is left after it.
use Rattle.std.specs.Prelude.{if◌then◌else◌, Option, Some, None}
use Prim.Native.Nat.{ℕ, ◌+◌, ◌<◌, ◌≤◌}
use mathlib.Core.Path.{◌≡◌, sym, ◌∙◌}
use mathlib.Core.Bool.{Bool, true, false, ◌&&◌}
use mathlib.Core.List.{List, ◌∷◌}
use native.Mathlib.Numerals.{add-one}
use borrow.Author.Tests.{eq-eqb, ne_eqb}
use lib.Dec.{eqb}
use lib.ListN.{length, drop, get_or, drop_of_length-le}
use lib.Seq.{drop-cons}
use Rattle.rules.specs.General.{every, every_two}
use Rattle.rules.specs.Places.{no_place, first_from, same_octets}
use Rattle.rules.specs.declared.Place.{Place}

pub left : {A : Type 0} (l : List A) (d : A) (i : ℕ) → i < length l → drop i l ≡ get_or l i d ∷ drop (i + 1) l
left l d i h = rw add-one (drop-cons l i d h)

-- whether all of w pass: the first that does not decides
module _ {A : Type 0} (f : A → Bool) (l : List A) (d : A) (i : ℕ) (w : Bool) (inv : w ≡ every f (drop i l)) where
  step : i < length l → w ≡ (f (get_or l i d) && every f (drop (i + 1) l))
  step h = inv ∙ rw (left l d i h)

  pub every-fails : i < length l → f (get_or l i d) ≡ false → false ≡ w
  every-fails h e = sym (step h ∙ simp e)

  pub every-goes : i < length l → f (get_or l i d) ≡ true → w ≡ every f (drop (i + 1) l)
  every-goes h e = step h ∙ simp e

  pub every-ends : length l ≤ i → true ≡ w
  every-ends h = sym (inv ∙ rw (drop_of_length-le l h))

module _ {A : Type 0} (f : A → A → Bool) (l : List A) (d : A) (i : ℕ) (w : Bool) (inv : w ≡ every_two f (drop i l)) where
  step-two : i < length l → w ≡ (every (f (get_or l i d)) (drop (i + 1) l) && every_two f (drop (i + 1) l))
  step-two h = inv ∙ rw (left l d i h)

  pub two-fail : i < length l → every (f (get_or l i d)) (drop (i + 1) l) ≡ false → false ≡ w
  two-fail h e = sym (step-two h ∙ simp e)

  pub two-go : i < length l → every (f (get_or l i d)) (drop (i + 1) l) ≡ true → w ≡ every_two f (drop (i + 1) l)
  two-go h e = step-two h ∙ simp e

  pub two-end : length l ≤ i → true ≡ w
  two-end h = sym (inv ∙ rw (drop_of_length-le l h))

-- the first place that passes
module _ (f : Place → Bool) (l : List Place) (i : ℕ) (w : Option ℕ) (inv : w ≡ first_from f (drop i l) i) where
  step-first : i < length l → w ≡ (if f (get_or l i no_place) then Some i else first_from f (drop (i + 1) l) (i + 1))
  step-first h = inv ∙ rw (left l no_place i h)

  pub first_found : i < length l → f (get_or l i no_place) ≡ true → Some i ≡ w
  first_found h e = sym (step-first h ∙ simp e)

  pub first_goes : i < length l → f (get_or l i no_place) ≡ false → w ≡ first_from f (drop (i + 1) l) (i + 1)
  first_goes h e = step-first h ∙ simp e

  pub first_ends : length l ≤ i → None ≡ w
  first_ends h = sym (inv ∙ rw (drop_of_length-le l h))

-- whether two lists have the same octets
module _ (a b : List ℕ) (i : ℕ) (w : Bool) (inv : w ≡ same_octets (drop i a) (drop i b)) where
  step_same : i < length a → i < length b → w ≡ (eqb (get_or a i 0) (get_or b i 0) && same_octets (drop (i + 1) a) (drop (i + 1) b))
  step_same h g = inv ∙ rw (left a 0 i h, left b 0 i g)

  pub octets-differ : i < length a → i < length b → (get_or a i 0 ≡ get_or b i 0 → ⊥) → false ≡ w
  octets-differ h g e = sym (step_same h g ∙ simp (ne_eqb _ _ e))

  pub octets-agree : i < length a → i < length b → get_or a i 0 ≡ get_or b i 0 → w ≡ same_octets (drop (i + 1) a) (drop (i + 1) b)
  octets-agree h g e = step_same h g ∙ simp (eq-eqb (get_or a i 0) (get_or b i 0) e)

  pub octets-end : length a ≤ i → length b ≤ i → true ≡ w
  octets-end h g = sym (inv ∙ rw (drop_of_length-le a h, drop_of_length-le b g))
