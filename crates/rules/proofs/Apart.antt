-- Open places with different keys: of any two in a list, and after one of them has been put anew.
use Rattle.std.specs.Prelude.{if◌then◌else◌}
use Prim.Native.Nat.{ℕ, zero, suc, ◌<◌}
use mathlib.Core.Path.{◌≡◌, refl, sym, ap, ◌∙◌}
use mathlib.Core.Bool.{Bool, true, false, not, ◌&&◌, and-eq-true_iff}
use mathlib.Core.List.{List, [], ◌∷◌, map}
use native.Mathlib.Omega.{arith}
use lib.ListN.{length, get_or, set}
use Rattle.rules.specs.General.{every, every_two}
use Rattle.rules.specs.Places.{same_key, is_open, holds, no_place, free_place}
use Rattle.rules.specs.Soundness.{places_apart}
use Rattle.rules.specs.Sweep.{freed_by}
use Rattle.rules.specs.declared.Key.{Key}
use Rattle.rules.specs.declared.Place.{Place}
use Rattle.rules.proofs.Keys.{same_key_lem}
use Rattle.rules.proofs.Held.{every-at}

both : {a b : Bool} → a ≡ true → b ≡ true → (a && b) ≡ true
both e h = rw (e, h)

pub every_of : {A : Type 0} (f : A → Bool) (l : List A) (d : A) → ((i : ℕ) → i < length l → f (get_or l i d) ≡ true) → every f l ≡ true
every_of f [] d h = refl
every_of f (x ∷ l) d h = both (h 0 (omega arith)) (every_of f l d (λ i b. h (suc i) (omega arith)))

pub every_set : {A : Type 0} (f : A → Bool) (l : List A) (i : ℕ) (x : A) → f x ≡ true → every f l ≡ true → every f (set l i x) ≡ true
every_set f [] i x h e = refl
every_set f (y ∷ l) zero x h e = both h ((and-eq-true_iff (f y) (every f l)).0 e).1
every_set f (y ∷ l) (suc i) x h e =
    let all = (and-eq-true_iff (f y) (every f l)).0 e in
    both all.0 (every_set f l i x h all.1)

same-sym : (a b : Key) → same_key a b ≡ same_key b a
same-sym a b = go (same_key a b) refl (same_key b a) refl
  where
    go : (x : Bool) → same_key a b ≡ x → (y : Bool) → same_key b a ≡ y → x ≡ y
    go true e true h = refl
    go true e false h = sym ((same_key_lem b a).1 (sym ((same_key_lem a b).0 e))) ∙ h
    go false e true h = sym e ∙ (same_key_lem a b).1 (sym ((same_key_lem b a).0 h))
    go false e false h = refl

pub apart-sym : (p q : Place) → places_apart p q ≡ places_apart q p
apart-sym p q = go (is_open p) (is_open q) _ _ (same-sym p.key q.key)
  where
    go : (a b x y : Bool) → x ≡ y → not (a && b && x) ≡ not (b && a && y)
    go true true x y e = ap not e
    go true false x y e = refl
    go false true x y e = refl
    go false false x y e = refl

two-split : (p : Place) (l : List Place) → every_two places_apart (p ∷ l) ≡ true → (every (places_apart p) l ≡ true) × (every_two places_apart l ≡ true)
two-split p l e = (and-eq-true_iff (every (places_apart p) l) (every_two places_apart l)).0 e

pub two_at : (l : List Place) (i j : ℕ) → every_two places_apart l ≡ true → i < length l → j < length l → (i ≡ j → ⊥)
    → places_apart (get_or l i no_place) (get_or l j no_place) ≡ true
two_at [] i j e a b d = let z : ⊥ = omega arith in absurd z
two_at (p ∷ l) zero zero e a b d = absurd (d refl)
two_at (p ∷ l) zero (suc j) e a b d = every-at (places_apart p) l no_place j (two-split p l e).0 (omega arith)
two_at (p ∷ l) (suc i) zero e a b d = apart-sym (get_or l i no_place) p ∙ every-at (places_apart p) l no_place i (two-split p l e).0 (omega arith)
two_at (p ∷ l) (suc i) (suc j) e a b d = two_at l i j (two-split p l e).1 (omega arith) (omega arith) (λ z. d (ap suc z))

-- a place that is apart from all others may be put
pub two-set : (l : List Place) (i : ℕ) (x : Place) → every_two places_apart l ≡ true
    → ((j : ℕ) → j < length l → (j ≡ i → ⊥) → places_apart x (get_or l j no_place) ≡ true) → every_two places_apart (set l i x) ≡ true
two-set [] i x e h = refl
two-set (p ∷ l) zero x e h =
    both (every_of (places_apart x) l no_place (λ j b. h (suc j) (omega arith) (λ z. omega arith))) (two-split p l e).1
two-set (p ∷ l) (suc i) x e h =
    let all = two-split p l e in
    both
    (every_set (places_apart p) l i x (apart-sym p x ∙ h 0 (omega arith) (λ z. omega arith)) all.0)
    (two-set l i x all.1 (λ j b d. h (suc j) (omega arith) (λ z. d (omega arith))))

-- a place of a key that no place holds is apart from all
pub apart-new : (k : Key) (x p : Place) → x.key ≡ k → holds k p ≡ false → places_apart x p ≡ true
apart-new k x p e h = go (is_open x) (is_open p) (same_key x.key p.key) (same_key p.key k) (same-sym x.key p.key ∙ ap (same_key p.key) e) h
  where
    go : (a b c d : Bool) → c ≡ d → (b && d) ≡ false → not (a && b && c) ≡ true
    go true true c d r z = ap not (r ∙ z)
    go true false c d r z = refl
    go false b c d r z = refl

-- a place of the key that another holds is apart from what that one is apart from
pub apart-own : (k : Key) (x o p : Place) → x.key ≡ k → holds k o ≡ true → places_apart o p ≡ true → places_apart x p ≡ true
apart-own k x o p e h d =
    let own = (and-eq-true_iff (is_open o) (same_key o.key k)).0 h in
    let key : o.key ≡ x.key = (same_key_lem o.key k).0 own.1 ∙ sym e in
    go (is_open x) (is_open o) (is_open p) (same_key o.key p.key) (same_key x.key p.key) own.0 (ap (λ (m : Key). same_key m p.key) key) d
  where
    go : (a b c u v : Bool) → b ≡ true → u ≡ v → not (b && c && u) ≡ true → not (a && c && v) ≡ true
    go false b c u v t r z = refl
    go true b false u v t r z = refl
    go true true true u v t r z = ap not (sym r) ∙ z
    go true false true u v t r z = cc

-- a free place is apart from all
pub apart-free : (p : Place) → places_apart free_place p ≡ true
apart-free p = refl

-- freeing places keeps the others apart
freed-apart : (test : Place → Bool) (p q : Place) → places_apart p q ≡ true → places_apart (freed_by test p) (freed_by test q) ≡ true
freed-apart test p q e = go (test p) (test q)
  where
    go : (a b : Bool) → places_apart (if a then free_place else p) (if b then free_place else q) ≡ true
    go true b = refl
    go false true = apart-sym p free_place
    go false false = e

pub every_map : {A B : Type 0} (f : A → Bool) (g : B → Bool) (h : A → B) → ((x : A) → f x ≡ true → g (h x) ≡ true)
    → (l : List A) → every f l ≡ true → every g (map h l) ≡ true
every_map f g h keep [] e = refl
every_map f g h keep (x ∷ l) e =
    let all = (and-eq-true_iff (f x) (every f l)).0 e in
    both (keep x all.0) (every_map f g h keep l all.1)

pub freed-two : (test : Place → Bool) (l : List Place) → every_two places_apart l ≡ true → every_two places_apart (map (freed_by test) l) ≡ true
freed-two test [] e = refl
freed-two test (p ∷ l) e =
    let all = two-split p l e in
    both (every_map (places_apart p) (places_apart (freed_by test p)) (freed_by test) (freed-apart test p) l all.0) (freed-two test l all.1)
