-- Where every entry is usable, those with context 0 are the unused ones: contexts alone tell whether one is listed twice.
use Prim.Native.Nat.{ℕ}
use Rattle.std.specs.Prelude.{Option, Some, None}
use Rattle.std.specs.Borrow.{Bor}
use Rattle.std.specs.List.{find, fold}
use Rattle.std.specs.Option.{MatchOption, option_map}
use mathlib.Core.Path.{◌≡◌, refl, sym, ap, ◌∙◌}
use mathlib.Core.Bool.{Bool, true, false, not, ◌&&◌, ◌||◌, and-false, or-false, and-eq-true_iff, and_assoc, and_comm}
use mathlib.Core.List.{List, [], ◌∷◌}
use borrow.Author.Tests.{eqb-true, eqb-false, eq-eqb, ne_eqb}
use lib.Dec.{eqb}
use Rattle.rules.specs.General.{every, every_two}
use Rattle.rules.specs.Registry.{kind_of, is_unused, is_usable, entries_apart, registry_sound}
use Rattle.rules.specs.declared.Entry.{Entry}
use Rattle.registry.specs.Contexts.{has_other, contexts_apart}

-- an entry with context 0 is apart from all
pub nought-apart : (d : Entry) (es : List Entry) → d.context.0 ≡ 0 → every (contexts_apart d) es ≡ true
nought-apart d [] e = refl
nought-apart d (x ∷ es) e = rw e (nought-apart d es e)

-- any other is told from the rest by its context
pub told-by : (d : Entry) (es : List Entry) → (d.context.0 ≡ 0 → ⊥) → every (contexts_apart d) es ≡ every (has_other d.context.0) es
told-by d es n = ap (λ (b : Bool). every (λ (e : Entry). b || has_other d.context.0 e) es) (ne_eqb d.context.0 0 n)

eqb-turned : (x y : ℕ) → eqb x y ≡ eqb y x
eqb-turned x y = go (eqb y x) refl
  where
    go : (b : Bool) → eqb y x ≡ b → eqb x y ≡ b
    go true e = eq-eqb x y (sym (eqb-true y x e))
    go false e = ne_eqb x y (λ h. eqb-false y x e (sym h))

unused-is : (e : Entry) → is_usable e ≡ true → is_unused e ≡ eqb e.context.0 0
unused-is e u = go (eqb e.context.0 0) refl
  where
    go : (b : Bool) → eqb e.context.0 0 ≡ b → is_unused e ≡ b
    go true h =
        let z = eqb-true e.context.0 0 h in
        rw z (simp (z, and-false, or-false) at u)
    go false h = rw h (and-false (eqb e.kind 0))

apart-is : (d e : Entry) → is_usable d ≡ true → is_usable e ≡ true → contexts_apart d e ≡ entries_apart d e
apart-is d e u v =
    rw (unused-is d u, unused-is e v, eqb-turned e.context.0 d.context.0)
    (go d.context.0 e.context.0 (eqb d.context.0 0) refl (eqb e.context.0 0) refl)
  where
    go : (x y : ℕ) (a : Bool) → eqb x 0 ≡ a → (b : Bool) → eqb y 0 ≡ b → (a || not (eqb x y)) ≡ (a || b || not (eqb x y))
    go x y true h b g = refl
    go x y false h true g = rw (eqb-true y 0 g, h)
    go x y false h false g = refl

apart-each : (d : Entry) (es : List Entry) → is_usable d ≡ true → every is_usable es ≡ true → every (contexts_apart d) es ≡ every (entries_apart d) es
apart-each d [] u e = refl
apart-each d (x ∷ es) u e =
    let both = (and-eq-true_iff (is_usable x) (every is_usable es)).0 e in
    rw (apart-is d x u both.0, apart-each d es u both.1)

apart-all : (es : List Entry) → every is_usable es ≡ true → every_two contexts_apart es ≡ every_two entries_apart es
apart-all [] e = refl
apart-all (d ∷ es) e =
    let both = (and-eq-true_iff (is_usable d) (every is_usable es)).0 e in
    rw (apart-each d es both.0 both.1, apart-all es both.1)

pub sound-is : (es : List Entry) → (every is_usable es && every_two contexts_apart es) ≡ registry_sound es
sound-is es = go (every is_usable es) refl
  where
    go : (b : Bool) → every is_usable es ≡ b → (b && every_two contexts_apart es) ≡ (b && every_two entries_apart es)
    go true e = apart-all es e
    go false e = refl

-- the first entry of a context, where there is one, has its kind
pub kind-found : {Q : Bor Entry → Type 0} (es : List Entry) (x k : ℕ) (r : Option (Bor Entry)) → option_map (λ (b : Bor Entry). b.now) r ≡ find (λ (e : Entry). eqb e.context.0 x) es
    → MatchOption r (k ≡ 0) Q → ((b : Bor Entry) → Q b → k ≡ b.now.kind) → k ≡ kind_of es x
kind-found [] x k None same m h = m
kind-found [] x k (Some b) same m h = cc
kind-found {Q} (e ∷ es) x k r same m h = go (eqb e.context.0 x) refl r same m (λ t s n. kind-found es x k t s n h)
  where
    Found : List Entry → Option (Bor Entry) → Type 0
    Found ds t = option_map (λ (b : Bor Entry). b.now) t ≡ find (λ (d : Entry). eqb d.context.0 x) ds

    go : (b : Bool) → eqb e.context.0 x ≡ b → (t : Option (Bor Entry)) → Found (e ∷ es) t → MatchOption t (k ≡ 0) Q
        → ((t : Option (Bor Entry)) → Found es t → MatchOption t (k ≡ 0) Q → k ≡ kind_of es x) → k ≡ kind_of (e ∷ es) x
    go true a None s n later = let z = simp a at s in cc
    go true a (Some b) s n later = let z = simp a at s in simp a (h b n ∙ ap (λ (d : Entry). d.kind) (let w : b.now ≡ e = cc in w))
    go false a t s n later = simp a (later t (simp a at s) n)

-- every element passes, in one run over all of them
pub fold-every : {A : Type 0} (test : A → Bool) (b : Bool) (xs : List A) → fold (λ (ok : Bool) (x : A). ok && test x) b xs ≡ (b && every test xs)
fold-every test b [] = sym (and_comm b true)
fold-every test b (x ∷ xs) = fold-every test (b && test x) xs ∙ and_assoc b (test x) (every test xs)
