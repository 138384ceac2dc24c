-- Hints by the low octet: where none is met a number is new. A hint says besides where in the list the last such number is, of which nothing need be known.
use Rattle.std.specs.Prelude.{if◌then◌else◌, reverse}
use Prim.Native.Nat.{ℕ, ◌+◌, ◌-◌, ◌<◌, ◌≤◌, ◌%◌}
use mathlib.Core.Path.{◌≡◌, refl, sym, ap, ◌∙◌}
use mathlib.Core.Bool.{Bool, true, false, not, ◌&&◌, and-eq-true_iff, and-true, and_comm, true≢false}
use mathlib.Core.List.{List, [], ◌∷◌, ◌++◌}
use native.Mathlib.Omega.{arith}
use native.Mathlib.Numerals.{add-one}
use borrow.Author.Tests.{eqb-true, eqb-false, ne_eqb}
use lib.Dec.{eqb}
use lib.ListN.{length, get_or, set, length-set, replicate}
use lib.Seq.{get_or-set_same, get_or-set_other}
use Rattle.rules.specs.General.{every, every_two}
use Rattle.std.proofs.lemmas.List.{length-reverse, reverse-append, length-append}
use Rattle.std.proofs.lemmas.List.Folds.{list_all-append}
use Rattle.sound_rows.specs.Listing.{is_other, of_those, listed_in}
use Rattle.sound_rows.proofs.Counted.{no_more, all-met}

-- a number for whose low octet there is a hint
abbrev hinted : List ℕ → ℕ → Bool
hinted hints x = not (eqb (get_or hints (x % 256) 0) 0)

module _ (hints : List ℕ) (k v : ℕ) (inside : k < length hints) (some : v ≡ 0 → ⊥) where
  hinted-still : (x : ℕ) → hinted hints x ≡ true → hinted (set hints k v) x ≡ true
  hinted-still x e = go (eqb (x % 256) k) refl
    where
      go : (b : Bool) → eqb (x % 256) k ≡ b → hinted (set hints k v) x ≡ true
      go true s = let same : x % 256 ≡ k = eqb-true (x % 256) k s in rw (same, get_or-set_same hints k v 0 inside, ne_eqb v 0 some)
      go false s = rw (get_or-set_other hints k (x % 256) v 0 (eqb-false (x % 256) k s)) e

  all-still : (l : List ℕ) → every (hinted hints) l ≡ true → every (hinted (set hints k v)) l ≡ true
  all-still [] e = refl
  all-still (x ∷ l) e =
      let both = (and-eq-true_iff (hinted hints x) (every (hinted hints) l)).0 e in
      (and-eq-true_iff (hinted (set hints k v) x) (every (hinted (set hints k v)) l)).1 (hinted-still x both.0, all-still l both.1)

module _ (hints : List ℕ) (x : ℕ) (fresh : hinted hints x ≡ false) where
  other-than : (y : ℕ) → hinted hints y ≡ true → is_other x y ≡ true
  other-than y f = go (eqb y x) refl
    where
      go : (b : Bool) → eqb y x ≡ b → not b ≡ true
      go true s = absurd (true≢false (sym f ∙ ap (hinted hints) (eqb-true y x s) ∙ fresh))
      go false s = refl

  all-other : (l : List ℕ) → every (hinted hints) l ≡ true → every (is_other x) l ≡ true
  all-other [] f = refl
  all-other (y ∷ l) f =
      let both = (and-eq-true_iff (hinted hints y) (every (hinted hints) l)).0 f in
      (and-eq-true_iff (is_other x y) (every (is_other x) l)).1 (other-than y both.0, all-other l both.1)

-- the order in which they stand does not matter to a test of each
pub every-back : {A : Type 0} (test : A → Bool) (l : List A) → every test l ≡ every test (reverse l)
every-back test [] = refl
every-back test (x ∷ l) =
    let back : every test (reverse (x ∷ l)) ≡ (every test (reverse l) && every test (x ∷ [])) =
    ap (every test) (reverse-append (x ∷ []) l) ∙ list_all-append test (reverse l) (x ∷ []) in
    rw (back, and-true (test x), every-back test l) (and_comm (test x) (every test (reverse l)))

pub listed-back : (l names : List ℕ) → every (listed_in l) names ≡ every (listed_in (reverse l)) names
listed-back l [] = refl
listed-back l (x ∷ names) = rw (every-back (is_other x) l, listed-back l names)

-- what is known before number i: the values of those chosen are the list, each is hinted, and whether two are the same
pub record Known (chosen : ℕ → Bool) (value : ℕ → ℕ) (list hints : List ℕ) (apart : Bool) (i : ℕ) : Type 0 where
  pub flags : length hints ≡ 256
  pub first : reverse list ≡ of_those chosen value i
  pub each : every (hinted hints) (reverse list) ≡ true
  pub told : apart ≡ every_two is_other (reverse list)

pub none_yet : (chosen : ℕ → Bool) (value : ℕ → ℕ) (list : List ℕ) → list ≡ [] → Known chosen value list (replicate 256 0) true 0
none_yet chosen value list e = rw e (record { flags = refl; first = refl; each = refl; told = refl })

pub longer : (list more : List ℕ) (x : ℕ) → more ≡ list ++ x ∷ [] → length more ≡ length list + 1
longer list more x e = rw e (length-append list (x ∷ []))

module _ (chosen : ℕ → Bool) (value : ℕ → ℕ) (list hints : List ℕ) (apart : Bool) (i : ℕ) (inv : Known chosen value list hints apart i) where
  listed : length list ≡ length (of_those chosen value i)
  listed = sym (length-reverse list) ∙ ap length inv.first

  -- those still to come have room in what is left, and once none is to come the list is whole
  pub to-come : (most used : ℕ) → used ≡ length (of_those chosen value most) → i ≤ most → used + i ≤ length list + most
  to-come most used e h = omega (arith, e, listed, no_more chosen value (most - i) i most (omega (arith, h)))

  pub whole : (most used : ℕ) → used ≡ length (of_those chosen value most) → i ≤ most → used ≤ length list → of_those chosen value most ≡ of_those chosen value i
  whole most used e h f = all-met chosen value (most - i) i most (omega (arith, h)) (omega (arith, e, listed, f))

  pub passed : chosen i ≡ false → Known chosen value list hints apart (i + 1)
  passed e = record { flags = inv.flags; first = rw (add-one i, e) inv.first; each = inv.each; told = inv.told }

  -- one more, which is looked for only where there is a hint
  pub added : chosen i ≡ true → (x : ℕ) → x ≡ value i → (v : ℕ) → (v ≡ 0 → ⊥)
      → (new : Bool) → new ≡ (if eqb (get_or hints (x % 256) 0) 0 then true else every (is_other x) list)
      → Known chosen value (list ++ x ∷ []) (set hints (x % 256) v) (new && apart) (i + 1)
  added e x ex v some new en =
      let flags = inv.flags in
      let flag : x % 256 < length hints = omega arith in
      let more : reverse (list ++ x ∷ []) ≡ x ∷ reverse list = reverse-append list (x ∷ []) in
      record {
        flags = simp length-set flags;
        first = more ∙ rw (add-one i, e, ex, inv.first);
        each = rw (more, get_or-set_same hints (x % 256) v 0 flag, ne_eqb v 0 some) (all-still hints (x % 256) v flag some (reverse list) inv.each);
        told = rw (more, ← inv.told) (ap (λ (b : Bool). b && apart) (en ∙ rw (every-back (is_other x) list) (go (eqb (get_or hints (x % 256) 0) 0) refl)));
      }
    where
      go : (b : Bool) → eqb (get_or hints (x % 256) 0) 0 ≡ b → (if b then true else every (is_other x) (reverse list)) ≡ every (is_other x) (reverse list)
      go true f =
          let fresh : hinted hints x ≡ false = rw f in
          sym (all-other hints x fresh (reverse list) inv.each)
      go false f = refl
