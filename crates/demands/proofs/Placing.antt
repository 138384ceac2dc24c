-- One place changes, and of the store only its stretch: what is held of each key then.
use Rattle.std.specs.Prelude.{if◌then◌else◌}
use Prim.Native.Nat.{ℕ, ◌+◌, ◌≤◌, ◌<◌}
use mathlib.Core.Path.{◌≡◌, refl, sym, ap, ap₂, ◌∙◌}
use mathlib.Core.Logic.{◌≢◌}
use mathlib.Core.Bool.{Bool, true, false}
use mathlib.Core.List.{List, [], ◌∷◌, ◌++◌, append-nil}
use native.Mathlib.Nat.{zero-add}
use native.Mathlib.Omega.{arith}
use borrow.Author.Tests.{ltb-true, ltb-false}
use lib.Dec.{ltb}
use lib.ListN.{length, take, drop, get_or, set}
use lib.Seq.{take-add, drop-drop}
use Rattle.octets.proofs.Splice.{splice-below, splice-above, splice-back}
use Rattle.rules.specs.Numbers.{place_start}
use Rattle.rules.specs.Places.{same_key, no_place, is_open, holds}
use Rattle.rules.specs.Soundness.{place_sound, sound}
use Rattle.rules.specs.Receiving.{save_at}
use Rattle.rules.specs.declared.Entry.{Entry}
use Rattle.rules.specs.declared.Key.{Key}
use Rattle.rules.specs.declared.Place.{Place}
use Rattle.rules.specs.declared.Table.{Table}
use Rattle.rules.proofs.Soundness.{open-parts, free-holds}
use Rattle.rules.proofs.Keys.{same-equal}
use Rattle.rules.proofs.Held.{every-at, open_is, places-sound}
use Rattle.demands.specs.History.{Segment, filed}
use Rattle.demands.specs.Demand3.{View, view_of, held_from, owing}
use Rattle.demands.proofs.Holding.{Around, around, Single, single, nil-of, viewed, holds-other}

-- no other place's view changes
abbrev pub Apart : List ℕ → List ℕ → List Place → ℕ → Type 0
Apart store store' ps i = (j : ℕ) → j < length ps → j ≢ i → view_of store j (get_or ps j no_place) ≡ view_of store' j (get_or ps j no_place)

module _ (store store' : List ℕ) (ps : List Place) (u : Key → List Segment) (exact : (k : Key) → held_from store k 0 ps ≡ owing (u k)) (i : ℕ) (v : Place) (inside : i < length ps)
    (apart : Apart store store' ps i) where
  ar : (k : Key) → Around store store' k 0 ps i v
  ar k = around store store' k 0 ps i v inside (λ j l e. rw (zero-add j) (apart j l e))

  was : (k : Key) (b : Bool) → holds k (get_or ps i no_place) ≡ b → held_from store k 0 ps ≡ (ar k).before ++ ((if b then view_of store i (get_or ps i no_place) ∷ [] else []) ++ (ar k).behind)
  was k b e = (ar k).was ∙ ap₂ (λ (c : Bool) (n : ℕ). (ar k).before ++ ((if c then view_of store n (get_or ps i no_place) ∷ [] else []) ++ (ar k).behind)) e (zero-add i)

  is : (k : Key) (b : Bool) → holds k v ≡ b → held_from store' k 0 (set ps i v) ≡ (ar k).before ++ ((if b then view_of store' i v ∷ [] else []) ++ (ar k).behind)
  is k b e = (ar k).is ∙ ap₂ (λ (c : Bool) (n : ℕ). (ar k).before ++ ((if c then view_of store' n v ∷ [] else []) ++ (ar k).behind)) e (zero-add i)

  elsewhere : (k : Key) → holds k (get_or ps i no_place) ≡ false → holds k v ≡ false → held_from store' k 0 (set ps i v) ≡ held_from store k 0 ps
  elsewhere k a b = is k false b ∙ sym (was k false a)

  -- what the place held of its key is all that is owed of it
  own-single : (k : Key) → holds k (get_or ps i no_place) ≡ true → Single (ar k).before (view_of store i (get_or ps i no_place)) (ar k).behind (u k)
  own-single k a = single _ _ _ (u k) (sym (was k true a) ∙ exact k)

  pub own-owed : (k : Key) → holds k (get_or ps i no_place) ≡ true → view_of store i (get_or ps i no_place) ∷ [] ≡ owing (u k)
  own-owed k a = (own-single k a).mid

  abbrev now : Bool → List View
  now b = if b then view_of store' i v ∷ [] else []

  own : (k : Key) (b : Bool) → holds k (get_or ps i no_place) ≡ true → holds k v ≡ b → held_from store' k 0 (set ps i v) ≡ now b
  own k b a e =
      let s = own-single k a in
      is k b e ∙ ap₂ (λ (l m : List View). l ++ (now b ++ m)) s.left s.right ∙ append-nil (now b)

  fresh : (k : Key) (b : Bool) → held_from store k 0 ps ≡ [] → holds k (get_or ps i no_place) ≡ false → holds k v ≡ b → held_from store' k 0 (set ps i v) ≡ now b
  fresh k b e a q =
      let n = nil-of (ar k).before (ar k).behind (sym (was k false a) ∙ e) in
      is k b q ∙ ap₂ (λ (l m : List View). l ++ (now b ++ m)) n.0 n.1 ∙ append-nil (now b)

  replaced : (k : Key) (l : List Segment) → ((k' : Key) → same_key k k' ≡ false → holds k' (get_or ps i no_place) ≡ false)
      → ((k' : Key) → same_key k k' ≡ false → holds k' v ≡ false) → held_from store' k 0 (set ps i v) ≡ owing l
      → (k' : Key) → held_from store' k' 0 (set ps i v) ≡ owing (filed u k l k')
  replaced k l a b e k' = go (same_key k k') refl
    where
      go : (c : Bool) → same_key k k' ≡ c → held_from store' k' 0 (set ps i v) ≡ owing (if c then l else u k')
      go true q = rw (← same-equal k k' q) e
      go false q = elsewhere k' (a k' q) (b k' q) ∙ exact k'

  -- the place of a key: freed, or open with the same key
  pub freed : (k : Key) → holds k (get_or ps i no_place) ≡ true → is_open v ≡ false → (k' : Key) → held_from store' k' 0 (set ps i v) ≡ owing (filed u k [] k')
  freed k a b = replaced k [] (λ k' q. holds-other (get_or ps i no_place) k k' a q) (λ k' q. simp b) (own k false a (simp b))

  pub renewed : (k : Key) (l : List Segment) → holds k (get_or ps i no_place) ≡ true → holds k v ≡ true → view_of store' i v ∷ [] ≡ owing l
      → (k' : Key) → held_from store' k' 0 (set ps i v) ≡ owing (filed u k l k')
  renewed k l a b e = replaced k l (λ k' q. holds-other (get_or ps i no_place) k k' a q) (λ k' q. holds-other v k k' b q) (own k true a b ∙ e)

  -- a free place, for a key of which nothing is held
  pub started : (k : Key) (l : List Segment) → is_open (get_or ps i no_place) ≡ false → held_from store k 0 ps ≡ [] → holds k v ≡ true → view_of store' i v ∷ [] ≡ owing l
      → (k' : Key) → held_from store' k' 0 (set ps i v) ≡ owing (filed u k l k')
  started k l a n b e = replaced k l (λ k' q. simp a) (λ k' q. holds-other v k k' b q) (fresh k true n (simp a) b ∙ e)

-- The store

pub save-read : (store : List ℕ) (i at : ℕ) (octets : List ℕ) → place_start i + at + length octets ≤ length store
    → take (at + length octets) (drop (place_start i) (save_at store i at octets)) ≡ take at (drop (place_start i) store) ++ octets
save-read store i at octets h =
    take-add at (length octets) (drop (place_start i) (save_at store i at octets))
    ∙ ap₂ (λ (l m : List ℕ). l ++ m) (splice-below (place_start i) at store (place_start i + at) octets (omega arith))
    (rw (drop-drop at (place_start i) (save_at store i at octets)) (splice-back store (place_start i + at) octets h))

module _ (t : Table) (s : sound t ≡ true) where
  place_short : (registry : List Entry) (timer clock : ℕ) (p : Place) → place_sound registry timer clock p ≡ true → p.octets ≤ 2048
  place_short registry timer clock p e = go (is_open p) refl
    where
      go : (b : Bool) → is_open p ≡ b → p.octets ≤ 2048
      go true o = (open-parts registry timer clock p (open_is registry timer clock p e o)).octets
      go false o = let z = (free-holds registry timer clock p e o).0 in omega arith

  pub octets-short : (j : ℕ) → j < length t.places → (get_or t.places j no_place).octets ≤ 2048
  octets-short j l = place_short t.registry t.timer t.clock (get_or t.places j no_place) (every-at (place_sound t.registry t.timer t.clock) t.places no_place j (places-sound t s) l)

  pub apart-save : (store : List ℕ) (i at : ℕ) (octets : List ℕ) → at + length octets ≤ 2048 → Apart store (save_at store i at octets) t.places i
  apart-save store i at octets h j l ne =
      ap (λ (b : List ℕ). viewed (get_or t.places j no_place).remaining.0 (get_or t.places j no_place).segments (get_or t.places j no_place).octets
      (get_or t.places j no_place).instruction (get_or t.places j no_place).start b)
      (go (ltb j i) refl)
    where
      p : Place
      p = get_or t.places j no_place

      go : (b : Bool) → ltb j i ≡ b → take p.octets (drop (place_start j) store) ≡ take p.octets (drop (place_start j) (save_at store i at octets))
      go true e =
          let o = octets-short j l in
          let q = ltb-true j i e in
          sym (splice-below (place_start j) p.octets store (place_start i + at) octets (omega arith))
      go false e =
          let q = ltb-false j i e in
          sym (splice-above (place_start j) p.octets store (place_start i + at) octets (omega arith))
