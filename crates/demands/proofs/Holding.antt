-- Laws of what a table and a store hold of a key, and of what they must hold.
use Rattle.std.specs.Prelude.{if◌then◌else◌}
use Prim.Native.Nat.{ℕ, zero, suc, ◌+◌, ◌<◌}
use mathlib.Core.Path.{◌≡◌, refl, sym, ap, ap₂, ◌∙◌}
use mathlib.Core.Logic.{◌≢◌}
use mathlib.Core.Bool.{Bool, true, false, and-eq-true_iff}
use mathlib.Core.List.{List, [], ◌∷◌, ◌++◌, append-nil, append_assoc}
use native.Mathlib.Nat.{add-zero}
use native.Mathlib.Omega.{arith}
use lib.ListN.{length, get_or, set, length-append}
use Rattle.rules.specs.Places.{same_key, no_place, is_open, holds}
use Rattle.rules.specs.declared.Key.{Key}
use Rattle.rules.specs.declared.Place.{Place}
use Rattle.rules.proofs.Keys.{same-equal, same_self}
use Rattle.demands.specs.History.{Segment, Cover, joined, last_remaining, filed}
use Rattle.demands.specs.Demand3.{Counted, View, view_of, held_from, owing}

-- what place i holds of a key
abbrev pub here : List ℕ → Key → ℕ → Place → List View
here store k i p = if holds k p then view_of store i p ∷ [] else []

pub held_cons : (store : List ℕ) (k : Key) (i : ℕ) (p : Place) (ps : List Place) → held_from store k i (p ∷ ps) ≡ here store k i p ++ held_from store k (suc i) ps
held_cons store k i p ps = go (holds k p)
  where
    go : (b : Bool) → (if b then view_of store i p ∷ held_from store k (suc i) ps else held_from store k (suc i) ps) ≡ (if b then view_of store i p ∷ [] else []) ++ held_from store k (suc i) ps
    go true = refl
    go false = refl

-- the views of the places, but for one, do not change
abbrev pub Same : List ℕ → List ℕ → ℕ → List Place → Type 0
Same store store' i ps = (j : ℕ) → j < length ps → view_of store (i + j) (get_or ps j no_place) ≡ view_of store' (i + j) (get_or ps j no_place)

turn : (i j : ℕ) → i + suc j ≡ suc i + j
turn i j = omega arith

same-tail : (store store' : List ℕ) (i : ℕ) (p : Place) (ps : List Place) → Same store store' i (p ∷ ps) → Same store store' (suc i) ps
same-tail store store' i p ps same j h = rw (turn i j) at (same (suc j) (omega arith))

pub agree : (store store' : List ℕ) (k : Key) (i : ℕ) (ps : List Place) → Same store store' i ps → held_from store k i ps ≡ held_from store' k i ps
agree store store' k i [] same = refl
agree store store' k i (p ∷ ps) same =
    ap₂ (λ (w : View) (l : List View). if holds k p then w ∷ l else l) (rw add-zero at (same 0 (omega arith)))
    (agree store store' k (suc i) ps (same-tail store store' i p ps same))

-- the views before and behind a place; what stands there and its stretch may change
pub record Around (store store' : List ℕ) (k : Key) (i : ℕ) (ps : List Place) (n : ℕ) (v : Place) : Type 0 where
  pub before : List View
  pub behind : List View
  pub was : held_from store k i ps ≡ before ++ (here store k (i + n) (get_or ps n no_place) ++ behind)
  pub is : held_from store' k i (set ps n v) ≡ before ++ (here store' k (i + n) v ++ behind)

pub around : (store store' : List ℕ) (k : Key) (i : ℕ) (ps : List Place) (n : ℕ) (v : Place) → n < length ps
    → ((j : ℕ) → j < length ps → j ≢ n → view_of store (i + j) (get_or ps j no_place) ≡ view_of store' (i + j) (get_or ps j no_place)) → Around store store' k i ps n v
around store store' k i [] n v h same = let z : ⊥ = omega arith in absurd z
around store store' k i (p ∷ ps) zero v h same =
    record {
      before = [];
      behind = held_from store k (suc i) ps;
      was = rw add-zero (held_cons store k i p ps);
      is =
          rw add-zero (held_cons store' k i v ps
          ∙ ap (λ (l : List View). here store' k i v ++ l) (sym (agree store store' k (suc i) ps (λ j l. rw (turn i j) at (same (suc j) (omega arith) (omega arith))))));
    }
around store store' k i (p ∷ ps) (suc n) v h same =
    let r = around store store' k (suc i) ps n v (omega arith) (λ j l e. rw (turn i j) at (same (suc j) (omega arith) (omega arith))) in
    record {
      before = here store k i p ++ r.before;
      behind = r.behind;
      was =
          rw (turn i n) (held_cons store k i p ps ∙ ap (λ (l : List View). here store k i p ++ l) r.was
          ∙ sym (append_assoc (here store k i p) r.before (here store k (suc i + n) (get_or ps n no_place) ++ r.behind)));
      is =
          rw (turn i n) (held_cons store' k i p (set ps n v)
          ∙ ap₂ (λ (w : View) (l : List View). (if holds k p then w ∷ [] else []) ++ l) (sym (rw add-zero at (same 0 (omega arith) (omega arith)))) r.is
          ∙ sym (append_assoc (here store k i p) r.before (here store' k (suc i + n) v ++ r.behind)));
    }

pub none-held : (store : List ℕ) (k : Key) (i : ℕ) (ps : List Place) → ((j : ℕ) → j < length ps → holds k (get_or ps j no_place) ≡ false) → held_from store k i ps ≡ []
none-held store k i [] h = refl
none-held store k i (p ∷ ps) h = simp (h 0 (omega arith)) (none-held store k (suc i) ps (λ j l. h (suc j) (omega arith)))

-- Lists of views

pub nil-of : (a b : List View) → a ++ b ≡ [] → (a ≡ []) × (b ≡ [])
nil-of [] b e = (refl, e)
nil-of (x ∷ a) b e = absurd (let z : ◌≡◌ {A = ℕ} 0 1 = cc in omega arith)

no-cons : (a : List View) (x : View) (b : List View) → a ++ x ∷ b ≡ [] → ⊥
no-cons [] x b e = let z : ◌≡◌ {A = ℕ} 0 1 = cc in omega arith
no-cons (y ∷ a) x b e = let z : ◌≡◌ {A = ℕ} 0 1 = cc in omega arith

pub owing-none : (l : List Segment) → owing l ≡ [] → l ≡ []
owing-none [] e = refl
owing-none (y ∷ l) e = absurd (let z : ◌≡◌ {A = ℕ} 0 1 = cc in omega arith)

-- one view among others that are all that is owed is all of it
pub record Single (a : List View) (x : View) (b : List View) (l : List Segment) : Type 0 where
  pub left : a ≡ []
  pub right : b ≡ []
  pub mid : x ∷ [] ≡ owing l

pub single : (a : List View) (x : View) (b : List View) (l : List Segment) → a ++ x ∷ b ≡ owing l → Single a x b l
single [] x b [] e = absurd (let z : ◌≡◌ {A = ℕ} 0 1 = cc in omega arith)
single [] x b (y ∷ l) e = let n : b ≡ [] = cc in record { left = refl; right = n; mid = rw n at e }
single (w ∷ a) x b [] e = absurd (let z : ◌≡◌ {A = ℕ} 0 1 = cc in omega arith)
single (w ∷ a) x b (y ∷ l) e = absurd (no-cons a x b (cc))

-- a view that is what is owed
pub record Tells (w : View) (x : Segment) (l : List Segment) : Type 0 where
  pub remaining : w.remaining ≡ last_remaining x l
  pub segments : w.segments ≡ length (x ∷ l)
  pub octets : w.octets ≡ length (joined (x ∷ l))
  pub instruction : w.instruction ≡ x.instruction
  pub start : w.start ≡ x.time
  pub saved : w.saved ≡ joined (x ∷ l)

abbrev head_of : View → List View → View
head_of d [] = d
head_of d (x ∷ l) = x

pub tells : (w : View) (x : Segment) (l : List Segment) → w ∷ [] ≡ owing (x ∷ l) → Tells w x l
tells w x l e =
    let q = ap (λ (m : List View). head_of w m) e in
    record {
      remaining = ap (λ (v : View). v.remaining) q;
      segments = ap (λ (v : View). v.segments) q;
      octets = ap (λ (v : View). v.octets) q;
      instruction = ap (λ (v : View). v.instruction) q;
      start = ap (λ (v : View). v.start) q;
      saved = ap (λ (v : View). v.saved) q;
    }

joined-more : (l : List Segment) (x : Segment) → joined (l ++ (x ∷ [])) ≡ joined l ++ x.octets
joined-more [] x = append-nil x.octets
joined-more (y ∷ l) x = ap (λ (m : List ℕ). y.octets ++ m) (joined-more l x) ∙ sym (append_assoc y.octets (joined l) x.octets)

pub last_more : (y : Segment) (l : List Segment) (x : Segment) → last_remaining y (l ++ (x ∷ [])) ≡ x.remaining
last_more y [] x = refl
last_more y (z ∷ l) x = last_more z l x

abbrev pub viewed : ℕ → ℕ → ℕ → ℕ → ℕ → List ℕ → View
viewed r n o i t b = record { remaining = r; segments = n; octets = o; instruction = i; start = t; saved = b }

-- one segment more
module _ (w : View) (x : Segment) where
  pub joined-owed : (l : List Segment) → w ∷ [] ≡ owing l → joined (l ++ (x ∷ [])) ≡ w.saved ++ x.octets
  joined-owed [] e = absurd (let z : ◌≡◌ {A = ℕ} 0 1 = cc in omega arith)
  joined-owed (y ∷ l) e = joined-more (y ∷ l) x ∙ rw (tells w y l e).saved

  more-count : (y : Segment) (l : List Segment) → Tells w y l → w.segments + 1 ≡ length (y ∷ l ++ (x ∷ []))
  more-count y l t = let e = t.segments in simp length-append (omega arith)

  more-size : (y : Segment) (l : List Segment) → Tells w y l → w.octets + length x.octets ≡ length (joined (y ∷ l ++ (x ∷ [])))
  more-size y l t = let e = t.octets in let m = length-append (joined (y ∷ l)) x.octets in let j = ap length (joined-more (y ∷ l) x) in omega arith

  pub owing-more : (l : List Segment) → w ∷ [] ≡ owing l
      → viewed x.remaining (w.segments + 1) (w.octets + length x.octets) w.instruction w.start (w.saved ++ x.octets) ∷ [] ≡ owing (l ++ (x ∷ []))
  owing-more [] e = absurd (let z : ◌≡◌ {A = ℕ} 0 1 = cc in omega arith)
  owing-more (y ∷ l) e =
      let t = tells w y l e in
      let r = last_more y l x in
      let n = more-count y l t in
      let o = more-size y l t in
      let i = t.instruction in
      let s = t.start in
      let b = joined-owed (y ∷ l) e in
      λ j. viewed (sym r j) (n j) (o j) (i j) (s j) (sym b j) ∷ []

  pub counted-more : (l : List Segment) (c : Cover) → w ∷ [] ≡ owing l → c.made.segments ≡ w.segments + 1 → c.made.octets ≡ w.octets + length x.octets → c.made.instruction ≡ w.instruction
      → Counted c (l ++ (x ∷ []))
  counted-more [] c e a b d = absurd (let z : ◌≡◌ {A = ℕ} 0 1 = cc in omega arith)
  counted-more (y ∷ l) c e a b d = let t = tells w y l e in (a ∙ more-count y l t, b ∙ more-size y l t, d ∙ t.instruction)

pub counted-all : (w : View) (l : List Segment) (c : Cover) → w ∷ [] ≡ owing l → c.made.segments ≡ w.segments → c.made.octets ≡ w.octets → c.made.instruction ≡ w.instruction
    → Counted c l
counted-all w [] c e a b d = absurd (let z : ◌≡◌ {A = ℕ} 0 1 = cc in omega arith)
counted-all w (y ∷ l) c e a b d = let t = tells w y l e in (a ∙ t.segments, b ∙ t.octets, d ∙ t.instruction)

-- The history

pub filed-same : (h : Key → List Segment) (k : Key) (l : List Segment) → filed h k l k ≡ l
filed-same h k l = rw (same_self k)

pub filed-again : (h : Key → List Segment) (k : Key) (a b : List Segment) (k' : Key) → filed (filed h k a) k b k' ≡ filed h k b k'
filed-again h k a b k' = go (same_key k k')
  where
    go : (c : Bool) → (if c then b else if c then a else h k') ≡ (if c then b else h k')
    go true = refl
    go false = refl

pub filed-none : (h : Key → List Segment) (k : Key) → h k ≡ [] → (k' : Key) → filed h k [] k' ≡ h k'
filed-none h k e k' = go (same_key k k') refl
  where
    go : (b : Bool) → same_key k k' ≡ b → (if b then [] else h k') ≡ h k'
    go true q = sym e ∙ ap h (same-equal k k' q)
    go false q = refl

-- a place that holds a key holds no other
pub holds-other : (p : Place) (k k' : Key) → holds k p ≡ true → same_key k k' ≡ false → holds k' p ≡ false
holds-other p k k' e q =
    let both = (and-eq-true_iff (is_open p) (same_key p.key k)).0 e in
    simp both.0 (rw (same-equal p.key k both.1) q)
