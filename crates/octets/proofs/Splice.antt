-- The laws of `splice`.
use mathlib.Core.Path.{◌≡◌, refl, sym, ap, ◌∙◌}
use mathlib.Core.Bool.{Bool, true, false}
use mathlib.Core.List.{List, [], ◌∷◌, ◌++◌, append-nil}
use Prim.Native.Nat.{ℕ, zero, suc, ◌+◌, ◌-◌, ◌≤◌, ◌<◌, min}
use native.Mathlib.Nat.{zero-add, add-zero, add-suc, suc-add}
use native.Mathlib.Numerals.{add-one}
use native.Mathlib.Omega.{arith}
use borrow.Author.Tests.{leb-true, leb-false}
use borrow.Rule.Slice.PartMut.{put_mid, mid_of, post_of, mid_len}
use lib.Dec.{leb}
use lib.ListN.{length, take, drop, set, get_or, length-set, length-drop, length-append, take-append-drop, drop_of_length-le}
use lib.Seq.{sets, sets-eq, length-sets, take-suc, take_all, take_at, drop_at, length-take-le, set-append_left, set_out, take-set-le, drop-set-lt}
use Rattle.octets.specs.Splice.{splice, Wrote}

pub splice-length : (xs : List ℕ) (at : ℕ) (ys : List ℕ) → length (splice xs at ys) ≡ length xs
unfolding splice
splice-length xs at ys = length-sets xs at ys

pub splice-nil : (xs : List ℕ) (at : ℕ) → splice xs at [] ≡ xs
unfolding splice
splice-nil xs at = refl

-- where the octets fit, they stand between what was before them and what was after
pub splice-is : (xs : List ℕ) (at : ℕ) (ys : List ℕ) → at + length ys ≤ length xs → splice xs at ys ≡ take at xs ++ ys ++ drop (at + length ys) xs
unfolding splice
splice-is xs at ys h = sets-eq ys xs at h

-- two lists one after the other are two splices
pub splice-append : (xs : List ℕ) (at : ℕ) (ys zs : List ℕ) → splice xs at (ys ++ zs) ≡ splice (splice xs at ys) (at + length ys) zs
unfolding splice
splice-append xs at [] zs = rw add-zero
splice-append xs at (y ∷ ys) zs = rw (add-suc, ← suc-add) (splice-append (set xs at y) (suc at) ys zs)

-- nothing is written past the end
pub splice-past : (xs : List ℕ) (at : ℕ) (ys : List ℕ) → length xs ≤ at → splice xs at ys ≡ xs
unfolding splice
splice-past xs at [] h = refl
splice-past xs at (y ∷ ys) h = rw (set_out xs at y h) (splice-past xs (suc at) ys (omega arith))

-- so only what reaches to the end counts
pub splice-reach : (xs : List ℕ) (at n : ℕ) (ys : List ℕ) → length xs ≤ at + n → splice xs at (take n ys) ≡ splice xs at ys
splice-reach xs at n ys h = go (leb n (length ys)) refl
  where
    go : (b : Bool) → leb n (length ys) ≡ b → splice xs at (take n ys) ≡ splice xs at ys
    go true e =
        let m : length (take n ys) ≡ n = length-take-le n ys (leb-true n (length ys) e) in
        let l : length (splice xs at (take n ys)) ≤ at + length (take n ys) = rw (m, splice-length xs at (take n ys)) h in
        sym (ap (λ (zs : List ℕ). splice xs at zs) (sym (take-append-drop n ys)) ∙ splice-append xs at (take n ys) (drop n ys) ∙ splice-past _ _ (drop n ys) l)
    go false e =
        let m : length ys < n = leb-false n (length ys) e in
        rw (take_all n ys (omega arith))

-- a loop that copies: one octet more, and the end
pub splice-more : (xs ys zs : List ℕ) (at j k : ℕ) → zs ≡ splice xs at (take j ys) → k ≡ at + j → j < length ys → set zs k (get_or ys j 0) ≡ splice xs at (take (j + 1) ys)
unfolding splice
splice-more xs ys zs at j k e q h =
    let n : length (take j ys) ≡ j = length-take-le j ys (omega arith) in
    rw (e, q, add-one, take-suc ys j 0 h, splice-append xs at (take j ys) (get_or ys j 0 ∷ []), n)

pub splice-copied : (xs ys zs : List ℕ) (n : ℕ) → zs ≡ splice xs 0 (take n ys) → min (length xs) (length ys) ≤ n → zs ≡ splice xs 0 ys
splice-copied xs ys zs n e h = go (leb (length ys) n) refl
  where
    go : (b : Bool) → leb (length ys) n ≡ b → zs ≡ splice xs 0 ys
    go true q = e ∙ rw (take_all n ys (leb-true (length ys) n q))
    go false q = let l : n < length ys = leb-false (length ys) n q in e ∙ splice-reach xs 0 n ys (omega arith)

-- as many as reach are copied, and the rest of the area stays
pub splice_front : (xs ys zs : List ℕ) (n : ℕ) → n ≡ min (length xs) (length ys) → zs ≡ take n ys → zs ++ drop n xs ≡ splice xs 0 ys
splice_front xs ys zs n e q =
    let m : length (take n ys) ≡ n = length-take-le n ys (omega arith) in
    splice-copied xs ys (zs ++ drop n xs) n (rw (splice-is xs 0 (take n ys) (omega arith), q, m, zero-add) refl) (omega arith)

-- from past the end on is from the end on
pub splice_min : (xs : List ℕ) (at : ℕ) (ys : List ℕ) → splice xs (min at (length xs)) ys ≡ splice xs at ys
splice_min xs at ys = go (leb at (length xs)) refl
  where
    go : (b : Bool) → leb at (length xs) ≡ b → splice xs (min at (length xs)) ys ≡ splice xs at ys
    go true e =
        let h : at ≤ length xs = leb-true at (length xs) e in
        let m : min at (length xs) ≡ at = omega arith in
        rw m
    go false e =
        let h : length xs < at = leb-false at (length xs) e in
        let m : min at (length xs) ≡ length xs = omega arith in
        rw m (splice-past xs (length xs) ys (omega arith) ∙ sym (splice-past xs at ys (omega arith)))

-- what stands before the octets, and what stands after them, is as it was
pub splice-before : (n : ℕ) (xs : List ℕ) (at : ℕ) (ys : List ℕ) → n ≤ at → take n (splice xs at ys) ≡ take n xs
unfolding splice
splice-before n xs at [] h = refl
splice-before n xs at (y ∷ ys) h = splice-before n (set xs at y) (suc at) ys (omega arith) ∙ take-set-le n xs at y h

pub splice-after : (n : ℕ) (xs : List ℕ) (at : ℕ) (ys : List ℕ) → at + length ys ≤ n → drop n (splice xs at ys) ≡ drop n xs
unfolding splice
splice-after n xs at [] h = refl
splice-after n xs at (y ∷ ys) h =
    let g : at + suc (length ys) ≤ n = h in
    splice-after n (set xs at y) (suc at) ys (omega arith) ∙ drop-set-lt n xs at y (omega arith)

-- a part of a list, from either end
pub part-turn : (a n : ℕ) (xs : List ℕ) → drop a (take (a + n) xs) ≡ take n (drop a xs)
part-turn zero n xs = rw zero-add
part-turn (suc a) n [] = rw suc-add (none n)
  where
    none : (n : ℕ) → ◌≡◌ {A = List ℕ} [] (take n [])
    none zero = refl
    none (suc n) = refl
part-turn (suc a) n (x ∷ xs) = rw suc-add (part-turn a n xs)

-- a part that ends before the octets, or starts after them, is as it was
pub splice-below : (a n : ℕ) (xs : List ℕ) (at : ℕ) (ys : List ℕ) → a + n ≤ at → take n (drop a (splice xs at ys)) ≡ take n (drop a xs)
splice-below a n xs at ys h = sym (part-turn a n (splice xs at ys)) ∙ rw (splice-before (a + n) xs at ys h) (part-turn a n xs)

pub splice-above : (a n : ℕ) (xs : List ℕ) (at : ℕ) (ys : List ℕ) → at + length ys ≤ a → take n (drop a (splice xs at ys)) ≡ take n (drop a xs)
splice-above a n xs at ys h = rw (splice-after a xs at ys h)

-- the octets themselves are read back
pub splice-back : (xs : List ℕ) (at : ℕ) (ys : List ℕ) → at + length ys ≤ length xs → take (length ys) (drop at (splice xs at ys)) ≡ ys
splice-back xs at ys h =
    let n : length (take at xs) ≡ at = length-take-le at xs (omega arith) in
    rw (splice-is xs at ys h, drop-of-joined (take at xs) ys (drop (at + length ys) xs) at n) (take_at ys _ (length ys) refl)
  where
    drop-of-joined : (a b c : List ℕ) (n : ℕ) → length a ≡ n → drop n (a ++ b ++ c) ≡ b ++ c
    drop-of-joined a b c n e = rw mathlib.Core.List.append_assoc (drop_at a (b ++ c) n e)

sets-cons : (x : ℕ) (xs : List ℕ) (i : ℕ) (ys : List ℕ) → sets (x ∷ xs) (suc i) ys ≡ x ∷ sets xs i ys
sets-cons x xs i [] = refl
sets-cons x xs i (y ∷ ys) = sets-cons x (set xs i y) (suc i) ys

-- what is written past the first list is written in the second
splice-right : (xs ys : List ℕ) (i : ℕ) (zs : List ℕ) → splice (xs ++ ys) (length xs + i) zs ≡ xs ++ splice ys i zs
unfolding splice
splice-right [] ys i zs = rw zero-add
splice-right (x ∷ xs) ys i zs = rw (suc-add, sets-cons x (xs ++ ys) (length xs + i) zs) (ap (λ (l : List ℕ). x ∷ l) (splice-right xs ys i zs))

-- what is written within the first list leaves the second
splice-left : (xs ys : List ℕ) (i : ℕ) (zs : List ℕ) → i + length zs ≤ length xs → splice (xs ++ ys) i zs ≡ splice xs i zs ++ ys
unfolding splice
splice-left xs ys i [] h = refl
splice-left xs ys i (z ∷ zs) h =
    let g : i + suc (length zs) ≤ length xs = h in
    rw (set-append_left xs ys i z (omega arith)) (splice-left (set xs i z) ys (suc i) zs (simp length-set (omega arith)))

-- a part lent from a to e and written from its index o on is back: the whole is written from a + o on
pub splice-part : (a e o : ℕ) (xs ys zs : List ℕ) → zs ≡ splice (mid_of a (e - a) xs) o ys → a ≤ e → e ≤ length xs → o + length ys ≤ e - a
    → put_mid a (e - a) xs zs ≡ splice xs (a + o) ys
splice-part a e o xs ys zs q h g f =
    let m : length (mid_of a (e - a) xs) ≡ e - a = mid_len a e xs g in
    let n : length (take a xs) ≡ a = length-take-le a xs (omega arith) in
    let s : splice (take a xs ++ drop a xs) (length (take a xs) + o) ys ≡ take a xs ++ splice (drop a xs) o ys = splice-right (take a xs) (drop a xs) o ys in
    let t : splice (mid_of a (e - a) xs ++ post_of a (e - a) xs) o ys ≡ splice (mid_of a (e - a) xs) o ys ++ post_of a (e - a) xs =
    splice-left (mid_of a (e - a) xs) (post_of a (e - a) xs) o ys (omega arith) in
    rw q (ap (λ (l : List ℕ). take a xs ++ l) (sym t ∙ rw (take-append-drop (e - a) (drop a xs))) ∙ sym s ∙ rw (n, take-append-drop a xs))

-- the same for a part that goes to the end; it may be too short for the octets
pub splice-tail : (a : ℕ) (xs ys zs : List ℕ) → zs ≡ splice (mid_of a (length xs - a) xs) 0 ys → a ≤ length xs → put_mid a (length xs - a) xs zs ≡ splice xs a ys
splice-tail a xs ys zs q h =
    let d : length (drop a xs) ≡ length xs - a = length-drop a xs in
    let n : length (take a xs) ≡ a = length-take-le a xs h in
    let s : splice (take a xs ++ drop a xs) (length (take a xs) + 0) ys ≡ take a xs ++ splice (drop a xs) 0 ys = splice-right (take a xs) (drop a xs) 0 ys in
    rw (q, take_all (length xs - a) (drop a xs) (omega arith), drop_of_length-le (drop a xs) {i = length xs - a} (omega arith), append-nil)
    (sym s ∙ rw (n, add-zero, take-append-drop a xs))

-- the tail from a place or from the end on is lent, written and back
pub splice_rest : (xs : List ℕ) (a at : ℕ) (ys zs : List ℕ) → a ≡ min at (length xs) → zs ≡ splice (mid_of a (length xs - a) xs) 0 ys
    → put_mid a (length xs - a) xs zs ≡ splice xs at ys
splice_rest xs a at ys zs e q = splice-tail a xs ys zs q (omega arith) ∙ rw e (splice_min xs at ys)

-- one writer after another
pub wrote_then : {a b c : List ℕ} {i j k : ℕ} {xs ys : List ℕ} → Wrote a i xs b j → Wrote b j ys c k → Wrote a i (xs ++ ys) c k
wrote_then {a} {b} {c} {i} {j} {k} {xs} {ys} f g =
    record {
      place = simp length-append (omega arith);
      stored = g.stored ∙ rw (f.stored, f.place, splice-append a i xs ys);
    }
