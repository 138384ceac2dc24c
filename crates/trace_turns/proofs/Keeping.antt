-- Nine registry records of as many as there are: an open answers as with all of them.
use Prim.Native.Nat.{ℕ, ◌+◌, ◌%◌, ◌≤◌, ◌<◌, min}
use mathlib.Core.Path.{◌≡◌, refl, sym, ap, ◌∙◌}
use mathlib.Core.Bool.{Bool, true, false, not, ◌&&◌}
use mathlib.Core.List.{List, [], ◌∷◌, ◌++◌}
use native.Mathlib.Omega.{arith}
use borrow.Author.Tests.{leb-true, leb-false, ltb-true, ltb-false, eqb-true, lt-leb}
use lib.Dec.{eqb, leb, ltb}
use lib.ListN.{length, take, drop, length-append, length-take}
use lib.Seq.{take_all, take-append-le, take_at, length-take-le}
use Rattle.octets.proofs.Splice.{splice-is, splice-length}
use Rattle.rules.specs.Numbers.{timer_in_range}
use Rattle.rules.specs.Registry.{is_cut, lists_registry}
use Rattle.rules.specs.Opening.{opening}
use Rattle.rules.proofs.Registry.{whole_is, lists-is, opening-by}
use Rattle.trace_events.specs.Events.{registry_of, keeping}
use Rattle.trace_events.specs.declared.Replay.{Replay}

-- over eight records are refused
and-false : (a : Bool) → (a && false) ≡ false
and-false true = refl
and-false false = refl

lists-over : (s : List ℕ) → 24 < length s → lists_registry s ≡ false
lists-over s h = lists-is s ∙ rw (lt-leb (length s) 24 h, and-false (eqb (length s % 3) 0))

pub opening-nine : (s : List ℕ) (timer time : ℕ) → opening (take 27 s) timer time ≡ opening s timer time
opening-nine s timer time = go (leb (length s) 27) refl
  where
    go : (b : Bool) → leb (length s) 27 ≡ b → opening (take 27 s) timer time ≡ opening s timer time
    go true e = rw (take_all 27 s (leb-true (length s) 27 e))
    go false e =
        let m = leb-false (length s) 27 e in
        let n : length (take 27 s) ≡ 27 = length-take-le 27 s (omega arith) in
        opening-by (take 27 s) timer time (timer_in_range timer) false refl (lists-over (take 27 s) (omega arith))
        ∙ sym (opening-by s timer time (timer_in_range timer) false refl (lists-over s (omega arith)))

-- what is kept of a registry
pub record Kept (held : Replay) (registry : List ℕ) : Type 0 where
  pub is : registry_of held ≡ take 27 registry
  pub most : held.length ≤ 27
  pub area : length held.registry ≡ 27
  pub whole : is_cut registry ≡ false

-- one record more
cut-more : (s : List ℕ) (k x y : ℕ) → is_cut s ≡ false → is_cut (s ++ (k ∷ x ∷ y ∷ [])) ≡ false
cut-more [] k x y e = refl
cut-more (a ∷ []) k x y e = cc
cut-more (a ∷ b ∷ []) k x y e = cc
cut-more (a ∷ b ∷ c ∷ s) k x y e = cut-more s k x y e

module _ (held : Replay) (registry : List ℕ) (h : Kept held registry) where
  -- no more are kept than there are
  pub kept-length : held.length ≡ min 27 (length registry)
  kept-length = sym (length-take-le held.length held.registry (let m = h.most in let a = h.area in omega arith)) ∙ ap length h.is ∙ length-take 27 registry

  thirds : length registry % 3 ≡ 0
  thirds = eqb-true (length registry % 3) 0 (sym (whole_is registry) ∙ ap not h.whole)

  pub kept_more : (kind x y : ℕ) → Kept (keeping held kind (x ∷ y ∷ [])) (registry ++ (kind ∷ x ∷ y ∷ []))
  kept_more kind x y = go (ltb 24 held.length) refl
    where
      go : (b : Bool) → ltb 24 held.length ≡ b → Kept (keeping held kind (x ∷ y ∷ [])) (registry ++ (kind ∷ x ∷ y ∷ []))
      go true e =
          let m = ltb-true 24 held.length e in
          let n = kept-length in
          let t = thirds in
          simp e (record { is = h.is ∙ sym (take-append-le 27 registry (kind ∷ x ∷ y ∷ []) (omega arith)); most = h.most; area = h.area; whole = cut-more registry kind x y h.whole })
      go false e =
          let m = ltb-false 24 held.length e in
          let n = kept-length in
          let a = h.area in
          let z : List ℕ = kind ∷ x ∷ y ∷ [] in
          let f : length (take held.length held.registry) ≡ held.length = length-take-le held.length held.registry (omega arith) in
          let all : take held.length held.registry ≡ registry = h.is ∙ take_all 27 registry (omega arith) in
          let p : length (take held.length held.registry ++ z) ≡ held.length + 3 = length-append (take held.length held.registry) z ∙ rw f in
          let q : length (registry ++ z) ≤ 27 = rw length-append (omega arith) in
          simp e
          (record {
            is =
                ap (take (held.length + 3)) (splice-is held.registry held.length z (omega arith))
                ∙ take_at (take held.length held.registry ++ z) (drop (held.length + 3) held.registry) (held.length + 3) p
                ∙ rw (all, take_all 27 (registry ++ z) q);
            most = omega arith;
            area = splice-length held.registry held.length z ∙ a;
            whole = cut-more registry kind x y h.whole;
          })
