-- Document 02, A2: of two parameters that are accepted, equal contexts mean equal context octets, since both are in the shortest form.
use Prim.Native.Nat.{ℕ, ◌+◌, ◌*◌, ◌/◌, ◌%◌, ◌≤◌, ◌<◌}
use mathlib.Core.Path.{◌≡◌, refl, sym, ap, ◌∙◌}
use mathlib.Core.Bool.{Bool, true, false, true≢false, and-eq-true_iff}
use mathlib.Core.List.{List, [], ◌∷◌}
use native.Mathlib.Omega.{arith}
use borrow.Author.Tests.{leb-true, leb-false, ltb-false, eqb-false, lt-ltb, le-ltb, not-true}
use lib.Dec.{leb}
use Rattle.rules.specs.Refusals.{accepted}
use Rattle.rules.specs.Layout.{octet, context_of, context_part, context_checks, reading_checks, context_octets}
use Rattle.rules.specs.declared.Entry.{Entry}
use Rattle.rules.proofs.Reading.{context-accepted}

-- one octet, and two
shortest-one : (x : ℕ) → 128 ≤ x → x < 256 → x ∷ [] ≡ context_octets (x % 128)
shortest-one x last small =
    let low : x % 128 < 128 = omega arith in
    let same : 128 + x % 128 ≡ x = omega arith in
    simp (lt-ltb _ _ low, same)

shortest-two : (x y : ℕ) → x < 128 → 128 ≤ y → y < 256 → (y % 128 ≡ 0 → ⊥) → x ∷ y ∷ [] ≡ context_octets (x % 128 + 128 * (y % 128))
shortest-two x y first last small upper =
    let x-is : x % 128 ≡ x = omega arith in
    let y-is : 128 + y % 128 ≡ y = omega arith in
    let over : 128 ≤ x + 128 * (y % 128) = omega arith in
    let low : (x + 128 * (y % 128)) % 128 ≡ x = omega arith in
    let high : (x + 128 * (y % 128)) / 128 ≡ y % 128 = omega arith in
    simp (x-is, le-ltb _ _ over, low, high, y-is)

-- by the checks of the context
by-context : (registry : List Entry) (s : List ℕ) → accepted (context_checks registry s) ≡ true → octet s 0 < 256 → octet s 1 < 256
    → context_part s ≡ context_octets (context_of s)
by-context registry [] e o1 o1a = absurd (true≢false (sym e))
by-context registry (x ∷ rest) e o1 o1a = go (leb 128 x) refl rest e o1a
  where
    go : (b : Bool) → leb 128 x ≡ b → (rest : List ℕ) → accepted (context_checks registry (x ∷ rest)) ≡ true → octet (x ∷ rest) 1 < 256
        → context_part (x ∷ rest) ≡ context_octets (context_of (x ∷ rest))
    go true t rest e o1a = simp t (shortest-one x (leb-true _ _ t) o1)
    go false t [] e o1a = let c = simp (t, and-eq-true_iff) at e in absurd (true≢false (sym c.1.0))
    go false t (y ∷ rest) e o1a =
        let c = simp (t, and-eq-true_iff) at e in
        simp t (shortest-two x y (leb-false _ _ t) (ltb-false y 128 (not-true _ c.1.1.0)) o1a (eqb-false _ _ (not-true _ c.1.1.1.0)))

module _ (registry : List Entry) (s : List ℕ) (e : accepted (reading_checks registry s) ≡ true) (octet1 : octet s 0 < 256) (octet1a : octet s 1 < 256) where
  -- the context octets of an accepted parameter are those that we write ourselves
  pub shortest : context_part s ≡ context_octets (context_of s)
  shortest = by-context registry s (context-accepted registry s e) octet1 octet1a

-- whatever was registered when they were read
pub equal-octets : (r r' : List Entry) (s s' : List ℕ) → accepted (reading_checks r s) ≡ true → accepted (reading_checks r' s') ≡ true
    → octet s 0 < 256 → octet s 1 < 256 → octet s' 0 < 256 → octet s' 1 < 256 → context_of s ≡ context_of s' → context_part s ≡ context_part s'
equal-octets r r' s s' e e' o1 o1a o1' o1a' same = shortest r s e o1 o1a ∙ ap context_octets same ∙ sym (shortest r' s' e' o1' o1a')
