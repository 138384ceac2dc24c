-- Kinds and bodies.
use Rattle.std.specs.Prelude.{if◌then◌else◌, Option, Some, None}
use Prim.Native.Nat.{ℕ, zero, suc, ◌+◌, ◌≤◌, ◌<◌}
use mathlib.Core.Path.{◌≡◌, refl}
use mathlib.Core.Bool.{Bool, true, false}
use mathlib.Core.List.{List, [], ◌∷◌}
use native.Mathlib.Omega.{arith}
use borrow.Author.Tests.{leb-true, lt-leb, ne_eqb}
use lib.Dec.{eqb, leb}
use lib.ListN.{length, take, drop, get_or}
use Rattle.std.specs.Int.{w16, w32, from_be_bytes}
use Rattle.octets.specs.Number.{number}
use Rattle.rules.specs.Trace.{Registers, body_length, item_of}
use Rattle.rules.specs.Trace as trace
use Rattle.rules.proofs.Lists.{left}
use Rattle.trace_items.specs.Reading.{body_of, item_meant}
use Rattle.trace_items.specs.declared.Event.{Event}
use Rattle.trace_items.proofs.Items.{item_by}

pub body-registry : (kind : ℕ) → (kind ≡ 0 → ⊥) → kind < 3 → Some 2 ≡ body_of kind
body-registry zero n l = absurd (n refl)
body-registry (suc zero) n l = refl
body-registry (suc (suc zero)) n l = refl
body-registry (suc (suc (suc k))) n l = let z : ⊥ = omega arith in absurd z

pub body-unknown : (kind : ℕ) → 3 ≤ kind → (kind ≡ 32 → ⊥) → (kind ≡ 33 → ⊥) → (kind ≡ 34 → ⊥) → (kind ≡ 35 → ⊥) → None ≡ body_of kind
body-unknown kind h a b c d = go (leb 32 kind) refl
  where
    go : (t : Bool) → leb 32 kind ≡ t → None ≡ body_of kind
    go true e = let m = leb-true 32 kind e in simp (ne_eqb kind 1 (λ e. omega arith), ne_eqb kind 2 (λ e. omega arith), e, lt-leb kind 35 (omega arith))
    go false e = simp (ne_eqb kind 1 (λ e. omega arith), ne_eqb kind 2 (λ e. omega arith), e)

-- octets one by one
pub take-two : (l : List ℕ) (at : ℕ) → at + 2 ≤ length l → take 2 (drop at l) ≡ get_or l at 0 ∷ get_or l (at + 1) 0 ∷ []
take-two l at h = rw (left l 0 at (omega arith), left l 0 (at + 1) (omega arith))

pub take-four : (l : List ℕ) (at : ℕ) → at + 4 ≤ length l → take 4 (drop at l) ≡ get_or l at 0 ∷ get_or l (at + 1) 0 ∷ get_or l (at + 2) 0 ∷ get_or l (at + 3) 0 ∷ []
take-four l at h =
    let two : at + 1 + 1 ≡ at + 2 = omega arith in
    let three : at + 2 + 1 ≡ at + 3 = omega arith in
    rw (left l 0 at (omega arith), left l 0 (at + 1) (omega arith), two, left l 0 (at + 2) (omega arith), three, left l 0 (at + 3) (omega arith))

-- .. and as numbers
pub pair_at : (bs body : List ℕ) (at : ℕ) → bs ≡ take 2 (drop at body) → at + 2 ≤ length body → from_be_bytes w16 bs ≡ number (take 2 (drop at body))
pair_at bs body at e h = rw (e, take-two body at h) (omega arith)

pub word_at : (bs body : List ℕ) (at : ℕ) → bs ≡ take 4 (drop at body) → at + 4 ≤ length body → from_be_bytes w32 bs ≡ number (take 4 (drop at body))
word_at bs body at e h = rw (e, take-four body at h) (omega arith)

pub item-as : (i j : Option Event) (kind : ℕ) (body : List ℕ) → i ≡ j → item_meant i kind body ≡ item_of kind body → item_meant j kind body ≡ item_of kind body
item-as i j kind body p e = rw (← p) e

-- what registers has two octets
pub registers-two : (kind : ℕ) (body : List ℕ) → Registers (kind ∷ body) ≡ item_of kind body → body_length kind ≡ 2
registers-two kind body e = item_by (λ (i : trace.Item). Registers (kind ∷ body) ≡ i → body_length kind ≡ 2) kind body (λ x p. cc) (λ n p. n) e

pub body-most : (kind : ℕ) → body_length kind ≤ 262
body-most kind = go (eqb kind 32) (eqb kind 33) (eqb kind 34)
  where
    go : (a b d : Bool) → (if a then 8 else if b then 262 else if d then 4 else 2) ≤ 262
    go true b d = omega arith
    go false true d = omega arith
    go false false true = omega arith
    go false false false = omega arith
