-- The header is short, and its octets stand one after the other.
use Prim.Native.Nat.{ℕ, ◌+◌, ◌≤◌}
use mathlib.Core.Path.{◌≡◌, refl, sym, ◌∙◌}
use mathlib.Core.Bool.{Bool, true, false}
use mathlib.Core.List.{List, [], ◌∷◌, ◌++◌, append_assoc}
use native.Mathlib.Nat.{add-zero}
use native.Mathlib.Omega.{arith}
use lib.Dec.{ltb}
use lib.ListN.{length}
use Rattle.octets.specs.Splice.{splice, Wrote}
use Rattle.octets.proofs.Splice.{splice-nil, wrote_then}
use Rattle.rules.specs.Layout.{context_octets, sequence_octets, is_unsegmented, addresses_octets, parameter_octets}
use Rattle.rules.specs.declared.Heading.{Heading}
use Rattle.param_write.specs.declared.Writer.{Writer}
use Rattle.param_write.specs.Writing.{Writes, control_octets}

pub context-short : (x : ℕ) → length (context_octets x) ≤ 2
context-short x = go (ltb x 128) refl
  where
    go : (b : Bool) → ltb x 128 ≡ b → length (context_octets x) ≤ 2
    go true e = simp e (omega arith)
    go false e = simp e (omega arith)

pub control-short : (g : Heading) → length (control_octets g) ≤ 3
control-short g = go (is_unsegmented g.new g.remaining.0) refl
  where
    go : (b : Bool) → is_unsegmented g.new g.remaining.0 ≡ b → length (control_octets g) ≤ 3
    go true e = simp e (omega arith)
    go false e = simp e (omega arith)

-- context, octets 2 to 3a, addresses and information, written in turn
pub written : (g : Heading) (o d information : List ℕ) {a₀ a₁ a₂ a₃ a₄ : List ℕ} {i j k l : ℕ}
    → Wrote a₀ 0 (context_octets g.context.0) a₁ i → Wrote a₁ i (control_octets g) a₂ j → Wrote a₂ j (addresses_octets g.kind o d) a₃ k
    → Wrote a₃ k information a₄ l → a₄ ≡ splice a₀ 0 (parameter_octets g o d information)
unfolding parameter_octets
written g o d information {a₀} w₁ w₂ w₃ w₄ =
    (wrote_then (wrote_then (wrote_then w₁ w₂) w₃) w₄).stored
    ∙ rw (append_assoc (context_octets g.context.0) ((128 + g.instruction) ∷ []) (sequence_octets g))

-- one step of a writer after another
pub writes_then : {a b c : Writer} {xs ys : List ℕ} → Writes a xs b → Writes b ys c → Writes a (xs ++ ys) c
writes_then f g = record { same = g.same ∙ f.same; wrote = wrote_then f.wrote g.wrote }

pub writes_none : (a : Writer) → Writes a [] a
writes_none a = record { same = refl; wrote = record { place = sym (add-zero a.at); stored = sym (splice-nil a.area.now a.at) } }

pub writes_all : (g : Heading) (o d information : List ℕ) {w₀ w₁ w₂ w₃ w₄ : Writer}
    → Writes w₀ (context_octets g.context.0) w₁ → Writes w₁ (control_octets g) w₂ → Writes w₂ (addresses_octets g.kind o d) w₃
    → Writes w₃ information w₄ → Writes w₀ (parameter_octets g o d information) w₄
unfolding parameter_octets
writes_all g o d information a b c e =
    rw (append_assoc (context_octets g.context.0) ((128 + g.instruction) ∷ []) (sequence_octets g)) (writes_then (writes_then (writes_then a b) c) e)
