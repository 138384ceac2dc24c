-- A loop that writes one thing after another: what is written already, and what is left, are all.
use Rattle.std.proofs.Common.{◌≡◌, ℕ, List, [], ◌++◌, refl, ◌∙◌, append_assoc, append-nil}
use Rattle.trace_lines.specs.Writers.{Writes}
use Rattle.trace_lines.specs.declared.Writer.{Writer}
use Rattle.trace_lines.proofs.Writers.{writes_none, writes_then}

pub record Writing (all : List ℕ) (before after : Writer) (left : List ℕ) : Type 0 where
  pub done : List ℕ
  pub is : all ≡ done ++ left
  pub wrote : Writes before done after

pub writing-starts : (all : List ℕ) (a : Writer) → Writing all a a all
writing-starts all a = record { done = []; is = refl; wrote = writes_none a }

pub writing-on : {all left left' xs : List ℕ} {a b c : Writer} → Writing all a b left → Writes b xs c → left ≡ xs ++ left' → Writing all a c left'
writing-on {left' = left'} {xs = xs} w x e =
    record { done = w.done ++ xs; is = w.is ∙ rw (e, append_assoc w.done xs left'); wrote = writes_then w.wrote x }

pub writing-ends : {all : List ℕ} {a b : Writer} → Writing all a b [] → Writes a all b
writing-ends w = rw (w.is, append-nil w.done) w.wrote
