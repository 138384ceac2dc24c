-- One method of a writer after another.
use Rattle.std.proofs.Common.{ℕ, List, [], ◌++◌, sym, ◌∙◌, refl, add-zero}
use Rattle.octets.proofs.Splice.{splice-nil, wrote_then}
use Rattle.trace_lines.specs.Writers.{Writes}
use Rattle.trace_lines.specs.declared.Writer.{Writer}

pub writes_then : {a b c : Writer} {xs ys : List ℕ} → Writes a xs b → Writes b ys c → Writes a (xs ++ ys) c
writes_then f g = record { same = g.same ∙ f.same; wrote = wrote_then f.wrote g.wrote }

pub writes_none : (a : Writer) → Writes a [] a
writes_none a = record { same = refl; wrote = record { place = sym (add-zero a.at); stored = sym (splice-nil a.area.now a.at) } }
