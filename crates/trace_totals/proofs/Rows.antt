-- Rows one after the other; a row's line by pairs of numbers.
use Rattle.std.specs.Prelude.{if◌then◌else◌}
use Prim.Native.Nat.{ℕ, ◌+◌}
use mathlib.Core.Path.{◌≡◌, ap}
use mathlib.Core.List.{List, [], ◌∷◌, ◌++◌, append_assoc}
use native.Mathlib.Numerals.{add-one}
use native.Mathlib.Nat.{zero-add}
use lib.Dec.{eqb}
use lib.ListN.{get_or}
use Rattle.trace_lines.specs.Writers.{Writes}
use Rattle.trace_lines.specs.declared.Writer.{Writer}
use Rattle.trace_lines.proofs.Writers.{writes_then}
use Rattle.rules.specs.Summary.{number_at, is_used}
use Rattle.rules.specs.Lines.{decimal}
use Rattle.rules.specs.Totalling.{row_line, rows_below, row_lines}
use Rattle.trace_totals.specs.Pairs.{pair_of}

-- a row's line is its association and three pairs of numbers
pub line-is : (m : List ℕ) (row : ℕ) → decimal (number_at m 1 row) ++ pair_of m 2 row ++ pair_of m 4 row ++ pair_of m 6 row ++ (10 ∷ []) ≡ row_line m row
unfolding row_line
line-is m row = ap (λ (l : List ℕ). l ++ (10 ∷ [])) (pairs (decimal (number_at m 1 row)) _ _ _ _ _ _)
  where
    pairs : (n a b c d e f : List ℕ) → n ++ (a ++ b) ++ (c ++ d) ++ (e ++ f) ≡ n ++ a ++ b ++ c ++ d ++ e ++ f
    pairs n a b c d e f = rw (append_assoc n a b, append_assoc (n ++ (a ++ b)) c d, append_assoc (n ++ (a ++ b) ++ (c ++ d)) e f)

-- the first column stands at the front
pub used_is : (m : List ℕ) (row : ℕ) → is_used m row ≡ eqb (get_or m row 0) 1
used_is m row = rw (zero-add row)

-- one row more, used or not
pub rows_next : {a b c : Writer} (m : List ℕ) (n : ℕ) → Writes a (rows_below n m) b → Writes b (if is_used m n then row_line m n else []) c → Writes a (rows_below (n + 1) m) c
rows_next m n f g = rw (add-one n) (writes_then f g)

-- 64 are all
pub rows_all : {a b : Writer} (m : List ℕ) (n : ℕ) → n ≡ 64 → Writes a (rows_below n m) b → Writes a (row_lines m) b
unfolding row_lines
rows_all m n e w = rw e at w
