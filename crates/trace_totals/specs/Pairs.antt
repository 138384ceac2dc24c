-- A row's line, as it is written: the association, and three pairs of numbers.
use Rattle.std.specs.Prelude.{ℕ, ◌+◌, List, ◌++◌}
use Rattle.rules.specs.Summary.{number_at}
use Rattle.rules.specs.Lines.{field}

-- a row's numbers in a column and the next
abbrev pub pair_of : List ℕ → ℕ → ℕ → List ℕ
pair_of m column row = field (number_at m column row) ++ field (number_at m (column + 1) row)
