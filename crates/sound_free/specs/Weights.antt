-- Weights: numbers of four octets.
use Rattle.std.specs.Prelude.{ℕ, ◌+◌, ◌*◌, List, get_or}

-- four octets as one number, the first the least
abbrev pub word_of : ℕ → ℕ → ℕ → ℕ → ℕ
word_of a b c d = a + 256 * b + 65536 * c + 16777216 * d

-- those from an index on
abbrev pub word_at : List ℕ → ℕ → ℕ
word_at a i = word_of (get_or a i 0) (get_or a (i + 1) 0) (get_or a (i + 2) 0) (get_or a (i + 3) 0)

-- the largest number of four octets
abbrev pub word_most : ℕ
word_most = 4294967295
