-- Numbers as octets, most significant octet first.
use Rattle.std.specs.Prelude.{List, [], ◌∷◌, ◌++◌, ℕ, zero, suc, ◌+◌, ◌*◌, ◌/◌, ◌%◌}

-- the number that begins with `high` and goes on with the octets
abbrev pub number_from : ℕ → List ℕ → ℕ
number_from high [] = high
number_from high (x ∷ xs) = number_from (high * 256 + x) xs

-- the octets as one number
abbrev pub number : List ℕ → ℕ
number octets = number_from 0 octets

-- a number as so many octets
abbrev pub big_endian : ℕ → ℕ → List ℕ
big_endian zero x = []
big_endian (suc width) x = big_endian width (x / 256) ++ (x % 256 ∷ [])
