-- The associations of used rows as a list: what the code tells apart and looks up.
use Rattle.std.specs.Prelude.{if◌then◌else◌, ℕ, zero, suc, ◌<◌, ◌≤◌, ◌%◌, ◌≡◌, Bool, true, not, ◌&&◌, List, [], ◌∷◌, eqb, leb}
use Rattle.rules.specs.General.{every}
use Rattle.rules.specs.Places.{is_at}
use Rattle.rules.specs.Summary.{every_below, every_pair, row_count, number_at, is_unused, is_bare, row_sound, rows_apart, row_of}

-- a number that is another
abbrev pub is_other : ℕ → ℕ → Bool
is_other x y = not (eqb y x)

-- what the chosen numbers below n have, the last of them first
abbrev pub of_those : (ℕ → Bool) → (ℕ → ℕ) → ℕ → List ℕ
of_those chosen value zero = []
of_those chosen value (suc n) = if chosen n then value n ∷ of_those chosen value n else of_those chosen value n

-- the low half of a row's association, which in a sound row is all of it
abbrev pub low_of : List ℕ → ℕ → ℕ
low_of m row = number_at m 1 row % 65536

-- an association that is in range
abbrev pub name_fits : List ℕ → ℕ → Bool
name_fits m row = leb (number_at m 1 row) 65535

-- rows from one on that are not used
abbrev pub EmptyFrom : List ℕ → ℕ → ℕ → Type 0
EmptyFrom m at n = (row : ℕ) → at ≤ row → row < n → (is_unused m row && is_bare m row) ≡ true

-- one of the list
abbrev pub listed_in : List ℕ → ℕ → Bool
listed_in l x = not (every (is_other x) l)

-- an association that has a row
abbrev pub has_row : List ℕ → ℕ → Bool
has_row m association = is_at (row_of m association)

-- a summary that is sound beside open places of these associations
abbrev pub sound_beside : List ℕ → List ℕ → Bool
sound_beside m names = every_below row_count (row_sound m) && every_pair row_count (rows_apart m) && every (has_row m) names
