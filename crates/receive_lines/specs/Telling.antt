-- What the choice of a line tells of a segment.
use Rattle.std.specs.Prelude.{ℕ, ◌+◌, ◌≤◌, ◌≡◌, Bool, true, false}
use Rattle.rules.specs.Numbers.{data_most}
use Rattle.rules.specs.declared.Line.{Line}
use Rattle.rules.specs.declared.Line.TheVariants.{Unsegmented, Broken, Restart, Start, Final, Next}

-- what a line tells of the key's sequence, with `saved` octets, and of the n octets of the segment
abbrev pub Tells : Bool → ℕ → ℕ → Line → Type 0
Tells is_open saved n Unsegmented = Unit {0}
Tells is_open saved n (Broken cause) = Unit {0}
Tells is_open saved n Restart = is_open ≡ true
Tells is_open saved n Start = is_open ≡ false
Tells is_open saved n Final = (is_open ≡ true) × (saved + n ≤ data_most)
Tells is_open saved n Next = (is_open ≡ true) × (saved + n ≤ data_most)
