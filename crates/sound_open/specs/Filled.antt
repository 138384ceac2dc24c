-- The largest number of so many octets.
use Rattle.std.specs.Prelude.{if◌then◌else◌, ℕ, zero, suc, ◌+◌, ◌*◌, ltb}

abbrev pub most_of : ℕ → ℕ
most_of zero = 0
most_of (suc m) = 255 + 256 * most_of m

-- eight octets are taken at a time
abbrev pub capped : ℕ → ℕ
capped m = if ltb m 8 then m else 8
