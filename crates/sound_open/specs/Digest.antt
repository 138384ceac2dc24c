-- A number for each open place: those with one key have one number, so that different numbers tell keys apart.
use Rattle.std.specs.Prelude.{ℕ, ◌+◌, ◌*◌, List}
use Rattle.rules.specs.declared.Place.{Place}
use Rattle.sound_free.specs.Weights.{word_at}

-- of an address's octets the first eight, as two numbers added up
abbrev pub head_of : List ℕ → ℕ
head_of a = word_at a 0 + word_at a 4

-- of the key all but the octets of its addresses, and of those the first eight
abbrev pub digest : Place → ℕ
digest p =
    ((p.key.association * 65536 + p.key.context.0) * 256 + p.key.reference.0) * 65536
    + (p.key.origin.length * 256 + p.key.destination.length)
    + 40503 * (head_of p.key.destination.octets + 2 * head_of p.key.origin.octets)
