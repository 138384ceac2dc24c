-- Section 'Receiving', the delivery: a part of the parameter or a part of the store, according to the answer.
use Rattle.std.specs.Prelude.{if◌then◌else◌, ℕ, ◌+◌, ◌&&◌, List, [], leb, ltb, length, take, drop}
use Rattle.rules.specs.Numbers.{place_count, stretch_length, place_start}
use Rattle.rules.specs.declared.Part.TheVariants.{OfParameter, OfStore}
use Rattle.rules.specs.declared.Decision.{Decision}
use Rattle.rules.specs.declared.Decision.TheVariants.{Refused, Saved, Delivered, Lost}

-- so many octets of a list from a position on; a part not inside is empty
abbrev pub part_of : List ℕ → ℕ → ℕ → List ℕ
part_of s start n = if leb (start + n) (length s) then take n (drop start s) else []

-- the same from a place's start; the part is inside the place's own stretch
abbrev pub part_of_place : List ℕ → ℕ → ℕ → List ℕ
part_of_place store place n = if ltb place place_count && leb n stretch_length then part_of store (place_start place) n else []

-- any other answer gives an empty part
unfoldable pub delivery : Decision → List ℕ → List ℕ → List ℕ
delivery Refused s store = []
delivery (Saved place) s store = []
delivery (Delivered (OfParameter start n)) s store = part_of s start n
delivery (Delivered (OfStore place n)) s store = part_of_place store place n
delivery (Lost cause place) s store = []
