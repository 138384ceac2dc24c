-- Places, and the key that tells sequences apart.
use Rattle.std.specs.Prelude.{if◌then◌else◌, ℕ, ◌+◌, Bool, true, false, ◌&&◌, List, [], ◌∷◌, eqb, get_or, set, replicate, Option, Some, None}
use Rattle.std.specs.List.{position_from}
use Rattle.rules.specs.Numbers.{address_most, place_count}
use Rattle.rules.specs.declared.Address.{Address}
use Rattle.rules.specs.declared.Key.{Key}
use Rattle.rules.specs.declared.Place.{Place}

-- the same octets, as many
abbrev pub same_octets : List ℕ → List ℕ → Bool
same_octets [] [] = true
same_octets [] (y ∷ ys) = false
same_octets (x ∷ xs) [] = false
same_octets (x ∷ xs) (y ∷ ys) = eqb x y && same_octets xs ys

-- an address is its length and its octets, and never their number's value
unfoldable pub same_address : Address → Address → Bool
same_address a b = eqb a.length b.length && same_octets a.octets b.octets

-- a sequence's key is association, context, originating address, destination address (document 02, A3) and reference
unfoldable pub same_key : Key → Key → Bool
same_key a b =
    eqb a.association b.association
    && eqb a.context.0 b.context.0
    && eqb a.reference.0 b.reference.0
    && same_address a.origin b.origin
    && same_address a.destination b.destination

-- a place's mark is 1 where a sequence is open and 0 where it is free
abbrev pub is_open : Place → Bool
is_open p = eqb p.mark 1

abbrev pub is_free : Place → Bool
is_free p = eqb p.mark 0

abbrev pub holds : Key → Place → Bool
holds k p = is_open p && same_key p.key k

-- a place with nothing in it and these octets for each address
abbrev zero_address : List ℕ → Address
zero_address octets = record { octets = octets; length = 0 }

abbrev zero_place : List ℕ → Place
zero_place octets =
    record {
      key = record {
        association = 0;
        context = record { 0 = 0 };
        origin = zero_address octets;
        destination = zero_address octets;
        reference = record { 0 = 0 };
      };
      octets = 0;
      start = 0;
      mark = 0;
      instruction = 0;
      remaining = record { 0 = 0 };
      segments = 0;
    }

-- a free place is all zero
abbrev pub free_place : Place
free_place = zero_place (replicate address_most 0)

-- what stands past the last place: nothing
abbrev pub no_place : Place
no_place = zero_place []

-- the first place, from number i on, that passes the test
abbrev pub first_from : (Place → Bool) → List Place → ℕ → Option ℕ
first_from test ps i = position_from test i ps

-- the place of a key
abbrev pub place_of : Key → List Place → Option ℕ
place_of k ps = first_from (holds k) ps 0

-- the place for a new sequence: the lowest free one
abbrev pub lowest_free : List Place → Option ℕ
lowest_free ps = first_from is_free ps 0

abbrev pub is_at : Option ℕ → Bool
is_at (Some i) = true
is_at None = false

-- its number; none is past the last
abbrev pub number_of : Option ℕ → ℕ
number_of (Some i) = i
number_of None = place_count

-- the place of a number
abbrev pub found_at : ℕ → Option ℕ
found_at i = if eqb i place_count then None else Some i

-- what stands there; nothing is saved where no place was found
abbrev pub place_at : List Place → Option ℕ → Place
place_at ps (Some i) = get_or ps i no_place
place_at ps None = free_place

-- the places with another one there
abbrev pub put_place : List Place → Option ℕ → Place → List Place
put_place ps (Some i) p = set ps i p
put_place ps None p = ps
