-- Section 'Records and other house octets': as document 02's A3 has it: Delivered is kind 18, Lost is kind 19. Numbers are most significant octet first.
use Rattle.std.specs.Prelude.{ℕ, zero, suc, ◌+◌, ◌-◌, ◌≡◌, List, [], ◌∷◌, ◌++◌, length, take, drop, get_or, replicate}
use Rattle.octets.specs.Number.{number, big_endian}
use Rattle.rules.specs.Numbers.{address_most}
use Rattle.rules.specs.declared.Address.{Address}
use Rattle.rules.specs.declared.Key.{Key}
use Rattle.rules.specs.declared.Record.{Record}

abbrev pub delivered : ℕ
delivered = 18

abbrev pub lost : ℕ
lost = 19

-- one kind octet and 52 octets
abbrev pub record_length : ℕ
record_length = 53

-- octets as an address: zero filled, and with their length
abbrev pub zero_filled : List ℕ → List ℕ
zero_filled octets = octets ++ replicate (address_most - length octets) 0

abbrev pub address_of : List ℕ → Address
address_of octets = record { octets = zero_filled octets; length = length octets }

-- what its type says of an address: 20 octets
abbrev pub Filled : Address → Type 0
Filled a = length a.octets ≡ address_most

pub record FilledKey (k : Key) : Type 0 where
  pub origin : Filled k.origin
  pub destination : Filled k.destination

-- an address in a record: length 1, octets 20; and the one that begins at a position
abbrev pub recorded : Address → List ℕ
recorded a = a.length ∷ a.octets

abbrev pub recorded_at : List ℕ → ℕ → Address
recorded_at l at = record { octets = take address_most (drop (at + 1) l); length = get_or l at 0 }

-- kind 1; association 2, context 2, reference 1, instruction 1, cause 1, segments 1, octets 2, originating address, destination address
unfoldable pub record_octets : Record → List ℕ
record_octets r =
    (r.kind ∷ [])
    ++ big_endian 2 r.key.association
    ++ big_endian 2 r.key.context.0
    ++ (r.key.reference.0 ∷ r.instruction ∷ r.cause ∷ r.segments ∷ [])
    ++ big_endian 2 r.octets
    ++ recorded r.key.origin
    ++ recorded r.key.destination

-- the record that so many octets are
unfoldable pub record_from : List ℕ → Record
record_from l =
    record {
      key = record {
        association = number (get_or l 1 0 ∷ get_or l 2 0 ∷ []);
        context = record { 0 = number (get_or l 3 0 ∷ get_or l 4 0 ∷ []) };
        origin = recorded_at l 11;
        destination = recorded_at l 32;
        reference = record { 0 = get_or l 5 0 };
      };
      octets = number (get_or l 9 0 ∷ get_or l 10 0 ∷ []);
      kind = get_or l 0 0;
      instruction = get_or l 6 0;
      cause = get_or l 7 0;
      segments = get_or l 8 0;
    }

-- records one after the other, and so many read back
abbrev pub records_octets : List Record → List ℕ
records_octets [] = []
records_octets (r ∷ rs) = record_octets r ++ records_octets rs

abbrev pub records_from : ℕ → List ℕ → List Record
records_from zero l = []
records_from (suc n) l = record_from (take record_length l) ∷ records_from n (drop record_length l)
