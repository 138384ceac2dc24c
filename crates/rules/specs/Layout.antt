-- Section 'Layout of a segment'. s is a parameter's octets, x one of them; a position counts from 0.
use Rattle.std.specs.Prelude.{if◌then◌else◌, ℕ, ◌+◌, ◌*◌, ◌/◌, ◌%◌, Bool, not, ◌&&◌, List, [], ◌∷◌, ◌++◌, eqb, leb, ltb, length, take, get_or}
use Rattle.rules.specs.Numbers.{parameter_most, address_most}
use Rattle.rules.specs.Refusals.{Check, ◌when◌, ◌for◌over◌, ◌for◌under◌, ◌for◌unlike◌, ◌blaming◌}
use Rattle.rules.specs.Registry.{kind_of}
use Rattle.rules.specs.declared.Entry.{Entry}
use Rattle.rules.specs.declared.Heading.{Heading}
use Rattle.rules.specs.declared.Span.{Span}
use Rattle.rules.specs.declared.Fields.{Fields}

abbrev pub octet : List ℕ → ℕ → ℕ
octet s at = get_or s at 0

-- bit 8 is an extension bit: 1 means the last octet of its field
abbrev pub is_last : ℕ → Bool
is_last x = leb 128 x

-- octet 1: low 7 bits of the context; 1a, only if octet 1 has extension 0: high 7 bits
abbrev pub has1a : List ℕ → Bool
has1a s = not (is_last (octet s 0))

abbrev pub context_of : List ℕ → ℕ
context_of s = if has1a s then octet s 0 % 128 + 128 * (octet s 1 % 128) else octet s 0 % 128

-- octet 2: bit 2 send notification, bit 1 release call, together the instruction; the others are spare and ignored
abbrev pub at2 : List ℕ → ℕ
at2 s = if has1a s then 2 else 1

abbrev pub instruction_of : ℕ → ℕ
instruction_of x = x % 4

-- what stands before octet 2: the context's octets
abbrev pub context_part : List ℕ → List ℕ
context_part s = take (at2 s) s

-- octet 3: bit 7 sequence indicator, 1 new; bits 6 to 1 segments remaining
abbrev pub at3 : List ℕ → ℕ
at3 s = at2 s + 1

abbrev pub is_new : ℕ → Bool
is_new x = leb 64 (x % 128)

abbrev pub remaining_of : ℕ → ℕ
remaining_of x = x % 64

-- the indicator is 1 and remaining is 0
abbrev pub is_unsegmented : Bool → ℕ → Bool
is_unsegmented new remaining = new && eqb remaining 0

-- octet 3a, only if octet 3, at a position, has extension 0: local reference; 255 means an unsegmented parameter
abbrev pub has3a : ℕ → Bool
has3a x = not (is_last x)

abbrev pub reference_of : List ℕ → ℕ → ℕ
reference_of s at = if has3a (octet s at) then octet s (at + 1) % 128 else 255

abbrev pub past_sequence : List ℕ → ℕ → ℕ
past_sequence s at = if has3a (octet s at) then at + 2 else at + 1

-- a context of 1998 has no address fields; one of 2000 has both: originating length octet and octets, then destination the same way
abbrev pub has_addresses : ℕ → Bool
has_addresses kind = eqb kind 2

abbrev pub origin_at : List ℕ → ℕ
origin_at s = past_sequence s (at3 s)

abbrev pub past_address : List ℕ → ℕ → ℕ
past_address s at = at + 1 + octet s at

-- the rest is the information
abbrev pub information_at : ℕ → List ℕ → ℕ → ℕ
information_at kind s at = if has_addresses kind then past_address s (past_address s at) else at

-- what octets 1 to 3a say
abbrev pub heading_of : List Entry → List ℕ → Heading
heading_of registry s =
    record {
      context = record { 0 = context_of s };
      kind = kind_of registry (context_of s);
      instruction = instruction_of (octet s (at2 s));
      new = is_new (octet s (at3 s));
      remaining = record { 0 = remaining_of (octet s (at3 s)) };
      reference = record { 0 = reference_of s (at3 s) };
    }

-- where an address stands whose length octet is at a position; with no address fields there is none
abbrev pub span_at : Bool → List ℕ → ℕ → Span
span_at has s at = record { at = if has then at + 1 else 0; length = if has then octet s at else 0 }

-- the addresses and the information of a parameter whose addresses would start at a position
abbrev pub fields_at : Heading → List ℕ → ℕ → Fields
fields_at g s at =
    record {
      heading = g;
      origin = span_at (has_addresses g.kind) s at;
      destination = span_at (has_addresses g.kind) s (past_address s at);
      information = information_at g.kind s at;
    }

unfoldable pub fields_of : List Entry → List ℕ → Fields
fields_of registry s = fields_at (heading_of registry s) s (origin_at s)

-- Refusals 4 to 9 and 23, by the octets from left to right. All but 4 blame an octet (document 02, A5)

-- 5: the parameter has fewer octets than its fields need here; the octet at fault is the first that is not there
abbrev pub cut_before : List ℕ → ℕ → Check
cut_before s least = 5 for length s under least blaming length s

-- octets 1a, 2 and 3a must have extension 1
abbrev pub last_checks : List ℕ → ℕ → List Check
last_checks s at =
    cut_before s (at + 1)
    ∷ 6 for octet s at under 128 blaming at
    ∷ []

-- octet 1a has a zero upper part: the context is padded (document 02, A2)
abbrev pub is_padded : List ℕ → Bool
is_padded s = eqb (octet s 1 % 128) 0

-- 23 stands at octet 1a, after 6
abbrev pub second_checks : List ℕ → List Check
second_checks s = last_checks s 1 ++ (23 when is_padded s blaming 1 ∷ [])

-- 8 stands at the context's last octet, after 23
abbrev pub last_of_context : List ℕ → ℕ
last_of_context s = if has1a s then 1 else 0

abbrev pub context_checks : List Entry → List ℕ → List Check
context_checks registry s =
    (cut_before s 1 ∷ [])
    ++ (if has1a s then second_checks s else [])
    ++ (8 when eqb (kind_of registry (context_of s)) 0 blaming last_of_context s ∷ [])

-- 7 stands at octet 3, once 3a, if present, has passed 5 and 6: 3a is absent exactly when the indicator is 1 and remaining is 0
abbrev pub count3a : Bool → ℕ
count3a present = if present then 1 else 0

abbrev pub sequence_checks : List ℕ → ℕ → List Check
sequence_checks s at =
    (cut_before s (at + 1) ∷ [])
    ++ (if has3a (octet s at) then last_checks s (at + 1) else [])
    ++ (7 for count3a (has3a (octet s at)) unlike count3a (not (is_unsegmented (is_new (octet s at)) (remaining_of (octet s at)))) blaming at ∷ [])

-- 9 stands at the length octet; an address is 0 to 20 octets
abbrev pub address_checks : List ℕ → ℕ → List Check
address_checks s at =
    cut_before s (at + 1)
    ∷ 9 for octet s at over address_most blaming at
    ∷ cut_before s (past_address s at)
    ∷ []

abbrev pub addresses_checks : ℕ → List ℕ → ℕ → List Check
addresses_checks kind s at = if has_addresses kind then address_checks s at ++ address_checks s (past_address s at) else []

unfoldable pub reading_checks : List Entry → List ℕ → List Check
reading_checks registry s =
    (4 for length s over parameter_most ∷ [])
    ++ context_checks registry s
    ++ last_checks s (at2 s)
    ++ sequence_checks s (at3 s)
    ++ addresses_checks (kind_of registry (context_of s)) s (origin_at s)

-- Writing. We write the shortest form of the context
abbrev pub context_octets : ℕ → List ℕ
context_octets x = if ltb x 128 then (128 + x) ∷ [] else x % 128 ∷ (128 + x / 128) ∷ []

-- octets 3 and 3a
abbrev pub sequence_octets : Heading → List ℕ
sequence_octets g =
    if is_unsegmented g.new g.remaining.0
    then 192 ∷ []
    else (if g.new then 64 + g.remaining.0 else g.remaining.0) ∷ (128 + g.reference.0) ∷ []

abbrev pub address_octets : List ℕ → List ℕ
address_octets address = length address ∷ address

abbrev pub addresses_octets : ℕ → List ℕ → List ℕ → List ℕ
addresses_octets kind o d = if has_addresses kind then address_octets o ++ address_octets d else []

-- a parameter with originating address o and destination address d; spare bits are written 0
unfoldable pub parameter_octets : Heading → List ℕ → List ℕ → List ℕ → List ℕ
parameter_octets g o d information =
    context_octets g.context.0
    ++ ((128 + g.instruction) ∷ [])
    ++ sequence_octets g
    ++ addresses_octets g.kind o d
    ++ information
