-- Section 'Sending'. o and d are the originating and the destination address.
use Rattle.std.specs.Prelude.{if◌then◌else◌, ℕ, zero, suc, ◌+◌, ◌-◌, ◌*◌, ◌/◌, Bool, not, ◌&&◌, ◌||◌, List, [], ◌∷◌, ◌++◌, eqb, leb, ltb, length, take, drop}
use Rattle.octets.specs.Splice.{splice}
use Rattle.rules.specs.Numbers.{data_most, segments_most, parameter_most, address_most, reference_most, instruction_most}
use Rattle.rules.specs.Refusals.{Check, ◌when◌, ◌for◌over◌, ◌for◌under◌, judged}
use Rattle.rules.specs.Registry.{kind_of}
use Rattle.rules.specs.Layout.{context_octets, addresses_octets, parameter_octets}
use Rattle.rules.specs.Soundness.{sound}
use Rattle.rules.specs.declared.Table.{Table}
use Rattle.rules.specs.declared.Heading.{Heading}
use Rattle.rules.specs.declared.Request.{Request}
use Rattle.rules.specs.declared.Sent.{Sent}

-- h, the header without octet 3a
abbrev pub header_length : ℕ → ℕ → List ℕ → List ℕ → ℕ
header_length kind x o d = length (context_octets x) + 2 + length (addresses_octets kind o d)

-- segmented unless h + n is at most R1
abbrev pub is_segmented : ℕ → Request → ℕ → Bool
is_segmented h q n = not (leb (h + n) q.room1)

-- the first carries R1 - h - 1 octets, each later one R - h - 1
abbrev pub first_carries : ℕ → Request → ℕ
first_carries h q = q.room1 - h - 1

abbrev pub later_carries : ℕ → Request → ℕ
later_carries h q = q.room - h - 1

-- the count is the least that holds n
abbrev pub count_of : ℕ → Request → ℕ → ℕ
count_of h q n =
    if is_segmented h q n then 1 + (n - first_carries h q + (later_carries h q - 1)) / later_carries h q else 1

-- the piece of the data that segment k carries; the last what is left
abbrev pub piece_of : ℕ → ℕ → List ℕ → ℕ → List ℕ
piece_of a b whole zero = take a whole
piece_of a b whole (suc k) = take b (drop (a + k * b) whole)

-- segment k has remaining equal to the count less 1 less k, and the indicator new only for k = 0; every segment repeats context, instruction, addresses and,
-- where segmented, the reference
abbrev pub heading_with : ℕ → Request → ℕ → Bool → Heading
heading_with kind q count segmented =
    record {
      context = q.context;
      kind = kind;
      instruction = q.instruction;
      new = eqb q.number 0;
      remaining = record { 0 = count - 1 - q.number };
      reference = record { 0 = if segmented then q.reference.0 else 255 };
    }

abbrev pub heading_for : ℕ → ℕ → Request → ℕ → Heading
heading_for kind h q n = heading_with kind q (count_of h q n) (is_segmented h q n)

abbrev pub carried : ℕ → Request → List ℕ → List ℕ
carried h q whole = if is_segmented h q (length whole) then piece_of (first_carries h q) (later_carries h q) whole q.number else whole

unfoldable pub segment_octets : ℕ → Request → List ℕ → List ℕ → List ℕ → List ℕ
segment_octets kind q o d whole =
    let h : ℕ = header_length kind q.context.0 o d in
    parameter_octets (heading_for kind h q (length whole)) o d (carried h q whole)

-- the table and the request, by the kind of its context and the lengths of addresses and data
abbrev pub request_checks : Bool → ℕ → Request → ℕ → ℕ → ℕ → List Check
request_checks sound kind q o d n =
    1 when not sound ∷
    8 when eqb kind 0 ∷
    14 for n over data_most ∷
    9 when (ltb address_most o || ltb address_most d) ∷
    15 when (eqb kind 1 && ltb 0 (o + d)) ∷
    17 for q.instruction over instruction_most ∷
    16 for q.reference.0 over reference_most ∷ []

-- the cut of n octets behind a header of h
abbrev pub cut_checks : ℕ → Request → ℕ → List Check
cut_checks h q n =
    18 when (ltb parameter_most q.room1 || ltb parameter_most q.room
    || (is_segmented h q n && (ltb q.room1 (h + 1) || ltb q.room (h + 2) || ltb segments_most (count_of h q n)))) ∷
    19 when leb (count_of h q n) q.number ∷ []

-- the lent area and the segment, by their lengths
abbrev pub fit_checks : ℕ → ℕ → List Check
fit_checks area n =
    20 for area under n ∷ []

-- Sending: 1, 8, 14, 9, 15, 17, 16, 18, 19, 20
unfoldable pub sending_checks : Table → Request → List ℕ → List ℕ → List ℕ → List ℕ → List Check
sending_checks t q o d whole area =
    let kind : ℕ = kind_of t.registry q.context.0 in
    request_checks (sound t) kind q (length o) (length d) (length whole)
    ++ cut_checks (header_length kind q.context.0 o d) q (length whole)
    ++ fit_checks (length area) (length (segment_octets kind q o d whole))

-- what a call leaves: its answer and the lent area
pub record Sending : Type 0 where
  pub answer : Sent
  pub area : List ℕ

abbrev pub unsent : List ℕ → ℕ → Sending
unsent area n = record { answer = record { refusal = n; count = 0; length = 0 }; area = area }

-- the result is that segment's octets at the front of the lent area, with the count of segments; the rest stays
unfoldable pub sending : Table → Request → List ℕ → List ℕ → List ℕ → List ℕ → Sending
sending t q o d whole area =
    let kind : ℕ = kind_of t.registry q.context.0 in
    let octets : List ℕ = segment_octets kind q o d whole in
    judged (sending_checks t q o d whole area)
    (unsent area)
    (record {
      answer = record { refusal = 0; count = count_of (header_length kind q.context.0 o d) q (length whole); length = length octets };
      area = splice area 0 octets;
    })
