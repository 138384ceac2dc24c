-- Section 'Examples on each side': M1 to M13, over the rules of the calls, as one list under one claim. Proved in proofs/Examples.antt.
use Rattle.std.specs.Prelude.{ℕ, ◌*◌, ◌≡◌, List, [], ◌∷◌, ◌++◌, map, length, take, replicate}
use Rattle.rules.specs.General.{those}
use Rattle.rules.specs.Numbers.{store_least}
use Rattle.rules.specs.Refusals.{nowhere}
use Rattle.rules.specs.Records.{record_length}
use Rattle.rules.specs.Places.{is_open}
use Rattle.rules.specs.Receiving.{Reception}
use Rattle.rules.specs.Summary.{Counted, empty_summary}
use Rattle.rules.specs.Arrival.{arrival_least, arrival}
use Rattle.rules.specs.Delivery.{delivery}
use Rattle.rules.specs.Opening.{opening}
use Rattle.rules.specs.Sending.{Sending, sending}
use Rattle.rules.specs.declared.Table.{Table}
use Rattle.rules.specs.declared.Request.{Request}

-- registry 01 00 03, 02 00 04; T 100; clock 0
abbrev pub fresh : Table
fresh = (opening (1 ∷ 0 ∷ 3 ∷ 2 ∷ 0 ∷ 4 ∷ []) 100 0).table

-- parameters that arrive one after the other at association 9; or data cut with context 3 and rooms R1 and R, segment k of it
pub data Case : Type 0 where
  Receives : List (List ℕ) → Case
  Cuts : List ℕ → ℕ → ℕ → ℕ → Case

-- what is seen of an arrival: its refusal and position, the octets of its records, the octets delivered, and how many places are open after it
pub record Seen : Type 0 where
  pub refusal : ℕ
  pub position : ℕ
  pub records : List ℕ
  pub delivered : List ℕ
  pub opened : ℕ

-- what is seen of a case: its arrivals; or the refusal, the count, the length, and the octets of the segment
pub data Result : Type 0 where
  Saw : List Seen → Result
  Made : ℕ → ℕ → ℕ → List ℕ → Result

abbrev seen_of : List ℕ → Reception → Seen
seen_of s o =
    record {
      refusal = o.answer.refusal;
      position = o.answer.position;
      records = take (o.answer.records * record_length) o.report;
      delivered = delivery o.answer.decision s o.store;
      opened = length (those is_open o.answer.table.places);
    }

-- each arrives at the table's own time
abbrev pub seen_from : Table → List ℕ → List ℕ → List (List ℕ) → List Seen
seen_from t m store [] = []
seen_from t m store (s ∷ rest) =
    let o : Counted Reception = arrival t m store (replicate arrival_least 0xEE) t.clock 9 s in
    seen_of s o.call ∷ seen_from o.call.answer.table o.summary o.call.store rest

abbrev made_of : Sending → Result
made_of o = Made o.answer.refusal o.answer.count o.answer.length (take o.answer.length o.area)

abbrev asked : ℕ → ℕ → ℕ → Request
asked room1 room number =
    record { context = record { 0 = 3 }; instruction = 0; reference = record { 0 = 5 }; room1 = room1; room = room; number = number }

abbrev pub result_of : Case → Result
result_of (Receives parameters) = Saw (seen_from fresh empty_summary (replicate store_least 0) parameters)
result_of (Cuts whole room1 room k) = made_of (sending fresh (asked room1 room k) [] [] whole (replicate 255 0xEE))

-- a refusal at a position, with no place open; a save, with so many open; a record that ends a sequence, with the octets that it delivers
abbrev refused_at : ℕ → ℕ → Seen
refused_at n at = record { refusal = n; position = at; records = []; delivered = []; opened = 0 }

abbrev saved : ℕ → Seen
saved opened = record { refusal = 0; position = nowhere; records = []; delivered = []; opened = opened }

-- a record's octets before its addresses, which are empty: 2 lengths and 40 octets
abbrev ended : List ℕ → List ℕ → Seen
ended head handed = record { refusal = 0; position = nowhere; records = head ++ replicate 42 0; delivered = handed; opened = 0 }

abbrev m3 : List ℕ
m3 = 0x83 ∷ 0x81 ∷ 0x41 ∷ 0x85 ∷ 0xAA ∷ []

abbrev m4 : List ℕ
m4 = 0x83 ∷ 0x80 ∷ 0x00 ∷ 0x85 ∷ 0xBB ∷ []

-- each case, and what is seen of it
pub record Example : Type 0 where
  pub given : Case
  pub answer : Result

abbrev arrives : List (List ℕ) → List Seen → Example
arrives parameters seen = record { given = Receives parameters; answer = Saw seen }

abbrev cuts : List ℕ → ℕ → ℕ → ℕ → Result → Example
cuts whole room1 room k made = record { given = Cuts whole room1 room k; answer = made }

abbrev five : List ℕ
five = 1 ∷ 2 ∷ 3 ∷ 4 ∷ 5 ∷ []

abbrev pub examples : List Example
examples =
    -- M1 empty parameter: 5. The positions are document 02's, A5
    arrives ([] ∷ []) (refused_at 5 0 ∷ [])
    -- M2: Delivered, 2 octets, 1 segment, reference 255
    ∷ arrives ((0x83 ∷ 0x80 ∷ 0xC0 ∷ 0xAA ∷ 0xBB ∷ []) ∷ []) (ended (18 ∷ 0 ∷ 9 ∷ 0 ∷ 3 ∷ 255 ∷ 0 ∷ 0 ∷ 1 ∷ 0 ∷ 2 ∷ []) (0xAA ∷ 0xBB ∷ []) ∷ [])
    -- M3: Delivered AA BB, 2 segments, instruction 1
    ∷ arrives (m3 ∷ m4 ∷ []) (saved 1 ∷ ended (18 ∷ 0 ∷ 9 ∷ 0 ∷ 3 ∷ 5 ∷ 1 ∷ 0 ∷ 2 ∷ 0 ∷ 2 ∷ []) (0xAA ∷ 0xBB ∷ []) ∷ [])
    -- M4 the second alone: Lost, cause 1, 1 segment, 1 octet
    ∷ arrives (m4 ∷ []) (ended (19 ∷ 0 ∷ 9 ∷ 0 ∷ 3 ∷ 5 ∷ 0 ∷ 1 ∷ 1 ∷ 0 ∷ 1 ∷ []) [] ∷ [])
    -- M5: saved. M6: Lost, cause 4
    ∷ arrives ((0x83 ∷ 0x80 ∷ 0x49 ∷ 0x85 ∷ []) ∷ []) (saved 1 ∷ [])
    ∷ arrives ((0x83 ∷ 0x80 ∷ 0x4A ∷ 0x85 ∷ []) ∷ []) (ended (19 ∷ 0 ∷ 9 ∷ 0 ∷ 3 ∷ 5 ∷ 0 ∷ 4 ∷ 1 ∷ 0 ∷ 0 ∷ []) [] ∷ [])
    -- M7: 7. M8: 7. M9: 6. M10: 8
    ∷ arrives ((0x83 ∷ 0x80 ∷ 0x40 ∷ 0x85 ∷ []) ∷ []) (refused_at 7 2 ∷ [])
    ∷ arrives ((0x83 ∷ 0x80 ∷ 0xC1 ∷ []) ∷ []) (refused_at 7 2 ∷ [])
    ∷ arrives ((0x83 ∷ 0x00 ∷ []) ∷ []) (refused_at 6 1 ∷ [])
    ∷ arrives ((0x85 ∷ []) ∷ []) (refused_at 8 0 ∷ [])
    -- M11: two open places
    ∷ arrives
    ((0x84 ∷ 0x80 ∷ 0x41 ∷ 0x85 ∷ 0x02 ∷ 0x00 ∷ 0x07 ∷ 0x00 ∷ 0xAA ∷ []) ∷ (0x84 ∷ 0x80 ∷ 0x41 ∷ 0x85 ∷ 0x01 ∷ 0x07 ∷ 0x00 ∷ 0xBB ∷ []) ∷ [])
    (saved 1 ∷ saved 2 ∷ [])
    -- M12, padded: 23, as document 02's A2 has it
    ∷ arrives ((0x03 ∷ 0x80 ∷ 0x80 ∷ 0xC0 ∷ 0xAA ∷ []) ∷ []) (refused_at 23 1 ∷ [])
    -- M13 n = 5: R1 = 8 one segment; R1 = R = 7 two, carrying 3 and 2. n = 2,048: R1 = R = 209 ten segments; 208 refused 18
    ∷ cuts five 8 8 0 (Made 0 1 8 (0x83 ∷ 0x80 ∷ 0xC0 ∷ five))
    ∷ cuts five 7 7 0 (Made 0 2 7 (0x83 ∷ 0x80 ∷ 0x41 ∷ 0x85 ∷ 1 ∷ 2 ∷ 3 ∷ []))
    ∷ cuts five 7 7 1 (Made 0 2 6 (0x83 ∷ 0x80 ∷ 0x00 ∷ 0x85 ∷ 4 ∷ 5 ∷ []))
    ∷ cuts (replicate 2048 7) 209 209 0 (Made 0 10 209 (0x83 ∷ 0x80 ∷ 0x49 ∷ 0x85 ∷ replicate 205 7))
    ∷ cuts (replicate 2048 7) 209 209 9 (Made 0 10 207 (0x83 ∷ 0x80 ∷ 0x00 ∷ 0x85 ∷ replicate 203 7))
    ∷ cuts (replicate 2048 7) 208 208 0 (Made 18 0 0 [])
    ∷ []

abbrev pub Hold : Type 0
Hold = map (λ (e : Example). result_of e.given) examples ≡ map (λ (e : Example). e.answer) examples
