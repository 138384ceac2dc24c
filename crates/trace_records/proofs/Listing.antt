-- Lines one after the other; a record's octets.
use Rattle.std.specs.Prelude.{if◌then◌else◌}
use Prim.Native.Nat.{ℕ, suc, ◌+◌, ◌*◌, ◌-◌, ◌≤◌, ◌<◌}
use mathlib.Core.Path.{◌≡◌, refl, ap, ◌∙◌}
use mathlib.Core.Bool.{Bool, true, false}
use mathlib.Core.List.{List, [], ◌∷◌, ◌++◌, append_assoc, append-nil, map}
use native.Mathlib.Nat.{zero-add}
use native.Mathlib.Omega.{arith}
use lib.ListN.{length, take, drop, get_or, replicate, length-drop, drop_of_length-le}
use lib.Seq.{drop-cons, drop-drop, length-take-le}
use Rattle.octets.specs.Splice.{splice}
use Rattle.octets.proofs.Splice.{splice-is}
use Rattle.rules.specs.General.{those}
use Rattle.rules.specs.Records.{record_length, recorded_at, record_from, records_from}
use Rattle.rules.specs.Numbers.{address_most}
use Rattle.octets.specs.Number.{number}
use Rattle.rules.specs.Places.{is_open}
use Rattle.rules.specs.Listing.{hex_of, address_word, record_line, record_lines, lines_behind, open_lines}
use Rattle.rules.specs.Sweep.{loss_of}
use Rattle.rules.specs.declared.Address.{Address}
use Rattle.rules.specs.declared.Place.{Place}
use Rattle.rules.specs.declared.Record.{Record}
use Rattle.trace_records.specs.Listing.{named_fields, count_fields}

-- an area that is written whole holds what was written
pub splice-whole : (xs ys : List ℕ) → length ys ≡ length xs → splice xs 0 ys ≡ ys
splice-whole xs ys e =
    splice-is xs 0 ys (omega arith) ∙ rw (zero-add (length ys), drop_of_length-le xs {i = length ys} (omega arith)) (append-nil ys)

-- the record that so many octets are, field by field
pub address_is : (l part octets : List ℕ) (at : ℕ) → at + 21 ≤ length l → part ≡ take address_most (drop (at + 1) l) → octets ≡ splice (replicate address_most 0) 0 part
    → record { octets = octets; length = get_or l at 0 } ≡ recorded_at l at
address_is l part octets at n e a =
    let d = length-drop (at + 1) l in
    rw (a, e, splice-whole (replicate address_most 0) (take address_most (drop (at + 1) l)) (length-take-le address_most (drop (at + 1) l) (omega arith)))

pub record_is : (l : List ℕ) (origin destination : Address) (association context octets : ℕ) → origin ≡ recorded_at l 11 → destination ≡ recorded_at l 32 → association ≡ number (get_or l 1 0 ∷ get_or l 2 0 ∷ [])
    → context ≡ number (get_or l 3 0 ∷ get_or l 4 0 ∷ []) → octets ≡ number (get_or l 9 0 ∷ get_or l 10 0 ∷ [])
    → record {
      key = record { association = association; context = record { 0 = context }; origin = origin; destination = destination; reference = record { 0 = get_or l 5 0 } };
      octets = octets;
      kind = get_or l 0 0;
      instruction = get_or l 6 0;
      cause = get_or l 7 0;
      segments = get_or l 8 0;
    }
    ≡ record_from l
unfolding record_from
record_is l origin destination association context octets e d f g h = rw (e, d, f, g, h)

-- octets in hex, the one at i first
pub hex-next : (l : List ℕ) (i : ℕ) → i < length l → hex_of (drop i l) ≡ hex_of (get_or l i 0 ∷ []) ++ hex_of (drop (i + 1) l)
hex-next l i h = rw (drop-cons l i 0 h, native.Mathlib.Numerals.add-one)

-- the records from i on, the one at i first
pub records-next : (l : List ℕ) (n i : ℕ) → i < n → record_lines (records_from (n - i) (drop (record_length * i) l))
    ≡ record_lines (record_from (take record_length (drop (record_length * i) l)) ∷ []) ++ record_lines (records_from (n - (i + 1)) (drop (record_length * (i + 1)) l))
records-next l n i h =
    let e : n - i ≡ suc (n - (i + 1)) = omega arith in
    let d : record_length * i + record_length ≡ record_length * (i + 1) = omega arith in
    rw (e, drop-drop record_length (record_length * i) l, d, append-nil)

-- the open places, the first one first
pub open_next : (word : List ℕ) (p : Place) (ps : List Place) → open_lines word (p ∷ ps) ≡ open_lines word (p ∷ []) ++ open_lines word ps
open_next word p ps = go (is_open p)
  where
    go : (b : Bool) → lines_behind word (map (loss_of 0) (if b then p ∷ those is_open ps else those is_open ps)) ≡ lines_behind word (map (loss_of 0) (if b then p ∷ [] else [])) ++ open_lines word ps
    go true = rw append-nil
    go false = refl

pub open_at : (word : List ℕ) (ps : List Place) (p : Place) (i : ℕ) → i < length ps → open_lines word (drop i ps) ≡ open_lines word (get_or ps i p ∷ []) ++ open_lines word (drop (i + 1) ps)
open_at word ps p i h = rw (drop-cons ps i p h, native.Mathlib.Numerals.add-one) (open_next word (get_or ps i p) (drop (suc i) ps))

-- a record's line is its parts
pub line-is : (word : List ℕ) (r : Record)
    → named_fields word r.key ++ count_fields r ++ (32 ∷ address_word r.key.origin) ++ (32 ∷ address_word r.key.destination) ++ (10 ∷ []) ≡ record_line word r
unfolding record_line
line-is word r = ap (λ (l : List ℕ). l ++ (32 ∷ address_word r.key.origin) ++ (32 ∷ address_word r.key.destination) ++ (10 ∷ [])) (four (named_fields word r.key) _ _ _ _)
  where
    four : (n a b c d : List ℕ) → n ++ (a ++ b ++ c ++ d) ≡ n ++ a ++ b ++ c ++ d
    four n a b c d = rw (← append_assoc n (a ++ b ++ c) d, ← append_assoc n (a ++ b) c, ← append_assoc n a b)
