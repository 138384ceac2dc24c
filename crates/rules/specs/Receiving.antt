-- Section 'Receiving'.
use Rattle.std.specs.Prelude.{if◌then◌else◌, ℕ, ◌+◌, Bool, true, false, not, ◌&&◌, List, [], ◌∷◌, ◌++◌, eqb, ltb, length, take, drop, Option}
use Rattle.octets.specs.Splice.{splice}
use Rattle.rules.specs.Numbers.{data_most, store_least, place_start}
use Rattle.rules.specs.Refusals.{Check, ◌when◌, ◌for◌under◌, judged_at, nowhere}
use Rattle.rules.specs.Layout.{is_unsegmented, fields_of, reading_checks}
use Rattle.rules.specs.Records.{delivered, lost, record_length, zero_filled, records_octets}
use Rattle.rules.specs.Places.{free_place, place_of, lowest_free, is_at, number_of, place_at, put_place}
use Rattle.rules.specs.Soundness.{sound}
use Rattle.rules.specs.declared.Address.{Address}
use Rattle.rules.specs.declared.Span.{Span}
use Rattle.rules.specs.declared.Key.{Key}
use Rattle.rules.specs.declared.Place.{Place}
use Rattle.rules.specs.declared.Table.{Table}
use Rattle.rules.specs.declared.Remaining.{Remaining}
use Rattle.rules.specs.declared.Heading.{Heading}
use Rattle.rules.specs.declared.Fields.{Fields}
use Rattle.rules.specs.declared.Record.{Record}
use Rattle.rules.specs.declared.Fault.{Fault}
use Rattle.rules.specs.declared.Part.TheVariants.{OfParameter, OfStore}
use Rattle.rules.specs.declared.Line.{Line}
use Rattle.rules.specs.declared.Line.TheVariants.{Unsegmented, Broken, Restart, Start, Final, Next}
use Rattle.rules.specs.declared.Decision.{Decision}
use Rattle.rules.specs.declared.Decision.TheVariants.{Refused, Saved, Delivered, Lost}
use Rattle.rules.specs.declared.Received.{Received}

-- the address that stands somewhere in a parameter
abbrev pub address_at : List ℕ → Span → Address
address_at s a = record { octets = zero_filled (take a.length (drop a.at s)); length = a.length }

-- a segment's key
abbrev pub key_of : ℕ → List ℕ → Fields → Key
key_of association s f =
    record {
      association = association;
      context = f.heading.context;
      origin = address_at s f.origin;
      destination = address_at s f.destination;
      reference = f.heading.reference;
    }

-- application information is handed on as the tail of the parameter
abbrev pub information_of : List ℕ → Fields → List ℕ
information_of s f = drop f.information s

-- the first line that applies, by whether the key is open, the remaining and the octets of its sequence so far, and the segment's heading and length
unfoldable pub line_of : Bool → ℕ → ℕ → Heading → ℕ → Line
line_of is_open before saved g n =
    if is_unsegmented g.new g.remaining.0 then Unsegmented else
    if ltb 9 g.remaining.0 then Broken 4 else
    if g.new && is_open then Restart else
    if g.new then Start else
    if not is_open then Broken 1 else
    if not (eqb (g.remaining.0 + 1) before) then Broken 2 else
    if ltb data_most (saved + n) then Broken 5 else
    if eqb g.remaining.0 0 then Final else Next

-- the kind and the cause of the record that a decision makes; where it makes none they are 0
abbrev pub record_kind : Decision → ℕ
record_kind Refused = 0
record_kind (Saved p) = 0
record_kind (Delivered part) = delivered
record_kind (Lost cause p) = lost

abbrev pub record_cause : Decision → ℕ
record_cause Refused = 0
record_cause (Saved p) = 0
record_cause (Delivered part) = 0
record_cause (Lost cause p) = cause

abbrev pub record_with : ℕ → ℕ → Key → ℕ → ℕ → ℕ → Record
record_with kind cause key instruction segments octets =
    record { key = key; octets = octets; kind = kind; instruction = instruction; cause = cause; segments = segments }

abbrev pub record_of : Decision → Key → ℕ → ℕ → ℕ → Record
record_of d key instruction segments octets = record_with (record_kind d) (record_cause d) key instruction segments octets

-- an open place after a segment with so many remaining
abbrev pub open_place : Key → Remaining → ℕ → ℕ → ℕ → ℕ → Place
open_place key remaining instruction segments octets start =
    record { key = key; octets = octets; start = start; mark = 1; instruction = instruction; remaining = remaining; segments = segments }

-- only a first segment sets the start
abbrev pub begun : ℕ → Key → Heading → ℕ → Place
begun clock key g n = open_place key g.remaining g.instruction 1 n clock

abbrev pub longer : Place → Key → Heading → ℕ → Place
longer p key g n = open_place key g.remaining p.instruction (p.segments + 1) (p.octets + n) p.start

-- octets written to a place's stretch of the store, from index `at` of it on
abbrev pub save_at : List ℕ → ℕ → ℕ → List ℕ → List ℕ
save_at store place at octets = splice store (place_start place + at) octets

-- what a segment does: its decision and its record, if any; the places and the store after it
pub record Effect : Type 0 where
  pub decision : Decision
  pub records : List Record
  pub places : List Place
  pub store : List ℕ

abbrev effect : Decision → List Record → List Place → List ℕ → Effect
effect d rs ps store = record { decision = d; records = rs; places = ps; store = store }

-- a segment of `key` with fields f and these octets: `place` is its key's, with p there, and `vacant` is where a new sequence goes
unfoldable pub effect_of : Line → Table → List ℕ → Key → Fields → List ℕ → Option ℕ → Place → Option ℕ → Effect
effect_of Unsegmented t store key f octets place p vacant =
    let d : Decision = Delivered (OfParameter f.information (length octets)) in
    effect d (record_of d key f.heading.instruction 1 (length octets) ∷ []) t.places store
effect_of (Broken cause) t store key f octets place p vacant =
    let d : Decision = Lost cause place in
    let instruction : ℕ = if is_at place then p.instruction else f.heading.instruction in
    effect d (record_of d key instruction (p.segments + 1) (p.octets + length octets) ∷ []) (put_place t.places place free_place) store
effect_of Restart t store key f octets place p vacant =
    let d : Decision = Lost 3 place in
    effect d (record_of d key p.instruction p.segments p.octets ∷ [])
    (put_place t.places place (begun t.clock key f.heading (length octets)))
    (save_at store (number_of place) 0 octets)
effect_of Start t store key f octets place p vacant =
    effect (Saved (number_of vacant)) []
    (put_place t.places vacant (begun t.clock key f.heading (length octets)))
    (save_at store (number_of vacant) 0 octets)
effect_of Final t store key f octets place p vacant =
    let d : Decision = Delivered (OfStore (number_of place) (p.octets + length octets)) in
    effect d (record_of d key p.instruction (p.segments + 1) (p.octets + length octets) ∷ [])
    (put_place t.places place free_place)
    (save_at store (number_of place) p.octets octets)
effect_of Next t store key f octets place p vacant =
    effect (Saved (number_of place)) []
    (put_place t.places place (longer p key f.heading (length octets)))
    (save_at store (number_of place) p.octets octets)

abbrev pub is_start : Line → Bool
is_start Unsegmented = false
is_start (Broken cause) = false
is_start Restart = false
is_start Start = true
is_start Final = false
is_start Next = false

abbrev pub with_places : Table → List Place → Table
with_places t ps = record { places = ps; registry = t.registry; timer = t.timer; clock = t.clock }

-- the line of a segment at a table
abbrev pub line_at : Table → Key → Heading → ℕ → Line
line_at t key g n =
    let place : Option ℕ = place_of key t.places in
    let p : Place = place_at t.places place in
    line_of (is_at place) p.remaining.0 p.octets g n

-- the table and the lent areas, by their lengths; the report area has a least one
abbrev pub lent_checks : ℕ → Bool → ℕ → ℕ → List Check
lent_checks least sound store report =
    1 when not sound ∷
    2 for store under store_least ∷
    3 for report under least ∷ []

-- where the line takes it: line 3 applies and no place is free
abbrev pub taking_checks : Line → List Place → List Check
taking_checks line ps =
    10 when (is_start line && not (is_at (lowest_free ps))) ∷ []

-- the segment's own: 4, then 5 to 9 and 23 by the octets, then 10
abbrev pub own_checks : Table → ℕ → List ℕ → List Check
own_checks t association s =
    let f : Fields = fields_of t.registry s in
    reading_checks t.registry s
    ++ taking_checks (line_at t (key_of association s f) f.heading (length (information_of s f))) t.places

-- Segment: 1, 2, 3, and its own. It is called as the second part of an arrival: Arrival
unfoldable pub segment_checks : Table → List ℕ → List ℕ → ℕ → List ℕ → List Check
segment_checks t store report association s =
    lent_checks record_length (sound t) (length store) (length report)
    ++ own_checks t association s

-- what a call leaves: its answer, the store and the report area; and the records that it made
pub record Reception : Type 0 where
  pub answer : Received
  pub store : List ℕ
  pub report : List ℕ
  pub made : List Record

-- records go to the front of the lent report area; the rest of it stays
abbrev pub reception_of : Table → List ℕ → Effect → Reception
reception_of t report e =
    record {
      answer = record { table = with_places t e.places; decision = e.decision; position = nowhere; refusal = 0; records = length e.records; timeouts = 0 };
      store = e.store;
      report = splice report 0 (records_octets e.records);
      made = e.records;
    }

abbrev pub received_at : Table → List ℕ → List ℕ → ℕ → List ℕ → Reception
received_at t store report association s =
    let f : Fields = fields_of t.registry s in
    let key : Key = key_of association s f in
    let octets : List ℕ = information_of s f in
    let place : Option ℕ = place_of key t.places in
    reception_of t report
    (effect_of (line_at t key f.heading (length octets)) t store key f octets place (place_at t.places place) (lowest_free t.places))

-- a refusal returns its number and position, the table as it came, zero records, and no lent octet is altered
abbrev pub unreceived : Table → List ℕ → List ℕ → Fault → Reception
unreceived t store report x =
    record { answer = record { table = t; decision = Refused; position = x.position; refusal = x.number; records = 0; timeouts = 0 }; store = store; report = report; made = [] }

unfoldable pub segment : Table → List ℕ → List ℕ → ℕ → List ℕ → Reception
segment t store report association s =
    judged_at (segment_checks t store report association s) (unreceived t store report) (received_at t store report association s)
