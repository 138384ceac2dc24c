-- What the program records prints: for each event replay's fields, its number and its decision; and a line for each record, for what an opening drops and for what is held at the end.
use Rattle.std.specs.Prelude.{if◌then◌else◌, ℕ, ◌+◌, ◌/◌, ◌%◌, List, [], ◌∷◌, ◌++◌, eqb, ltb, take}
use Rattle.rules.specs.Records.{delivered}
use Rattle.rules.specs.Places.{is_open}
use Rattle.rules.specs.Sweep.{losses_by}
use Rattle.rules.specs.Calls.{Decided, Undecided, As}
use Rattle.rules.specs.Trace.{Event, Opening, Segment, Clock, Release, is_opening, Sight, Observer, watching}
use Rattle.rules.specs.Lines.{field, dash, number_unless, stop_if, counted, event_fields, records_by}
use Rattle.rules.specs.declared.Address.{Address}
use Rattle.rules.specs.declared.Place.{Place}
use Rattle.rules.specs.declared.Record.{Record}
use Rattle.rules.specs.declared.Decision.{Decision}
use Rattle.rules.specs.declared.Decision.TheVariants.{Refused, Saved, Delivered, Lost}

-- the words, in ASCII: delivered, lost, dropped, held, refused, saved
abbrev pub delivered_word : List ℕ
delivered_word = 100 ∷ 101 ∷ 108 ∷ 105 ∷ 118 ∷ 101 ∷ 114 ∷ 101 ∷ 100 ∷ []

abbrev pub lost_word : List ℕ
lost_word = 108 ∷ 111 ∷ 115 ∷ 116 ∷ []

abbrev pub dropped_word : List ℕ
dropped_word = 100 ∷ 114 ∷ 111 ∷ 112 ∷ 112 ∷ 101 ∷ 100 ∷ []

abbrev pub held_word : List ℕ
held_word = 104 ∷ 101 ∷ 108 ∷ 100 ∷ []

abbrev pub refused_word : List ℕ
refused_word = 114 ∷ 101 ∷ 102 ∷ 117 ∷ 115 ∷ 101 ∷ 100 ∷ []

abbrev pub saved_word : List ℕ
saved_word = 115 ∷ 97 ∷ 118 ∷ 101 ∷ 100 ∷ []

-- an octet in hex, two digits, and octets one after the other
abbrev pub hex_digit : ℕ → ℕ
hex_digit x = if ltb x 10 then 48 + x else 55 + x

abbrev pub hex_of : List ℕ → List ℕ
hex_of [] = []
hex_of (x ∷ xs) = hex_digit (x / 16) ∷ hex_digit (x % 16) ∷ hex_of xs

-- an unsegmented parameter has no reference
abbrev pub reference_word : ℕ → List ℕ
reference_word reference = number_unless 255 reference

-- an address: as many octets as its length says, and never their number's value
abbrev pub address_word : Address → List ℕ
address_word a = if eqb a.length 0 then dash else hex_of (take a.length a.octets)

-- a record with all its fields, behind a word: association, context, reference, instruction, cause, segments, octets, originating address, destination address
unfoldable pub record_line : List ℕ → Record → List ℕ
record_line word r =
    word
    ++ field r.key.association
    ++ field r.key.context.0
    ++ (32 ∷ reference_word r.key.reference.0)
    ++ field r.instruction
    ++ field r.cause
    ++ field r.segments
    ++ field r.octets
    ++ (32 ∷ address_word r.key.origin)
    ++ (32 ∷ address_word r.key.destination)
    ++ (10 ∷ [])

abbrev pub record_word : ℕ → List ℕ
record_word kind = if eqb kind delivered then delivered_word else lost_word

abbrev pub record_lines : List Record → List ℕ
record_lines [] = []
record_lines (r ∷ rs) = record_line (record_word r.kind) r ++ record_lines rs

-- sequences that are open and have no record, in place order: with the fields that a loss of theirs would have, and cause 0
abbrev pub lines_behind : List ℕ → List Record → List ℕ
lines_behind word [] = []
lines_behind word (r ∷ rs) = record_line word r ++ lines_behind word rs

abbrev pub open_lines : List ℕ → List Place → List ℕ
open_lines word ps = lines_behind word (losses_by is_open 0 ps)

-- what became of an event: its refusal; of a segment that was not refused, its decision; of another call nothing is decided
abbrev pub decision_in : Decided → Decision
decision_in Undecided = Refused
decision_in (As d) = d

abbrev pub decision_word : Decision → List ℕ
decision_word Refused = dash
decision_word (Saved p) = saved_word ++ field p
decision_word (Delivered part) = delivered_word
decision_word (Lost cause p) = lost_word

abbrev pub end_word : ℕ → Decision → List ℕ
end_word refusal d = if eqb refusal 0 then decision_word d else refused_word ++ field refusal

-- of a segment's line, how many of its records are the clock's (document 02, A6)
abbrev pub timeouts_field : Event → ℕ → List ℕ
timeouts_field (Opening timer time) n = []
timeouts_field (Segment time association s) n = field n
timeouts_field (Clock time) n = []
timeouts_field (Release association) n = []

-- an event's line: replay's fields, its number, the clock's records of it, what became of it
abbrev pub numbered_line : List ℕ → ℕ → List ℕ → ℕ → Decision → List ℕ
numbered_line fields n timeouts refusal d = fields ++ field n ++ timeouts ++ (32 ∷ end_word refusal d) ++ (10 ∷ [])

-- an opening, refused or not, makes no record of what it drops
abbrev pub dropped_by : Sight → List ℕ
dropped_by s = if is_opening s.event then open_lines dropped_word s.before.table.places else []

abbrev pub listing : Observer ℕ
listing =
    record {
      tells = λ n s.
          numbered_line (event_fields s.event s.outcome.answer) (counted n) (timeouts_field s.event s.outcome.answer.timeouts) s.outcome.answer.refusal
          (decision_in s.outcome.answer.decided)
          ++ record_lines (records_by s.outcome.answer)
          ++ dropped_by s;
      keeps = λ n s. counted n;
      ends = λ n st stops. open_lines held_word st.table.places ++ stop_if stops;
    }

abbrev pub records : List ℕ → List ℕ
records trace = watching listing 0 trace
