-- What the program replay prints: a line for each event, and `stop` where the trace stops.
use Rattle.std.specs.Prelude.{if◌then◌else◌, ℕ, zero, suc, ◌+◌, ◌/◌, ◌%◌, ◌^◌, Bool, List, [], ◌∷◌, ◌++◌, eqb, ltb}
use Rattle.rules.specs.Refusals.{nowhere}
use Rattle.rules.specs.Records.{delivered, lost, records_from}
use Rattle.rules.specs.Calls.{Answer}
use Rattle.rules.specs.Trace.{Event, Opening, Segment, Clock, Release, Observer, watching}
use Rattle.rules.specs.declared.Record.{Record}

-- the names, in ASCII: open, segment, clock, release, stop
abbrev pub name_of : Event → List ℕ
name_of (Opening timer time) = 111 ∷ 112 ∷ 101 ∷ 110 ∷ []
name_of (Segment time association s) = 115 ∷ 101 ∷ 103 ∷ 109 ∷ 101 ∷ 110 ∷ 116 ∷ []
name_of (Clock time) = 99 ∷ 108 ∷ 111 ∷ 99 ∷ 107 ∷ []
name_of (Release association) = 114 ∷ 101 ∷ 108 ∷ 101 ∷ 97 ∷ 115 ∷ 101 ∷ []

abbrev pub stop_line : List ℕ
stop_line = 115 ∷ 116 ∷ 111 ∷ 112 ∷ 10 ∷ []

-- a number in decimal, to twenty digits: any of 64 bits
abbrev pub digits_of : ℕ → ℕ → List ℕ
digits_of zero x = []
digits_of (suc n) x = if ltb x 10 then (48 + x) ∷ [] else digits_of n (x / 10) ++ ((48 + x % 10) ∷ [])

abbrev pub decimal : ℕ → List ℕ
decimal x = digits_of 20 x

-- a space, and a number
abbrev pub field : ℕ → List ℕ
field x = 32 ∷ decimal x

-- a dash where there is nothing to say: in the place of one number
abbrev pub dash : List ℕ
dash = 45 ∷ []

abbrev pub number_unless : ℕ → ℕ → List ℕ
number_unless none x = if eqb x none then dash else decimal x

-- the octets of the records of a kind
abbrev pub octets_of : ℕ → List Record → ℕ
octets_of kind [] = 0
octets_of kind (r ∷ rs) = (if eqb r.kind kind then r.octets else 0) + octets_of kind rs

-- name, refusal number or 0, records made, octets delivered, octets lost
abbrev pub line_fields : List ℕ → ℕ → ℕ → ℕ → ℕ → List ℕ
line_fields name refusal records gained missed = name ++ field refusal ++ field records ++ field gained ++ field missed

-- the records that an answer has in its report
abbrev pub records_by : Answer → List Record
records_by a = records_from a.records a.lent.report

-- the position of the octet at fault, or a dash; only a segment's line has it (document 02, A5)
abbrev pub position_word : ℕ → List ℕ
position_word at = number_unless nowhere at

abbrev pub position_field : Event → ℕ → List ℕ
position_field (Opening timer time) at = []
position_field (Segment time association s) at = 32 ∷ position_word at
position_field (Clock time) at = []
position_field (Release association) at = []

unfoldable pub event_fields : Event → Answer → List ℕ
event_fields e a =
    line_fields (name_of e) a.refusal a.records (octets_of delivered (records_by a)) (octets_of lost (records_by a))
    ++ position_field e a.position

abbrev pub stop_if : Bool → List ℕ
stop_if stops = if stops then stop_line else []

-- events are numbered from 1, in 64 bits; replay does not print the number
abbrev pub counted : ℕ → ℕ
counted n = (n + 1) % 2 ^ 64

-- a line for each event
abbrev pub lining : Observer ℕ
lining =
    record {
      tells = λ n s. event_fields s.event s.outcome.answer ++ (10 ∷ []);
      keeps = λ n s. counted n;
      ends = λ n st stops. stop_if stops;
    }

abbrev pub replay : List ℕ → List ℕ
replay trace = watching lining 0 trace
