-- What is printed of an event, by its kind octet and its answer.
use Rattle.std.specs.Prelude.{if◌then◌else◌, ℕ, ◌+◌, Bool, List, [], ◌∷◌, ◌++◌, eqb}
use Rattle.rules.specs.Records.{records_from}
use Rattle.rules.specs.Lines.{field, stop_if}
use Rattle.rules.specs.Listing.{dropped_word, held_word, reference_word, record_lines, open_lines, numbered_line}
use Rattle.rules.specs.declared.Key.{Key}
use Rattle.rules.specs.declared.Place.{Place}
use Rattle.rules.specs.declared.Record.{Record}
use Rattle.trace_lines.specs.Printing.{fields_most, fields_for}
use Rattle.trace_items.specs.declared.Happening.{Happening}

-- the longest line of a record
abbrev pub line_most : ℕ
line_most = 239

-- .. and of an event: behind replay's fields a number, that of the clock's records, a space, what became of it, and the line's end
abbrev pub event_most : ℕ
event_most = fields_most + 21 + 21 + 1 + 28 + 1

-- a record's line, as it is written: what names the sequence, what is said of it; behind them the addresses
abbrev pub named_fields : List ℕ → Key → List ℕ
named_fields word k = word ++ field k.association ++ field k.context.0 ++ (32 ∷ reference_word k.reference.0)

abbrev pub count_fields : Record → List ℕ
count_fields r = field r.instruction ++ field r.cause ++ field r.segments ++ field r.octets

abbrev pub timeouts_for : ℕ → ℕ → List ℕ
timeouts_for kind n = if eqb kind 33 then field n else []

abbrev pub line_for : ℕ → Happening → List ℕ → List ℕ
line_for number h report =
    numbered_line (fields_for h.kind h.refusal h.position h.records report) number (timeouts_for h.kind h.timeouts) h.refusal h.decision

-- the line, the records, and what an opening drops
abbrev pub listing_for : ℕ → Happening → List ℕ → List Place → List ℕ
listing_for number h report places =
    line_for number h report ++ record_lines (records_from h.records report) ++ (if eqb h.kind 32 then open_lines dropped_word places else [])

abbrev pub end_for : List Place → Bool → List ℕ
end_for places stops = open_lines held_word places ++ stop_if stops
