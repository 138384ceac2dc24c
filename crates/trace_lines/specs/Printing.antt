-- A line by its event's kind octet, and how long it can be.
use Rattle.std.specs.Prelude.{if◌then◌else◌, ℕ, ◌+◌, ◌*◌, List, [], ◌∷◌, ◌++◌, eqb}
use Rattle.rules.specs.Records.{delivered, lost, records_from}
use Rattle.rules.specs.Trace.{Opening, Segment, Clock, Release}
use Rattle.rules.specs.Lines.{name_of, octets_of, line_fields, position_word}

abbrev pub name_for : ℕ → List ℕ
name_for kind =
    if eqb kind 32 then name_of (Opening 0 0) else
    if eqb kind 33 then name_of (Segment 0 0 []) else
    if eqb kind 34 then name_of (Clock 0) else name_of (Release 0)

-- the fields that every event has, of a kind that made so many records, the first of a report
unfoldable pub counts_for : ℕ → ℕ → ℕ → List ℕ → List ℕ
counts_for kind refusal n report =
    line_fields (name_for kind) refusal n (octets_of delivered (records_from n report)) (octets_of lost (records_from n report))

-- a segment's position behind them
unfoldable pub fields_for : ℕ → ℕ → ℕ → ℕ → List ℕ → List ℕ
fields_for kind refusal position n report = counts_for kind refusal n report ++ (if eqb kind 33 then 32 ∷ position_word position else [])

abbrev pub line_for : ℕ → ℕ → ℕ → ℕ → List ℕ → List ℕ
line_for kind refusal position n report = fields_for kind refusal position n report ++ (10 ∷ [])

-- the longest: a name of 7 octets, and a space and 20 digits for each number
abbrev pub counts_most : ℕ
counts_most = 7 + 4 * 21

abbrev pub fields_most : ℕ
fields_most = counts_most + 21
