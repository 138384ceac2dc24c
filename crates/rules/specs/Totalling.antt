-- What the program totals prints: for each opening a heading, and under it, when the next one empties the rows or the trace ends, a line for each used row.
use Rattle.std.specs.Prelude.{if◌then◌else◌, ℕ, zero, suc, List, [], ◌∷◌, ◌++◌}
use Rattle.rules.specs.Summary.{number_at, is_used}
use Rattle.rules.specs.Trace.{is_opening, Observer, watching}
use Rattle.rules.specs.Lines.{decimal, field, stop_if, counted}

-- the word, in ASCII: opening
abbrev pub opening_word : List ℕ
opening_word = 111 ∷ 112 ∷ 101 ∷ 110 ∷ 105 ∷ 110 ∷ 103 ∷ []

-- an opening's heading: its number among the events, and its refusal or 0
abbrev pub heading_line : ℕ → ℕ → List ℕ
heading_line n refusal = opening_word ++ field n ++ field refusal ++ (10 ∷ [])

-- a row's line: association, then segments and octets taken, delivered, lost
unfoldable pub row_line : List ℕ → ℕ → List ℕ
row_line m row =
    decimal (number_at m 1 row)
    ++ field (number_at m 2 row)
    ++ field (number_at m 3 row)
    ++ field (number_at m 4 row)
    ++ field (number_at m 5 row)
    ++ field (number_at m 6 row)
    ++ field (number_at m 7 row)
    ++ (10 ∷ [])

-- the used ones of the first rows
abbrev pub rows_below : ℕ → List ℕ → List ℕ
rows_below zero m = []
rows_below (suc n) m = rows_below n m ++ (if is_used m n then row_line m n else [])

unfoldable pub row_lines : List ℕ → List ℕ
row_lines m = rows_below 64 m

abbrev pub totalling : Observer ℕ
totalling =
    record {
      tells = λ n s. if is_opening s.event then row_lines s.before.summary ++ heading_line (counted n) s.outcome.answer.refusal else [];
      keeps = λ n s. counted n;
      ends = λ n st stops. row_lines st.summary ++ stop_if stops;
    }

abbrev pub totals : List ℕ → List ℕ
totals trace = watching totalling 0 trace
