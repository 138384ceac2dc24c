-- A verdict, counted in a summary.
use Rattle.std.specs.Prelude.{ℕ, ◌≡◌, Bool, true, ◌&&◌, List, ◌++◌, Option, Some, None, Result, Ok}
use Rattle.rules.specs.Refusals.{first}
use Rattle.rules.specs.Summary.{row_for, tally, took, billed, column_of, room_in, row_checks, total_checks}
use Rattle.rules.specs.declared.Key.{Key}
use Rattle.receive_perform.specs.Performing.{records_in}
use Rattle.receive_perform.specs.declared.Told.{Told}
use Rattle.receive_perform.specs.declared.Verdict.{Verdict}
use Rattle.refusals.specs.Numbers.{number_if}
use Rattle.refusals.specs.declared.Refusal.{Refusal}

-- the summary after a segment of n octets of an association, with the records of its verdict
abbrev pub sums_by : List ℕ → ℕ → ℕ → Verdict → Key → List ℕ
sums_by m association n v key = billed (took m association n) (records_in v key)

-- there is room in a row for the segment, and for its record where it has one
abbrev pub room_for : List ℕ → ℕ → ℕ → Option Told → Bool
room_for m row n None = room_in m 2 row 1 n
room_for m row n (Some r) = room_in m 2 row 1 n && room_in m (column_of r.kind) row r.segments r.octets

-- .. and it is added
abbrev pub added_in : List ℕ → ℕ → ℕ → Option Told → List ℕ
added_in m row n None = tally m 2 row 1 n
added_in m row n (Some r) = tally (tally m 2 row 1 n) (column_of r.kind) row r.segments r.octets

-- the refusal is that of the summary's last checks, whatever else the key is; and the row
pub record OfCount (m : List ℕ) (association n : ℕ) (v : Verdict) (counted : Result ℕ Refusal) : Type 0 where
  pub number : (key : Key) → key.association ≡ association → number_if counted ≡ first (row_checks m association ++ total_checks m (sums_by m association n v key))
  pub row : (i : ℕ) → counted ≡ Ok i → row_for m association ≡ Some i
  pub room : (i : ℕ) → counted ≡ Ok i → room_for m i n v.told ≡ true
