-- What is counted in a row has room exactly where the summary after it fits.
use Rattle.std.specs.Prelude.{if◌then◌else◌, Option, Some, None}
use Prim.Native.Nat.{ℕ, ◌+◌, ◌*◌, ◌≤◌, ◌<◌}
use mathlib.Core.Path.{◌≡◌, sym, ap, ◌∙◌}
use mathlib.Core.Bool.{Bool, true, false, and-eq-true_iff}
use mathlib.Core.List.{List, [], ◌∷◌, ◌++◌}
use native.Mathlib.Omega.{arith}
use lib.Dec.{eqb}
use lib.ListN.{length}
use Rattle.rules.specs.Refusals.{first}
use Rattle.rules.specs.Records.{delivered}
use Rattle.rules.specs.Places.{is_at}
use Rattle.rules.specs.Receiving.{record_with}
use Rattle.rules.specs.Summary.{number_at, row_of, row_for, tally, seat, took, column_of, bill_at, bill, billed, room_in, fits, row_checks, total_checks}
use Rattle.rules.specs.declared.Key.{Key}
use Rattle.rules.specs.declared.Record.{Record}
use Rattle.rules.proofs.Rows.{row-for-within}
use Rattle.rules.proofs.Fitting.{fits-took, fits-took-billed, fits-tally, tally-other, seat-other, length-seat, length-tally, column-within}
use Rattle.rules.proofs.Seats.{took-row-of}
use Rattle.receive_perform.specs.Performing.{records_told}
use Rattle.receive_perform.specs.declared.Told.{Told}
use Rattle.receive_perform.specs.declared.Verdict.{Verdict}
use Rattle.receive_count.specs.Counting.{sums_by, room_for, added_in}

column-past : (kind : ℕ) → 4 ≤ column_of kind
column-past kind = go (eqb kind delivered)
  where
    go : (b : Bool) → 4 ≤ (if b then 4 else 6)
    go true = omega arith
    go false = omega arith

-- totals of other columns stay where a segment is taken, and all where a row is marked
taken-room : (m : List ℕ) (row n column s o : ℕ) → row < 64 → 4 ≤ column → room_in (tally m 2 row 1 n) column row s o ≡ room_in m column row s o
taken-room m row n column s o hr four = rw (stays column four, stays (column + 1) (omega arith))
  where
    stays : (c : ℕ) → 4 ≤ c → number_at (tally m 2 row 1 n) c row ≡ number_at m c row
    stays c h = tally-other m 2 row 1 n (64 * c + row) (λ e. omega arith) (λ e. omega arith)

seat-room : (m : List ℕ) (row a column s o : ℕ) → row < 64 → 2 ≤ column → room_in (seat m row a) column row s o ≡ room_in m column row s o
seat-room m row a column s o hr two = rw (stays column two, stays (column + 1) (omega arith))
  where
    stays : (c : ℕ) → 2 ≤ c → number_at (seat m row a) c row ≡ number_at m c row
    stays c h = seat-other m row a (64 * c + row) (λ e. omega arith) (λ e. omega arith)

pub seated-room : (m : List ℕ) (row a n : ℕ) (told : Option Told) → row < 64 → room_for (seat m row a) row n told ≡ room_for m row n told
seated-room m row a n (Some r) hr =
    rw (seat-room m row a 2 1 n hr (omega arith), seat-room m row a (column_of r.kind) r.segments r.octets hr (column-within r.kind).0)
seated-room m row a n None hr = seat-room m row a 2 1 n hr (omega arith)

-- room for both is room for one, then for the other
pub room-first : (m : List ℕ) (row n : ℕ) (told : Option Told) → room_for m row n told ≡ true → room_in m 2 row 1 n ≡ true
room-first m row n (Some r) e = ((and-eq-true_iff (room_in m 2 row 1 n) (room_in m (column_of r.kind) row r.segments r.octets)).0 e).0
room-first m row n None e = e

pub room-then : (m : List ℕ) (row n : ℕ) (r : Told) → row < 64 → room_for m row n (Some r) ≡ true
    → room_in (tally m 2 row 1 n) (column_of r.kind) row r.segments r.octets ≡ true
room-then m row n r hr e =
    taken-room m row n (column_of r.kind) r.segments r.octets hr (column-past r.kind)
    ∙ ((and-eq-true_iff (room_in m 2 row 1 n) (room_in m (column_of r.kind) row r.segments r.octets)).0 e).1

-- the number of the last checks, by the row and the room
pub last-number : (m m' : List ℕ) (a : ℕ) (f : Option ℕ) (b : Bool) → row_for m a ≡ f → fits m m' ≡ b → first (row_checks m a ++ total_checks m m') ≡ (if is_at f then if b then 0 else 22 else 21)
last-number m m' a (Some row) true e g = rw (e, g)
last-number m m' a (Some row) false e g = rw (e, g)
last-number m m' a None b e g = rw e

module _ (m : List ℕ) (long : length m ≡ 512) (a n row : ℕ) (for : row_for m a ≡ Some row) (key : Key) (own : key.association ≡ a) where
  abbrev made : Told → Record
  made r = record_with r.kind r.cause key r.instruction r.segments r.octets

  took-is : took m a n ≡ tally (seat m row a) 2 row 1 n
  took-is = rw for

  bill-is : (r : Told) → bill (took m a n) (made r) ≡ tally (tally (seat m row a) 2 row 1 n) (column_of r.kind) row r.segments r.octets
  bill-is r =
      let at : row_of (tally (seat m row a) 2 row 1 n) key.association ≡ Some row = rw own (took-row-of m long a row n for) in
      rw took-is (ap (λ (f : Option ℕ). bill_at (tally (seat m row a) 2 row 1 n) f (made r)) at)

  pub sums-is : (v : Verdict) → added_in (seat m row a) row n v.told ≡ sums_by m a n v key
  sums-is v = go v.told
    where
      go : (told : Option Told) → added_in (seat m row a) row n told ≡ billed (took m a n) (records_told told key)
      go None = sym took-is
      go (Some r) = sym (bill-is r)

  pub room-is : (v : Verdict) → fits m (sums_by m a n v key) ≡ room_for m row n v.told
  room-is v = go v.told
    where
      second : (r : Told) → fits (took m a n) (bill (took m a n) (made r)) ≡ room_in m (column_of r.kind) row r.segments r.octets
      second r =
          let c = column-within r.kind in
          let hr = row-for-within m a row for in
          let size : length (tally (seat m row a) 2 row 1 n) ≡ 512 = length-tally (seat m row a) 2 row 1 n ∙ length-seat m row a ∙ long in
          rw (bill-is r, took-is)
          (fits-tally (tally (seat m row a) 2 row 1 n) (column_of r.kind) row r.segments r.octets size c.1 hr c.0
          ∙ taken-room (seat m row a) row n (column_of r.kind) r.segments r.octets hr (column-past r.kind)
          ∙ seat-room m row a (column_of r.kind) r.segments r.octets hr c.0)

      go : (told : Option Told) → fits m (billed (took m a n) (records_told told key)) ≡ room_for m row n told
      go None = fits-took m a n row long for
      go (Some r) = fits-took-billed m a n (made r ∷ []) long ∙ rw (fits-took m a n row long for, second r)
