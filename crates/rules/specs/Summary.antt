-- Document 02, A1: totals for each lessee, kept beside the table in a summary of 512 numbers. They are 64 rows of eight, and stand column by column: all rows' marks, all rows'
-- associations, then the totals, segments and octets of each: taken, delivered, lost.
use Rattle.std.specs.Prelude.{if◌then◌else◌, ℕ, zero, suc, ◌+◌, ◌*◌, ◌^◌, Bool, true, not, ◌&&◌, ◌||◌, List, [], ◌∷◌, ◌++◌, eqb, leb, length, get_or, set, replicate, Option, Some, None}
use Rattle.rules.specs.General.{every}
use Rattle.rules.specs.Refusals.{Check, ◌when◌, judged, judged_at}
use Rattle.rules.specs.Layout.{fields_of}
use Rattle.rules.specs.Records.{delivered}
use Rattle.rules.specs.Places.{is_open, is_at}
use Rattle.rules.specs.Receiving.{Reception, information_of, segment_checks, received_at, unreceived}
use Rattle.rules.specs.Sweep.{Sweeping, clock_checks, clock_sweep, release_checks, release_sweep, unswept}
use Rattle.rules.specs.declared.Place.{Place}
use Rattle.rules.specs.declared.Table.{Table}
use Rattle.rules.specs.declared.Record.{Record}

-- every number below n passes the test
abbrev pub every_below : ℕ → (ℕ → Bool) → Bool
every_below zero test = true
every_below (suc n) test = test n && every_below n test

-- every two numbers i < j below n pass the test
abbrev pub every_pair : ℕ → (ℕ → ℕ → Bool) → Bool
every_pair n test = every_below n (λ j. every_below j (λ i. test i j))

abbrev pub or_else : Option ℕ → Option ℕ → Option ℕ
or_else (Some i) other = Some i
or_else None other = other

-- the first number below n that passes the test
abbrev pub first_below : ℕ → (ℕ → Bool) → Option ℕ
first_below zero test = None
first_below (suc n) test = or_else (first_below n test) (if test n then Some n else None)

-- up to 64 associations; shut, so that what is said of every row is not written out 64 times
unfoldable pub row_count : ℕ
row_count = 64

-- eight numbers of each
abbrev pub summary_length : ℕ
summary_length = 512

-- six of them are totals
unfoldable pub total_count : ℕ
total_count = 384

-- a total may become 2^63 and no more
abbrev pub total_most : ℕ
total_most = 2 ^ 63

abbrev pub number_at : List ℕ → ℕ → ℕ → ℕ
number_at m column row = get_or m (64 * column + row) 0

abbrev pub put_number : List ℕ → ℕ → ℕ → ℕ → List ℕ
put_number m column row n = set m (64 * column + row) n

-- a row's mark is 1 where it is used and 0 where it is not, so that association 0 can have one
abbrev pub is_used : List ℕ → ℕ → Bool
is_used m row = eqb (number_at m 0 row) 1

abbrev pub is_unused : List ℕ → ℕ → Bool
is_unused m row = eqb (number_at m 0 row) 0

-- all but the mark is zero
abbrev pub is_bare : List ℕ → ℕ → Bool
is_bare m row =
    eqb (number_at m 1 row) 0
    && eqb (number_at m 2 row) 0
    && eqb (number_at m 3 row) 0
    && eqb (number_at m 4 row) 0
    && eqb (number_at m 5 row) 0
    && eqb (number_at m 6 row) 0
    && eqb (number_at m 7 row) 0

-- the row of an association
abbrev pub is_for : List ℕ → ℕ → ℕ → Bool
is_for m association row = is_used m row && eqb (number_at m 1 row) association

abbrev pub row_of : List ℕ → ℕ → Option ℕ
row_of m association = first_below row_count (is_for m association)

-- the lowest unused row
abbrev pub unused_row : List ℕ → Option ℕ
unused_row m = first_below row_count (is_unused m)

-- the row in which a segment of an association is taken
abbrev pub row_for : List ℕ → ℕ → Option ℕ
row_for m association = or_else (row_of m association) (unused_row m)

-- SOUND beside the places of a table: an unused row is zero, no association has two rows, and each open place's has one
abbrev pub row_sound : List ℕ → ℕ → Bool
row_sound m row = is_unused m row && is_bare m row || is_used m row && leb (number_at m 1 row) 65535

abbrev pub rows_apart : List ℕ → ℕ → ℕ → Bool
rows_apart m i j = not (is_used m j && (is_used m i && eqb (number_at m 1 i) (number_at m 1 j)))

abbrev pub is_seated : List ℕ → Place → Bool
is_seated m p = not (is_open p) || is_at (row_of m p.key.association)

unfoldable pub summary_sound : List ℕ → List Place → Bool
summary_sound m ps = every_below row_count (row_sound m) && every_pair row_count (rows_apart m) && every (is_seated m) ps

-- so many segments and octets more, in a column for segments and the next one for octets
abbrev pub tally : List ℕ → ℕ → ℕ → ℕ → ℕ → List ℕ
tally m column row segments octets =
    put_number (put_number m column row (number_at m column row + segments)) (column + 1) row (number_at m (column + 1) row + octets)

abbrev pub seat : List ℕ → ℕ → ℕ → List ℕ
seat m row association = put_number (put_number m 0 row 1) 1 row association

-- TAKING a segment with so many octets of information: the association gets the lowest unused row at its first, and keeps it
abbrev pub took_at : List ℕ → Option ℕ → ℕ → ℕ → List ℕ
took_at m (Some row) association n = tally (seat m row association) 2 row 1 n
took_at m None association n = m

abbrev pub took : List ℕ → ℕ → ℕ → List ℕ
took m association n = took_at m (row_for m association) association n

-- BILLING a record: what it counts is delivered or lost, in its association's row
abbrev pub column_of : ℕ → ℕ
column_of kind = if eqb kind delivered then 4 else 6

abbrev pub bill_at : List ℕ → Option ℕ → Record → List ℕ
bill_at m (Some row) r = tally m (column_of r.kind) row r.segments r.octets
bill_at m None r = m

abbrev pub bill : List ℕ → Record → List ℕ
bill m r = bill_at m (row_of m r.key.association) r

abbrev pub billed : List ℕ → List Record → List ℕ
billed m [] = m
billed m (r ∷ rs) = billed (bill m r) rs

-- a total is looked at only where something was added to it
abbrev pub total_fits : ℕ → ℕ → Bool
total_fits old new = eqb new old || leb new total_most

-- so many segments and octets more fit, in a column and the next
abbrev pub room_in : List ℕ → ℕ → ℕ → ℕ → ℕ → Bool
room_in m column row segments octets =
    total_fits (number_at m column row) (number_at m column row + segments)
    && total_fits (number_at m (column + 1) row) (number_at m (column + 1) row + octets)

unfoldable pub fits : List ℕ → List ℕ → Bool
fits m m' = every_below total_count (λ k. total_fits (get_or m (128 + k) 0) (get_or m' (128 + k) 0))

-- the summary is judged with the table; 21 and 22 are the last
abbrev pub summary_checks : List ℕ → List Place → List Check
summary_checks m ps =
    1 when not (summary_sound m ps) ∷ []

abbrev pub row_checks : List ℕ → ℕ → List Check
row_checks m association =
    21 when not (is_at (row_for m association)) ∷ []

abbrev pub total_checks : List ℕ → List ℕ → List Check
total_checks m m' =
    22 when not (fits m m') ∷ []

-- what a call leaves, with the summary
pub record Counted (A : Type 0) : Type 0 where
  pub call : A
  pub summary : List ℕ

abbrev pub counting : {A : Type 0} → List ℕ → A → Counted A
counting m a = record { call = a; summary = m }

-- SEGMENT: 1, 2, 3, 4, then 5 to 9 and 23, then 10, 21, 22
unfoldable pub segment_sums : Table → List ℕ → List ℕ → List ℕ → ℕ → List ℕ → List ℕ
segment_sums t m store report association s =
    billed (took m association (length (information_of s (fields_of t.registry s)))) (received_at t store report association s).made

unfoldable pub segment_checks_with : Table → List ℕ → List ℕ → List ℕ → ℕ → List ℕ → List Check
segment_checks_with t m store report association s =
    summary_checks m t.places
    ++ (segment_checks t store report association s
    ++ (row_checks m association
    ++ total_checks m (segment_sums t m store report association s)))

unfoldable pub segment_with : Table → List ℕ → List ℕ → List ℕ → ℕ → List ℕ → Counted Reception
segment_with t m store report association s =
    judged_at (segment_checks_with t m store report association s)
    (λ x. counting m (unreceived t store report x))
    (counting (segment_sums t m store report association s) (received_at t store report association s))

-- CLOCK and RELEASE: 22 is the last. Several losses of one association are judged by their sum
abbrev pub sweep_sums : List ℕ → Sweeping → List ℕ
sweep_sums m o = billed m o.made

abbrev pub sweep_checks_with : List Check → Table → List ℕ → Sweeping → List Check
sweep_checks_with checks t m o =
    summary_checks m t.places ++ (checks ++ total_checks m (sweep_sums m o))

abbrev pub sweep_with : List Check → Table → List ℕ → List ℕ → Sweeping → Counted Sweeping
sweep_with checks t m report o =
    judged (sweep_checks_with checks t m o) (λ n. counting m (unswept t report n)) (counting (sweep_sums m o) o)

unfoldable pub clock_checks_with : Table → List ℕ → List ℕ → ℕ → List Check
clock_checks_with t m report time = sweep_checks_with (clock_checks t report time) t m (clock_sweep t report time)

unfoldable pub clock_with : Table → List ℕ → List ℕ → ℕ → Counted Sweeping
clock_with t m report time = sweep_with (clock_checks t report time) t m report (clock_sweep t report time)

unfoldable pub release_checks_with : Table → List ℕ → List ℕ → ℕ → List Check
release_checks_with t m report association = sweep_checks_with (release_checks t report) t m (release_sweep t report association)

unfoldable pub release_with : Table → List ℕ → List ℕ → ℕ → Counted Sweeping
release_with t m report association = sweep_with (release_checks t report) t m report (release_sweep t report association)

-- OPENING, refused or not, empties all rows
unfoldable pub empty_summary : List ℕ
empty_summary = replicate summary_length 0
