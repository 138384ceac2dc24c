-- Document 02, A6: an arrival carries its time. It does the clock's work first, and then the segment's, at the table and the summary that the clock's work leaves. The rules of both
-- are those of Sweep, Receiving and Summary, and are put together here alone. Its refusals are three lists, by what a refusal leaves behind.
use Rattle.std.specs.Prelude.{ℕ, ◌+◌, ◌*◌, Bool, ◌&&◌, ◌||◌, List, ◌++◌, eqb, leb, length, take, drop}
use Rattle.rules.specs.Numbers.{place_count}
use Rattle.rules.specs.Refusals.{Check, judged_at}
use Rattle.rules.specs.Records.{record_length}
use Rattle.rules.specs.Soundness.{sound}
use Rattle.rules.specs.Receiving.{Reception, lent_checks, own_checks, received_at, unreceived}
use Rattle.rules.specs.Sweep.{Sweeping, step_checks, clock_sweep}
use Rattle.rules.specs.Summary.{Counted, counting, summary_checks, row_checks, total_checks, segment_sums, sweep_sums}
use Rattle.rules.specs.declared.Table.{Table}
use Rattle.rules.specs.declared.Decision.TheVariants.{Refused}
use Rattle.rules.specs.declared.Fault.{Fault}

-- a report area holds a record of every place, and the segment's own
abbrev pub records_most : ℕ
records_most = place_count + 1

abbrev pub arrival_least : ℕ
arrival_least = records_most * record_length

-- THE CLOCK'S WORK
abbrev pub clock_work : Table → List ℕ → List ℕ → ℕ → Counted Sweeping
clock_work t m report time = counting (sweep_sums m (clock_sweep t report time)) (clock_sweep t report time)

-- what it leaves: the table, and the report area behind its records
abbrev pub table_after : Counted Sweeping → Table
table_after w = w.call.answer.table

abbrev pub behind : Counted Sweeping → List ℕ
behind w = drop (w.call.answer.records * record_length) w.call.report

-- THE WHOLE: 1, 2, 3, 13, and the 22 of the clock's work. A refusal here changes nothing
unfoldable pub whole_checks : Table → List ℕ → List ℕ → List ℕ → ℕ → List Check
whole_checks t m store report time =
    summary_checks m t.places
    ++ (lent_checks arrival_least (sound t) (length store) (length report)
    ++ (step_checks time t.clock
    ++ total_checks m (clock_work t m report time).summary))

-- THE SEGMENT'S PART: 4, then 5 to 9 and 23, then 10, 21. A refusal here leaves the clock's work
unfoldable pub part_checks : Counted Sweeping → ℕ → List ℕ → List Check
part_checks w association s = own_checks (table_after w) association s ++ row_checks w.summary association

-- THE LAST: the segment's 22, with the clock's sums added. A refusal here undoes both
unfoldable pub both_checks : Counted Sweeping → List ℕ → ℕ → List ℕ → List Check
both_checks w store association s = total_checks w.summary (segment_sums (table_after w) w.summary store (behind w) association s)

-- the three in their order
unfoldable pub arrival_checks : Table → List ℕ → List ℕ → List ℕ → ℕ → ℕ → List ℕ → List Check
arrival_checks t m store report time association s =
    let w : Counted Sweeping = clock_work t m report time in
    whole_checks t m store report time ++ (part_checks w association s ++ both_checks w store association s)

-- the numbers of the second list: the clock's work stands
abbrev pub stands : ℕ → Bool
stands n = leb 4 n && leb n 10 || eqb n 21 || eqb n 23

-- the clock's work alone, reported beside the segment's refusal
abbrev pub clocked_with : Counted Sweeping → List ℕ → Fault → Counted Reception
clocked_with w store x =
    let n : ℕ = w.call.answer.records in
    counting w.summary
    (record {
      answer = record { table = table_after w; decision = Refused; position = x.position; refusal = x.number; records = n; timeouts = n };
      store = store;
      report = w.call.report;
      made = w.call.made;
    })

-- both: the segment's record stands behind the clock's
abbrev pub both_with : Counted Sweeping → Counted Reception → Counted Reception
both_with w o =
    let n : ℕ = w.call.answer.records in
    counting o.summary
    (record {
      answer = record {
        table = o.call.answer.table;
        decision = o.call.answer.decision;
        position = o.call.answer.position;
        refusal = o.call.answer.refusal;
        records = n + o.call.answer.records;
        timeouts = n;
      };
      store = o.call.store;
      report = take (n * record_length) w.call.report ++ o.call.report;
      made = w.call.made ++ o.call.made;
    })

-- AN ARRIVAL
unfoldable pub arrival : Table → List ℕ → List ℕ → List ℕ → ℕ → ℕ → List ℕ → Counted Reception
arrival t m store report time association s =
    let w : Counted Sweeping = clock_work t m report time in
    let undone : Fault → Counted Reception = λ x. counting m (unreceived t store report x) in
    judged_at (whole_checks t m store report time) undone
    (judged_at (part_checks w association s) (clocked_with w store)
    (judged_at (both_checks w store association s) undone
    (both_with w
    (counting (segment_sums (table_after w) w.summary store (behind w) association s) (received_at (table_after w) store (behind w) association s)))))
