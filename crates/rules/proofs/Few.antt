-- How many records a call makes: a segment's rule one at most, an arrival one of every place and the segment's own; and the report area has room for them.
use Rattle.std.specs.Prelude.{Option}
use Prim.Native.Nat.{ℕ, ◌*◌, ◌≤◌}
use mathlib.Core.Path.{◌≡◌, refl, sym, ap, ◌∙◌}
use mathlib.Core.List.{List, ◌++◌}
use native.Mathlib.Omega.{arith}
use lib.ListN.{length, take, drop, length-append, take-append-drop}
use Rattle.octets.specs.Splice.{splice}
use Rattle.octets.proofs.Splice.{splice-length}
use Rattle.rules.specs.Numbers.{place_count}
use Rattle.rules.specs.Records.{record_length}
use Rattle.rules.specs.Receiving.{effect_of, Reception, received_at}
use Rattle.rules.specs.Sweep.{is_due, sweep}
use Rattle.rules.specs.Summary.{Counted, segment_with}
use Rattle.rules.specs.Arrival.{records_most, clock_work, table_after, behind, arrival}
use Rattle.rules.specs.declared.Key.{Key}
use Rattle.rules.specs.declared.Place.{Place}
use Rattle.rules.specs.declared.Table.{Table}
use Rattle.rules.specs.declared.Fields.{Fields}
use Rattle.rules.specs.declared.Line.{Line}
use Rattle.rules.specs.declared.Line.TheVariants.{Unsegmented, Broken, Restart, Start, Final, Next}
use Rattle.rules.proofs.Answers.{segment-by}
use Rattle.rules.proofs.Arrival.{losses-few, arrival-by, whole_parts}

effect-one : (line : Line) (t : Table) (store : List ℕ) (key : Key) (f : Fields) (octets : List ℕ) (place : Option ℕ) (p : Place) (room : Option ℕ)
    → length (effect_of line t store key f octets place p room).records ≤ 1
unfolding effect_of
effect-one Unsegmented t store key f octets place p room = omega arith
effect-one (Broken cause) t store key f octets place p room = omega arith
effect-one Restart t store key f octets place p room = omega arith
effect-one Start t store key f octets place p room = omega arith
effect-one Final t store key f octets place p room = omega arith
effect-one Next t store key f octets place p room = omega arith

received-one : (t : Table) (store report : List ℕ) (association : ℕ) (s : List ℕ) → (received_at t store report association s).answer.records ≤ 1
received-one t store report association s = effect-one _ t store _ _ _ _ _ _

pub segment-one : (t : Table) (m store report : List ℕ) (association : ℕ) (s : List ℕ) → (segment_with t m store report association s).call.answer.records ≤ 1
segment-one t m store report association s =
    segment-by t m store report association s (λ (o : Reception). o.answer.records ≤ 1) (λ e. received-one t store report association s) (λ e. omega arith)

-- what is written in the part of an area behind k leaves its length
behind-length : (k : ℕ) (area octets : List ℕ) → length (take k area ++ splice (drop k area) 0 octets) ≡ length area
behind-length k area octets =
    length-append (take k area) (splice (drop k area) 0 octets) ∙ rw splice-length (sym (length-append (take k area) (drop k area)) ∙ ap length (take-append-drop k area))

abbrev pub Few : ℕ → List ℕ → Type 0
Few records report = (records ≤ records_most) × (record_length * records ≤ length report)

pub arrival-few : (t : Table) (m store report : List ℕ) (time association : ℕ) (s : List ℕ) → length t.places ≡ place_count
    → Few (arrival t m store report time association s).call.answer.records (arrival t m store report time association s).call.report
unfolding sweep
arrival-few t m store report time association s count =
    let w = clock_work t m report time in
    let due = losses-few (is_due time t.timer) 6 t.places in
    arrival-by t m store report time association s (λ (o : Counted Reception). Few o.call.answer.records o.call.report) (λ e. (omega arith, omega arith))
    (λ e f. let long = (whole_parts t m store report time association s e).reports in (omega arith, rw splice-length (omega arith)))
    (λ e f g. (omega arith, omega arith))
    (λ e f g.
    let long = (whole_parts t m store report time association s e).reports in
    let one = received-one (table_after w) store (behind w) association s in
    (omega arith, rw (behind-length, splice-length) (omega arith)))

-- and the area keeps its length
pub report-length : (t : Table) (m store report : List ℕ) (time association : ℕ) (s : List ℕ) → length (arrival t m store report time association s).call.report ≡ length report
unfolding sweep
report-length t m store report time association s =
    arrival-by t m store report time association s (λ (o : Counted Reception). length o.call.report ≡ length report)
    (λ e. refl) (λ e f. splice-length report 0 _) (λ e f g. refl) (λ e f g. rw (behind-length, splice-length))
