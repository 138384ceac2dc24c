-- What is done where sequences are due: the clock's work in copies, and the segment in the part behind its records.
use Prim.Native.Nat.{ℕ, ◌-◌, ◌*◌, ◌≤◌}
use mathlib.Core.Path.{◌≡◌, sym, ap, ◌∙◌}
use mathlib.Core.Bool.{true, false}
use mathlib.Core.List.{List, [], ◌++◌}
use native.Mathlib.Omega.{arith}
use borrow.Rule.Slice.PartMut.{put_mid, mid_of}
use lib.ListN.{length, take, drop, replicate, length-replicate}
use Rattle.octets.specs.Splice.{splice}
use Rattle.rules.specs.Numbers.{place_count}
use Rattle.rules.specs.Refusals.{unplaced}
use Rattle.rules.specs.Records.{record_length, records_octets}
use Rattle.rules.specs.Soundness.{sound}
use Rattle.rules.specs.Receiving.{unreceived}
use Rattle.rules.specs.Sweep.{Sweeping, report_least, sweep}
use Rattle.rules.specs.Summary.{Counted, counting, summary_sound, fits, billed}
use Rattle.rules.specs.Arrival.{clock_work, table_after, behind, arrival}
use Rattle.rules.specs.Promises.{OfArrival}
use Rattle.rules.specs.declared.Received.{Received}
use Rattle.rules.specs.declared.Record.{Record}
use Rattle.rules.specs.declared.Swept.{Swept}
use Rattle.rules.specs.declared.Table.{Table}
use Rattle.rules.proofs.Arrival.{sound-after, summary-after}
use Rattle.receive_sweep.specs.Sweeping.{Test, Aged, losses, swept_by}
use Rattle.receive_segment.specs.Arrival.{OfSegment}
use Rattle.receive_arrival.specs.Arriving.{Allowed, beside_of}
use Rattle.receive_arrival.proofs.Behind.{front, lent, unwritten, written}
use Rattle.receive_arrival.proofs.Arriving.{fit, unfit, loses, loses-22}

-- the segment's rule at arguments that are the same
same_at : {t t' : Table} {m m' store report report' : List ℕ} {association : ℕ} {s : List ℕ} {r : Received} {m₁ store₁ report₁ : List ℕ} → t ≡ t' → m ≡ m' → report ≡ report'
    → OfSegment t m store report association s r m₁ store₁ report₁ → OfSegment t' m' store report' association s r m₁ store₁ report₁
same_at e f g o = rw (← e, ← f, ← g) o

module _ (t : Table) (m store report : List ℕ) (time association : ℕ) (s : List ℕ) (ok : Allowed t m store report time) where
  abbrev w : Counted Sweeping
  w = clock_work t m report time

  abbrev blank : List ℕ
  blank = replicate report_least 0

  abbrev which : Test
  which = Aged time t.timer

  abbrev lost : List Record
  lost = losses which t.places

  pub unfit-is : fits m (billed m lost) ≡ false → arrival t m store report time association s ≡ counting m (unreceived t store report (unplaced 22))
  unfolding losses sweep
  unfit-is e = unfit t m store report time association s ok e

  -- billed in sums, and swept into the area told
  module _ (room : fits m (billed m lost) ≡ true) {sums : List ℕ} (e : sums ≡ billed m lost) {answer : Swept} {told : List ℕ} (f : answer ≡ (swept_by which time t blank).answer)
      (g : told ≡ (swept_by which time t blank).report) (sized : (answer.records ≤ place_count) × (length (records_octets lost) ≡ record_length * answer.records)) where
    abbrev k : ℕ
    k = answer.records * record_length

    answer-is : answer ≡ w.call.answer
    unfolding sweep
    answer-is = f

    sums-is : sums ≡ w.summary
    unfolding losses sweep
    sums-is = e

    room-is : fits m w.summary ≡ true
    unfolding losses sweep
    room-is = room

    made-sized : length (records_octets lost) ≡ k
    made-sized = omega arith

    within : k ≤ length report
    within = omega (arith, ok.reports)

    behind-is : drop k (splice report 0 (records_octets lost)) ≡ behind w
    unfolding losses sweep
    behind-is = ap (λ (a : Swept). drop (a.records * record_length) (splice report 0 (records_octets lost))) answer-is

    front-is : take k (splice report 0 (records_octets lost)) ≡ take (w.call.answer.records * record_length) w.call.report
    unfolding losses sweep
    front-is = ap (λ (a : Swept). take (a.records * record_length) (splice report 0 (records_octets lost))) answer-is

    told_is : take k (drop 0 told) ≡ records_octets lost
    unfolding losses sweep
    told_is = rw g (front blank (records_octets lost) k made-sized (rw (length-replicate {A = ℕ} report_least 0) (omega arith)))

    -- what the segment is judged by
    pub sound-next : sound answer.table ≡ true
    sound-next = ap (λ (a : Swept). sound a.table) answer-is ∙ sound-after t m store report time association s (fit t m store report time association s ok room-is)

    pub summed-next : summary_sound sums answer.table.places ≡ true
    summed-next =
        ap (λ (a : Swept). summary_sound sums a.table.places) answer-is ∙ rw sums-is (summary-after t m store report time association s (fit t m store report time association s ok room-is))

    module _ (count : length t.places ≡ place_count) {r : Received} {m' store' after : List ℕ}
        (o : OfSegment answer.table sums store (mid_of k (length report - k) report) association s r m' store' after) where
      judged : OfSegment (table_after w) w.summary store (behind w) association s r m' store' after
      judged = same_at (ap (λ (a : Swept). a.table) answer-is) sums-is (lent report (records_octets lost) k made-sized within ∙ behind-is) o

      pub lost-both : (r.refusal ≡ 22 → ⊥) → {a : Received} → a ≡ beside_of r answer.records → {report' : List ℕ} → report' ≡ splice (put_mid k (length report - k) report after) 0 (take k (drop 0 told))
          → OfArrival t m store report time association s a m' store' report'
      lost-both not22 b d =
          let area = d ∙ rw told_is (written report (records_octets lost) k made-sized within after) ∙ ap (λ (l : List ℕ). l ++ after) front-is in
          rw area (loses t m store report time association s ok room-is count judged not22 (b ∙ ap (λ (x : Swept). beside_of r x.records) answer-is))

      pub lost-22 : r.refusal ≡ 22 → {a : Received} → a ≡ (unreceived t [] [] (unplaced r.refusal)).answer → OfArrival t m store report time association s a m store' (put_mid k (length report - k) report after)
      lost-22 is22 b =
          loses-22 t m store report time association s ok room-is count judged is22 b (λ h. unwritten report (records_octets lost) k made-sized within after (h ∙ sym behind-is))
