-- An arrival is two calls: the clock's, and the segment's rule at what that leaves. A refusal of the segment's part leaves what the clock's call leaves; at the table's own time an arrival
-- is the segment's rule.
use Rattle.std.specs.Prelude.{if◌then◌else◌}
use Prim.Native.Nat.{ℕ, suc, ◌+◌, ◌-◌, ◌*◌, ◌≤◌, ◌^◌}
use mathlib.Core.Path.{◌≡◌, refl, sym, ap, ◌∙◌}
use mathlib.Core.Bool.{Bool, true, false, and-eq-true_iff, true≢false}
use mathlib.Core.List.{List, [], ◌∷◌, ◌++◌, map, append-nil}
use native.Mathlib.Nat.{add-zero, zero-add}
use native.Mathlib.Omega.{arith}
use borrow.Author.Tests.{ltb-false, le-ltb, not-true, not-false}
use lib.ListN.{length, length-drop, take-append-drop}
use Rattle.octets.proofs.Splice.{splice-length, splice-nil}
use Rattle.rules.specs.General.{those}
use Rattle.rules.specs.Numbers.{store_least, place_count, elapsed}
use Rattle.rules.specs.Refusals.{Check, accepted, first, fault, unplaced, judged_at}
use Rattle.rules.specs.Layout.{reading_checks}
use Rattle.rules.specs.Records.{record_length}
use Rattle.rules.specs.Soundness.{sound}
use Rattle.rules.specs.Receiving.{Reception, lent_checks, own_checks, segment_checks, received_at, unreceived}
use Rattle.rules.specs.Sweep.{Sweeping, freed_by, losses_by, loss_of, report_least, sweep, is_due, step_checks, clock_checks}
use Rattle.rules.specs.Summary.{Counted, counting, summary_sound, fits, summary_checks, row_checks, total_checks, segment_sums, segment_checks_with, segment_with, clock_checks_with, clock_with}
use Rattle.rules.specs.Arrival.{arrival_least, clock_work, table_after, behind, whole_checks, part_checks, both_checks, stands, clocked_with, both_with, arrival}
use Rattle.rules.specs.declared.Place.{Place}
use Rattle.rules.specs.declared.Table.{Table}
use Rattle.rules.specs.declared.Fault.{Fault}
use Rattle.rules.proofs.Refusals.{Each, each_append, first-each, accepted-both, both-accepted, fault-by, fault-append}
use Rattle.rules.proofs.Least.{reading-each}
use Rattle.rules.proofs.Answers.{holds_not}
use Rattle.rules.proofs.Sweeping.{clock-sound, none-due}
use Rattle.rules.proofs.Fitting.{fits-same}
use Rattle.rules.proofs.Seats.{swept-seats}

-- at most a record of every place
pub losses-few : (test : Place → Bool) (cause : ℕ) (ps : List Place) → length (losses_by test cause ps) ≤ length ps
losses-few test cause [] = omega arith
losses-few test cause (p ∷ ps) = go (test p) (losses-few test cause ps)
  where
    go : (b : Bool) → length (losses_by test cause ps) ≤ length ps → length (map (loss_of cause) (if b then p ∷ those test ps else those test ps)) ≤ suc (length ps)
    go true l = omega arith
    go false l = omega arith

passed : {A : Type 0} (xs ys : List Check) (f : Fault → A) (a : A) → accepted xs ≡ true → judged_at (xs ++ ys) f a ≡ judged_at ys f a
passed xs ys f a e = fault-append xs ys f a ∙ rw e

module _ (t : Table) (m store report : List ℕ) (time association : ℕ) (s : List ℕ) where
  abbrev w : Counted Sweeping
  w = clock_work t m report time

  abbrev whole : List Check
  whole = whole_checks t m store report time

  abbrev part : List Check
  part = part_checks w association s

  abbrev both : List Check
  both = both_checks w store association s

  abbrev undone : Fault → Counted Reception
  undone x = counting m (unreceived t store report x)

  -- the segment's rule at what the clock's work leaves: refused, carried out
  abbrev second : Counted Reception
  second = segment_with (table_after w) w.summary store (behind w) association s

  abbrev declined : Fault → Counted Reception
  declined x = counting w.summary (unreceived (table_after w) store (behind w) x)

  abbrev taken : Counted Reception
  taken = counting (segment_sums (table_after w) w.summary store (behind w) association s) (received_at (table_after w) store (behind w) association s)

  pub arrival-by : (P : Counted Reception → Type 0) → (accepted whole ≡ false → P (undone (fault whole)))
      → (accepted whole ≡ true → accepted part ≡ false → P (clocked_with w store (fault part)))
      → (accepted whole ≡ true → accepted part ≡ true → accepted both ≡ false → P (undone (fault both)))
      → (accepted whole ≡ true → accepted part ≡ true → accepted both ≡ true → P (both_with w taken)) → P (arrival t m store report time association s)
  unfolding arrival
  arrival-by P a b c d = fault-by P whole undone _ (λ e. fault-by P part (clocked_with w store) _ (λ f. fault-by P both undone _ (d e f) (c e f)) (b e)) a

  -- the numbers of the second list leave the clock's work; those of the others do not
  pub part-each : (P : ℕ → Type 0) → P 4 → P 5 → P 6 → P 7 → P 8 → P 9 → P 10 → P 21 → P 23 → Each P part
  unfolding part_checks
  part-each P four five six seven eight nine ten row padded =
      let reads : List Check = reading_checks (table_after w).registry s in
      let own : Each P (own_checks (table_after w) association s) = each_append P reads _ (reading-each P four five six seven eight nine padded (table_after w).registry s) (ten, tt) in
      each_append P (own_checks (table_after w) association s) (row_checks w.summary association) own (row, tt)

  pub part-stands : accepted part ≡ false → stands (first part) ≡ true
  part-stands e = first-each (λ n. stands n ≡ true) part (part-each (λ n. stands n ≡ true) refl refl refl refl refl refl refl refl refl) e

  pub both-22 : accepted both ≡ false → fault both ≡ unplaced 22
  unfolding both_checks
  both-22 e = go (fits w.summary (segment_sums (table_after w) w.summary store (behind w) association s)) refl
    where
      go : (b : Bool) → fits w.summary (segment_sums (table_after w) w.summary store (behind w) association s) ≡ b → fault both ≡ unplaced 22
      go true f = absurd (true≢false (sym (rw f) ∙ e))
      go false f = rw f

  abbrev pub Undoes : ℕ → Type 0
  Undoes n = (stands n ≡ false) × (n ≡ 0 → ⊥)

  pub whole-undoes : accepted whole ≡ false → Undoes (first whole)
  unfolding whole_checks
  whole-undoes e =
      let no : (n : ℕ) → 1 ≤ n → n ≡ 0 → ⊥ = λ n b z. omega arith in
      first-each Undoes whole ((refl, no 1 (omega arith)), ((refl, no 1 (omega arith)), ((refl, no 2 (omega arith)), ((refl, no 3 (omega arith)), ((refl, no 13 (omega arith)), ((refl, no 22 (omega arith)), tt)))))) e

  -- what the first list leaves where none of it applies
  pub record Whole : Type 0 where
    pub summary : summary_sound m t.places ≡ true
    pub table : sound t ≡ true
    pub stores : store_least ≤ length store
    pub reports : arrival_least ≤ length report
    pub steps : accepted (step_checks time t.clock) ≡ true
    pub room : fits m w.summary ≡ true

  pub whole_parts : accepted whole ≡ true → Whole
  unfolding whole_checks
  whole_parts e =
      let totals : List Check = total_checks m w.summary in
      let three : List Check = lent_checks arrival_least (sound t) (length store) (length report) in
      let one = accepted-both (summary_checks m t.places) (three ++ (step_checks time t.clock ++ totals)) e in
      let two = accepted-both three (step_checks time t.clock ++ totals) one.1 in
      let last = accepted-both (step_checks time t.clock) totals two.1 in
      let all = simp and-eq-true_iff at two.0 in
      record {
        summary = holds_not _ 1 one.0;
        table = not-false _ (not-true _ all.0);
        stores = ltb-false _ _ (not-true _ all.1.0);
        reports = ltb-false _ _ (not-true _ all.1.1.0);
        steps = last.0;
        room = holds_not _ 22 last.1;
      }

  module _ (allowed : accepted whole ≡ true) where
    ok : Whole
    ok = whole_parts allowed

    pub clock-accepts : accepted (clock_checks_with t m report time) ≡ true
    unfolding clock_checks_with clock_checks
    clock-accepts =
        let long = ok.reports in
        let first : accepted (summary_checks m t.places) ≡ true = rw ok.summary in
        let areas : accepted (clock_checks t report time) ≡ true = rw (ok.table, le-ltb (length report) report_least (omega arith)) ok.steps in
        let last : accepted (total_checks m w.summary) ≡ true = rw ok.room in
        both-accepted (summary_checks m t.places) (clock_checks t report time ++ total_checks m w.summary) first (both-accepted (clock_checks t report time) (total_checks m w.summary) areas last)

    -- the clock's work is what its call does
    pub clock-is : clock_with t m report time ≡ w
    unfolding clock_with clock_checks_with
    clock-is = rw clock-accepts

    -- and leaves what the segment's rule asks for
    pub sound-after : sound (table_after w) ≡ true
    sound-after = clock-sound t report time ok.table

    pub summary-after : summary_sound w.summary (table_after w).places ≡ true
    unfolding sweep
    summary-after = swept-seats m w.call.made (is_due time t.timer) t.places ok.summary

    module _ (count : length t.places ≡ place_count) where
      pub behind-long : record_length ≤ length (behind w)
      unfolding sweep
      behind-long =
          let few = losses-few (is_due time t.timer) 6 t.places in
          let long = ok.reports in
          rw (length-drop (w.call.answer.records * record_length) w.call.report, splice-length) (omega arith)

      -- so the segment's rule comes to its own checks at once
      pub second_is : second ≡ judged_at part declined (judged_at both declined taken)
      unfolding segment_with segment_checks_with segment_checks part_checks both_checks
      second_is =
          let t' : Table = table_after w in
          let n : ℕ = length (behind w) in
          let lent : List Check = lent_checks record_length (sound t') (length store) n in
          let rows : List Check = row_checks w.summary association in
          let first : accepted (summary_checks w.summary t'.places) ≡ true = rw summary-after in
          let areas : accepted lent ≡ true = rw (sound-after, le-ltb (length store) store_least ok.stores, le-ltb n record_length behind-long) in
          passed (summary_checks w.summary t'.places) ((lent ++ own_checks t' association s) ++ (rows ++ both)) declined taken first
          ∙ fault-append (lent ++ own_checks t' association s) (rows ++ both) declined taken
          ∙ passed lent (own_checks t' association s) declined _ areas
          ∙ ap (judged_at (own_checks t' association s) declined) (fault-append rows both declined taken)
          ∙ sym (fault-append (own_checks t' association s) rows declined (judged_at both declined taken))

      pub second-declined : accepted part ≡ false → second ≡ declined (fault part)
      second-declined e = second_is ∙ rw e

      pub second-last : accepted part ≡ true → accepted both ≡ false → second ≡ declined (fault both)
      second-last e f = second_is ∙ rw (e, f)

      pub second-taken : accepted part ≡ true → accepted both ≡ true → second ≡ taken
      second-taken e f = second_is ∙ rw (e, f)

      -- a segment that is refused leaves the report as the clock's work left it
      beside : (x : Fault) → clocked_with w store x ≡ both_with w (declined x)
      beside x =
          let n : ℕ = w.call.answer.records in
          rw (take-append-drop (n * record_length) w.call.report, add-zero n, append-nil w.call.made)

      -- TWO CALLS: the clock's call, and the segment's rule at what it leaves, unless that is a 22. The segment may be refused otherwise: the clock's work stands
      pub two-calls : (second.call.answer.refusal ≡ 22 → ⊥) → arrival t m store report time association s ≡ both_with (clock_with t m report time) second
      two-calls not22 =
          rw clock-is (arrival-by (λ (o : Counted Reception). o ≡ both_with w second)
          (λ e. absurd (true≢false (sym allowed ∙ e)))
          (λ e f. beside (fault part) ∙ ap (both_with w) (sym (second-declined f)))
          (λ e f g. absurd (not22 (ap (λ (o : Counted Reception). o.call.answer.refusal) (second-last f g) ∙ ap (λ (x : Fault). x.number) (both-22 g))))
          (λ e f g. ap (both_with w) (sym (second-taken f g))))

      -- a 22 of the segment undoes both
      pub undone-both : second.call.answer.refusal ≡ 22 → arrival t m store report time association s ≡ undone (unplaced 22)
      undone-both is22 =
          arrival-by (λ (o : Counted Reception). o ≡ undone (unplaced 22))
          (λ e. absurd (true≢false (sym allowed ∙ e)))
          (λ e f.
          let n : first part ≡ 22 = sym (ap (λ (o : Counted Reception). o.call.answer.refusal) (second-declined f)) ∙ is22 in
          absurd (true≢false (sym (part-stands f) ∙ ap stands n)))
          (λ e f g. ap undone (both-22 g))
          (λ e f g. let z : ◌≡◌ {A = ℕ} 0 22 = sym (ap (λ (o : Counted Reception). o.call.answer.refusal) (second-taken f g)) ∙ is22 in absurd (omega arith))

-- WHERE NOTHING IS DUE the clock's work is the table's new time
stays : (test : Place → Bool) (ps : List Place) → those test ps ≡ [] → map (freed_by test) ps ≡ ps
stays test [] e = refl
stays test (p ∷ ps) e = go (test p) refl e (stays test ps)
  where
    go : (b : Bool) → test p ≡ b → (if b then p ∷ those test ps else those test ps) ≡ [] → (those test ps ≡ [] → map (freed_by test) ps ≡ ps) → map (freed_by test) (p ∷ ps) ≡ p ∷ ps
    go true f none later = let z : ◌≡◌ {A = ℕ} 1 0 = cc in absurd (omega arith)
    go false f none later = rw f (ap (λ (l : List Place). p ∷ l) (later none))

abbrev pub at_time : ℕ → Table → Table
at_time time t = record { places = t.places; registry = t.registry; timer = t.timer; clock = time }

abbrev pub quiet : Table → List ℕ → List ℕ → ℕ → Counted Sweeping
quiet t m report time = counting m (record { answer = record { table = at_time time t; refusal = 0; records = 0 }; report = report; made = [] })

pub quiet-work : (t : Table) (m report : List ℕ) (time : ℕ) → those (is_due time t.timer) t.places ≡ [] → clock_work t m report time ≡ quiet t m report time
unfolding sweep
quiet-work t m report time none = rw (none, stays (is_due time t.timer) t.places none, splice-nil report 0)

-- the segment's rule behind it is the whole
pub quiet-both : (t : Table) (m report : List ℕ) (time : ℕ) (o : Counted Reception) → o.call.answer.timeouts ≡ 0 → both_with (quiet t m report time) o ≡ o
quiet-both t m report time o e =
    rw (zero-add o.call.answer.records)
    (ap (λ (n : ℕ).
    counting o.summary
    (record {
      answer = record {
        table = o.call.answer.table;
        decision = o.call.answer.decision;
        position = o.call.answer.position;
        refusal = o.call.answer.refusal;
        records = o.call.answer.records;
        timeouts = n;
      };
      store = o.call.store;
      report = o.call.report;
      made = o.call.made;
    })) (sym e))

-- a step of none is accepted
own-step : (clock : ℕ) → accepted (step_checks clock clock) ≡ true
unfolding elapsed
own-step clock = let e : clock + 2 ^ 32 - clock ≡ 2 ^ 32 = omega arith in rw e

-- AT THE TABLE'S OWN TIME, on any table, with a report area that an arrival may have, it is the segment's rule
module _ (t : Table) (m store report : List ℕ) (association : ℕ) (s : List ℕ) (long : arrival_least ≤ length report) where
  abbrev refusing : Fault → Counted Reception
  refusing x = counting m (unreceived t store report x)

  abbrev carrying : Counted Reception
  carrying = counting (segment_sums t m store report association s) (received_at t store report association s)

  -- where the table, the summary and the store are good, so is the whole
  pub own-whole : sound t ≡ true → summary_sound m t.places ≡ true → store_least ≤ length store → accepted (whole_checks t m store report t.clock) ≡ true
  unfolding whole_checks
  own-whole good sums stores =
      let w : Counted Sweeping = clock_work t m report t.clock in
      let lent : List Check = lent_checks arrival_least (sound t) (length store) (length report) in
      let areas : accepted lent ≡ true = rw (good, le-ltb (length store) store_least stores, le-ltb (length report) arrival_least long) in
      let room : fits m w.summary ≡ true = ap (λ (w : Counted Sweeping). fits m w.summary) (quiet-work t m report t.clock (none-due t good)) ∙ fits-same m in
      both-accepted (summary_checks m t.places) (lent ++ (step_checks t.clock t.clock ++ total_checks m w.summary)) (rw sums)
      (both-accepted lent (step_checks t.clock t.clock ++ total_checks m w.summary) areas
      (both-accepted (step_checks t.clock t.clock) (total_checks m w.summary) (own-step t.clock) (rw room)))

  -- both begin with the summary and the lent areas
  abbrev leading : ℕ → Counted Reception → Counted Reception
  leading least o =
      judged_at (summary_checks m t.places) refusing (judged_at (lent_checks least (sound t) (length store) (length report)) refusing o)

  abbrev rest : Counted Reception
  rest = judged_at (own_checks t association s) refusing (judged_at (row_checks m association) refusing (judged_at (total_checks m (segment_sums t m store report association s)) refusing carrying))

  segment-leads : segment_with t m store report association s ≡ leading record_length rest
  unfolding segment_with segment_checks_with segment_checks
  segment-leads =
      let lent : List Check = lent_checks record_length (sound t) (length store) (length report) in
      let own : List Check = own_checks t association s in
      let rows : List Check = row_checks m association in
      let totals : List Check = total_checks m (segment_sums t m store report association s) in
      fault-append (summary_checks m t.places) ((lent ++ own) ++ (rows ++ totals)) refusing carrying
      ∙ ap (judged_at (summary_checks m t.places) refusing)
      (fault-append (lent ++ own) (rows ++ totals) refusing carrying ∙ fault-append lent own refusing _
      ∙ ap (λ (o : Counted Reception). judged_at lent refusing (judged_at own refusing o)) (fault-append rows totals refusing carrying))

  -- the areas are long enough for either
  same-areas : (o : Counted Reception) → leading arrival_least o ≡ leading record_length o
  same-areas o = rw (le-ltb (length report) arrival_least long, le-ltb (length report) record_length (omega arith))

  -- an unsound table is refused before anything else is looked at
  unsound-leads : sound t ≡ false → (o o' : Counted Reception) → leading record_length o ≡ leading record_length o'
  unsound-leads e o o' = rw e

  arrival-leads : (o : Counted Reception)
      → (sound t ≡ true → judged_at (step_checks t.clock t.clock ++ total_checks m (clock_work t m report t.clock).summary) refusing o ≡ rest)
      → judged_at (whole_checks t m store report t.clock) refusing o ≡ leading record_length rest
  unfolding whole_checks
  arrival-leads o is =
      let lent : List Check = lent_checks arrival_least (sound t) (length store) (length report) in
      let last : List Check = step_checks t.clock t.clock ++ total_checks m (clock_work t m report t.clock).summary in
      fault-append (summary_checks m t.places) (lent ++ last) refusing o ∙ ap (judged_at (summary_checks m t.places) refusing) (fault-append lent last refusing o)
      ∙ same-areas (judged_at last refusing o) ∙ go (sound t) refl
    where
      go : (b : Bool) → sound t ≡ b
          → leading record_length (judged_at (step_checks t.clock t.clock ++ total_checks m (clock_work t m report t.clock).summary) refusing o) ≡ leading record_length rest
      go true e = ap (leading record_length) (is e)
      go false e = unsound-leads e _ rest

  -- what is judged after that, by the clock's work
  abbrev judged_with : Counted Sweeping → Counted Reception
  judged_with w =
      judged_at (total_checks m w.summary) refusing
      (judged_at (part_checks w association s) (clocked_with w store)
      (judged_at (both_checks w store association s) refusing
      (both_with w (counting (segment_sums (table_after w) w.summary store (behind w) association s) (received_at (table_after w) store (behind w) association s)))))

  quiet-rest : judged_with (quiet t m report t.clock) ≡ rest
  unfolding part_checks both_checks
  quiet-rest = rw (fits-same m, quiet-both t m report t.clock carrying refl) (fault-append (own_checks t association s) (row_checks m association) refusing _)

  pub own-time : arrival t m store report t.clock association s ≡ segment_with t m store report association s
  unfolding arrival
  own-time =
      arrival-leads _
      (λ ok.
      passed (step_checks t.clock t.clock) (total_checks m (clock_work t m report t.clock).summary) refusing _ (own-step t.clock)
      ∙ ap judged_with (quiet-work t m report t.clock (none-due t ok)) ∙ quiet-rest)
      ∙ sym segment-leads
