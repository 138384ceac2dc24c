-- Demand 1 holds of the rules.
use Rattle.std.specs.Prelude.{if◌then◌else◌}
use Prim.Native.Nat.{ℕ, ◌≤◌}
use mathlib.Core.Path.{◌≡◌, refl, sym, ap, subst, ◌∙◌}
use mathlib.Core.Bool.{Bool, true, false, true≢false}
use mathlib.Core.List.{List, [], ◌∷◌, ◌++◌}
use native.Mathlib.Omega.{arith}
use lib.ListN.{drop}
use Rattle.rules.specs.Refusals.{nowhere, Check, accepted, first, first_at, fault}
use Rattle.rules.specs.Delivery.{delivery}
use Rattle.rules.specs.Sweep.{sweep, clock_checks, release_checks}
use Rattle.rules.specs.Summary.{clock_checks_with, clock_with, release_checks_with, release_with}
use Rattle.rules.specs.Arrival.{whole_checks, both_checks, arrival_checks, stands, clocked_with}
use Rattle.rules.specs.Opening.{opening}
use Rattle.rules.specs.Sending.{sending_checks, sending}
use Rattle.rules.specs.Calls.{State, Arrival, Call, Opens, Arrives, Ticks, Releases, Sends, to_tick, As, Answer, refused_as, Outcome, after_arrival, step}
use Rattle.rules.proofs.Refusals.{Least, each_append, each-so, first-each, fault-passed, fault-met, accepted-first, accepted-nowhere as none-nowhere}
use Rattle.rules.specs.declared.Fault.{Fault}
use Rattle.rules.specs.declared.Decision.TheVariants.{Refused}
use Rattle.demands.specs.Machine.{ours, checks_of, clock_of, whole_of, parameter_of, is_arrival}
use Rattle.demands.specs.Seen.{handing, seen_by}
use Rattle.demands.specs.Demand1.{unmoved, beside_call, refused_outcome, fault_in, Untouched, Demand1}
use Rattle.rules.proofs.Arrival.{clock-is, part-each, part-stands, both-22, whole-undoes}
use Rattle.demands.proofs.Parts.{part_of, both_of, arrival-cases, arrival-done}

-- a call's checks of the table and the summary, with the number 1, and the others, which have numbers over 1
abbrev pub ones : Call → ℕ
ones (Opens x) = 0
ones (Arrives x) = 2
ones (Ticks x) = 2
ones (Releases x) = 2
ones (Sends x) = 1

pub others-least : (st : State) (c : Call) → Least 2 (drop (ones c) (checks_of st c))
unfolding arrival_checks whole_checks both_checks clock_checks_with clock_checks release_checks_with release_checks sending_checks
others-least st (Opens x) = (omega arith, (omega arith, tt))
others-least st (Arrives x) =
    let part = part-each st.table st.summary st.store x.report x.time x.association x.parameter (λ k. 2 ≤ k) (omega arith) (omega arith) (omega arith) (omega arith) (omega arith) (omega arith) (omega arith) (omega arith) (omega arith) in
    (omega arith, (omega arith, (omega arith, (omega arith, each_append (λ k. 2 ≤ k) (part_of st x) (both_of st x) part (omega arith, tt)))))
others-least st (Ticks x) = (omega arith, (omega arith, (omega arith, tt)))
others-least st (Releases x) = (omega arith, (omega arith, tt))
others-least st (Sends x) =
    (omega arith, (omega arith, (omega arith, (omega arith, (omega arith, (omega arith, (omega arith, (omega arith, (omega arith, tt)))))))))

checks-least : (st : State) (c : Call) → Least 1 (checks_of st c)
unfolding arrival_checks whole_checks clock_checks_with clock_checks release_checks_with release_checks sending_checks
checks-least st c = go c (each-so (λ k. 2 ≤ k) (λ k. 1 ≤ k) (drop (ones c) (checks_of st c)) (λ n h. omega arith) (others-least st c))
  where
    go : (c : Call) → Least 1 (drop (ones c) (checks_of st c)) → Least 1 (checks_of st c)
    go (Opens x) h = h
    go (Arrives x) h = (omega arith, (omega arith, h))
    go (Ticks x) h = (omega arith, (omega arith, h))
    go (Releases x) h = (omega arith, (omega arith, h))
    go (Sends x) h = (omega arith, h)

-- only reading blames an octet: in another call no check does
abbrev Plain : List Check → Type 0
Plain [] = Unit {0}
Plain (c ∷ cs) = (c.position ≡ nowhere) × Plain cs

plain-nowhere : (cs : List Check) → Plain cs → first_at cs ≡ nowhere
plain-nowhere [] h = refl
plain-nowhere (c ∷ cs) h = go c.applies (plain-nowhere cs h.1)
  where
    go : (b : Bool) → first_at cs ≡ nowhere → (if b then c.position else first_at cs) ≡ nowhere
    go true later = h.0
    go false later = later

pub only-reading : (st : State) (c : Call) → is_arrival c ≡ false → first_at (checks_of st c) ≡ nowhere
unfolding clock_checks_with clock_checks release_checks_with release_checks sending_checks
only-reading st (Opens x) a = plain-nowhere (checks_of st (Opens x)) (refl, (refl, tt))
only-reading st (Arrives x) a = cc
only-reading st (Ticks x) a = plain-nowhere (checks_of st (Ticks x)) (refl, (refl, (refl, (refl, (refl, tt)))))
only-reading st (Releases x) a = plain-nowhere (checks_of st (Releases x)) (refl, (refl, (refl, (refl, tt))))
only-reading st (Sends x) a = plain-nowhere (checks_of st (Sends x)) (refl, (refl, (refl, (refl, (refl, (refl, (refl, (refl, (refl, (refl, tt))))))))))

-- an arrival by the list that refuses
module _ (st : State) (x : Arrival) where
  abbrev rest : List Check
  rest = part_of st x ++ both_of st x

  abbrev Refuses : Outcome → Fault → Type 0
  Refuses o e = o ≡ refused_outcome st (Arrives x) e

  -- the first that applies: of the whole; else of the segment's part; else the last
  fault-whole : accepted (whole_of st x) ≡ false → fault (checks_of st (Arrives x)) ≡ fault (whole_of st x)
  unfolding arrival_checks
  fault-whole e = fault-met (whole_of st x) rest e

  fault-part : accepted (whole_of st x) ≡ true → accepted (part_of st x) ≡ false → fault (checks_of st (Arrives x)) ≡ fault (part_of st x)
  unfolding arrival_checks
  fault-part e f = fault-passed (whole_of st x) rest e ∙ fault-met (part_of st x) (both_of st x) f

  fault-both : accepted (whole_of st x) ≡ true → accepted (part_of st x) ≡ true → fault (checks_of st (Arrives x)) ≡ fault (both_of st x)
  unfolding arrival_checks
  fault-both e f = fault-passed (whole_of st x) rest e ∙ fault-passed (part_of st x) (both_of st x) f

  beside : accepted (whole_of st x) ≡ true → accepted (part_of st x) ≡ false → Refuses (after_arrival (clocked_with (clock_of st x) st.store (fault (part_of st x)))) (fault (part_of st x))
  unfolding step
  beside e f = rw (part-stands st.table st.summary st.store x.report x.time x.association x.parameter f, clock-is st.table st.summary st.store x.report x.time x.association x.parameter e)

  arrival-refused : accepted (checks_of st (Arrives x)) ≡ false → Refuses (step st (Arrives x)) (fault (checks_of st (Arrives x)))
  arrival-refused h =
      arrival-cases st x (λ (o : Outcome). Refuses o (fault (checks_of st (Arrives x))))
      (λ e. subst (Refuses _) (sym (fault-whole e)) (rw (whole-undoes st.table st.summary st.store x.report x.time x.association x.parameter e).0))
      (λ e f. subst (Refuses _) (sym (fault-part e f)) (beside e f))
      (λ e f g.
      let last : stands (first (both_of st x)) ≡ false = ap (λ (f : Fault). stands f.number) (both-22 st.table st.summary st.store x.report x.time x.association x.parameter g) in
      subst (Refuses _) (sym (fault-both e f)) (rw last))
      (λ a e f g. absurd (true≢false (sym a ∙ h)))

pub step-refused : (st : State) (c : Call) → accepted (checks_of st c) ≡ false → step st c ≡ refused_outcome st c (fault (checks_of st c))
unfolding step opening clock_with clock_checks_with release_with release_checks_with sending
step-refused st (Opens x) h = rw (h, only-reading st (Opens x) refl)
step-refused st (Arrives x) h = arrival-refused st x h
step-refused st (Ticks x) h = rw (h, only-reading st (Ticks x) refl)
step-refused st (Releases x) h = rw (h, only-reading st (Releases x) refl)
step-refused st (Sends x) h = rw (h, only-reading st (Sends x) refl)

pub accepted-zero : (st : State) (c : Call) → accepted (checks_of st c) ≡ true → (step st c).answer.refusal ≡ 0
unfolding step opening clock_with clock_checks_with release_with release_checks_with sweep sending
accepted-zero st (Opens x) h = rw h
accepted-zero st (Arrives x) h = arrival-done st x (λ (o : Outcome). o.answer.refusal ≡ 0) h refl
accepted-zero st (Ticks x) h = rw h
accepted-zero st (Releases x) h = rw h
accepted-zero st (Sends x) h = rw h

pub accepted-nowhere : (st : State) (c : Call) → accepted (checks_of st c) ≡ true → (step st c).answer.position ≡ nowhere
unfolding step opening clock_with clock_checks_with release_with release_checks_with sweep sending
accepted-nowhere st (Opens x) h = refl
accepted-nowhere st (Arrives x) h = arrival-done st x (λ (o : Outcome). o.answer.position ≡ nowhere) h refl
accepted-nowhere st (Ticks x) h = refl
accepted-nowhere st (Releases x) h = refl
accepted-nowhere st (Sends x) h = refl

-- what is refused says so
refused_says : (st : State) (c : Call) (e : Fault) → ((refused_outcome st c e).answer.refusal ≡ e.number) × (((refused_outcome st c e).answer.position ≡ e.position) × ((refused_outcome st c e).answer.decided ≡ refused_as c))
refused_says st (Opens x) e = (refl, (refl, refl))
refused_says st (Arrives x) e = go (stands e.number)
  where
    go : (b : Bool) → let a : Answer = (if b then beside_call (Arrives x) e (step st (to_tick x.time x.report)) else unmoved st (Arrives x) e).answer in
        (a.refusal ≡ e.number) × ((a.position ≡ e.position) × (a.decided ≡ As Refused))
    go true = (refl, (refl, refl))
    go false = (refl, (refl, refl))
refused_says st (Ticks x) e = (refl, (refl, refl))
refused_says st (Releases x) e = (refl, (refl, refl))
refused_says st (Sends x) e = (refl, (refl, refl))

pub number : (st : State) (c : Call) → (step st c).answer.refusal ≡ first (checks_of st c)
number st c = go (accepted (checks_of st c)) refl
  where
    go : (b : Bool) → accepted (checks_of st c) ≡ b → (step st c).answer.refusal ≡ first (checks_of st c)
    go true h = accepted-zero st c h ∙ sym (accepted-first (checks_of st c) h)
    go false h = rw (step-refused st c h) (refused_says st c (fault (checks_of st c))).0

pub position : (st : State) (c : Call) → (step st c).answer.position ≡ first_at (checks_of st c)
position st c = go (accepted (checks_of st c)) refl
  where
    go : (b : Bool) → accepted (checks_of st c) ≡ b → (step st c).answer.position ≡ first_at (checks_of st c)
    go true h = accepted-nowhere st c h ∙ sym (none-nowhere (checks_of st c) h)
    go false h = rw (step-refused st c h) (refused_says st c (fault (checks_of st c))).1.0

-- a refused call's number is not 0
pub refused-number : (st : State) (c : Call) → accepted (checks_of st c) ≡ false → first (checks_of st c) ≡ 0 → ⊥
refused-number st c h e = omega (arith, first-each (λ k. 1 ≤ k) (checks_of st c) (checks-least st c) h)

-- so 0 answers only a call that is carried out
pub zero-accepted : (st : State) (c : Call) → (step st c).answer.refusal ≡ 0 → accepted (checks_of st c) ≡ true
zero-accepted st c e = go (accepted (checks_of st c)) refl
  where
    go : (b : Bool) → accepted (checks_of st c) ≡ b → b ≡ true
    go true h = refl
    go false h = absurd (refused-number st c h (sym (number st c) ∙ e))

-- and nothing is handed over
pub refused-hands : (c : Call) (s store : List ℕ) → handing ours (refused_as c) s store ≡ []
unfolding delivery
refused-hands (Opens x) s store = refl
refused-hands (Arrives x) s store = refl
refused-hands (Ticks x) s store = refl
refused-hands (Releases x) s store = refl
refused-hands (Sends x) s store = refl

untouched : (st : State) (c : Call) → accepted (checks_of st c) ≡ false → Untouched (seen_by ours st c)
untouched st c h =
    let x : Fault = fault (checks_of st c) in
    let e = step-refused st c h in
    let f : fault_in (step st c).answer ≡ x = λ i. record { number = number st c i; position = position st c i } in
    record {
      state = rw f (ap (λ (o : Outcome). o.state) e);
      answer = rw f (ap (λ (o : Outcome). o.answer) e);
      handed = rw e (rw (refused_says st c x).1.1 (refused-hands c (parameter_of c) (refused_outcome st c x).state.store));
    }

pub demand-1 : Demand1 ours
demand-1 =
    record {
      every = λ st c.
          record {
            number = number st c;
            position = position st c;
            refused = λ h e. let z : true ≡ false = sym (zero-accepted st c e) ∙ h in let y : ◌≡◌ {A = ℕ} 0 1 = cc in omega arith;
            untouched = untouched st c;
          };
    }
