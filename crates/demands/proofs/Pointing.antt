-- What a position tells, of any machine that meets demand 1: what reading's position tells.
use Prim.Native.Nat.{ℕ, ◌+◌, ◌≤◌}
use mathlib.Core.Path.{◌≡◌, refl, sym, ap, subst, ◌∙◌}
use mathlib.Core.Bool.{Bool, true, false, ◌||◌, true≢false}
use mathlib.Core.List.{List, ◌++◌, append_assoc}
use native.Mathlib.Omega.{arith}
use borrow.Author.Tests.{eqb-true}
use lib.Dec.{eqb}
use lib.ListN.{length, take}
use Rattle.rules.specs.Numbers.{parameter_most}
use Rattle.rules.specs.Refusals.{Check, accepted, first, first_at, fault, unplaced}
use Rattle.rules.specs.Layout.{fields_of, reading_checks}
use Rattle.rules.specs.Blame.{blames, Blamed, is_settled}
use Rattle.rules.specs.Receiving.{key_of, information_of, line_at, lent_checks, taking_checks}
use Rattle.rules.specs.Soundness.{sound}
use Rattle.rules.specs.Sweep.{sweep, step_checks}
use Rattle.rules.specs.Summary.{summary_checks, row_checks, total_checks}
use Rattle.rules.specs.Arrival.{arrival_least, whole_checks, part_checks, both_checks, arrival_checks}
use Rattle.rules.specs.Calls.{State, Arrives, Arrival}
use Rattle.rules.specs.declared.Fault.{Fault}
use Rattle.rules.proofs.Refusals.{accepted-append, accepted-first, fault-passed, fault-met, first-each}
use Rattle.rules.proofs.Blamed.{Guarded, guarded, guarded-append, unblamed, reading-blames}
use Rattle.rules.proofs.Alike.{alike}
use Rattle.demands.specs.Machine.{Machine, checks_of, clock_of, clocked_by}
use Rattle.demands.specs.Demand1.{Demand1, fault_in}
use Rattle.demands.specs.Follows.{is_before, Pointing}
use Rattle.demands.proofs.Parts.{both_of}
use Rattle.demands.proofs.Refused.{only-reading}

module _ (st : State) (x : Arrival) where
  abbrev s : List ℕ
  s = x.parameter

  -- an arrival's checks: the whole's, reading's, and the last
  abbrev early : List Check
  early =
      summary_checks st.summary st.table.places
      ++ (lent_checks arrival_least (sound st.table) (length st.store) (length x.report) ++ (step_checks x.time st.table.clock ++ total_checks st.summary (clock_of st x).summary))

  abbrev reads : List Check
  reads = reading_checks st.table.registry s

  abbrev taking : List Check
  taking =
      taking_checks (line_at (clocked_by st x).table (key_of x.association s (fields_of st.table.registry s)) (fields_of st.table.registry s).heading (length (information_of s (fields_of st.table.registry s))))
      (clocked_by st x).table.places

  abbrev late : List Check
  late = row_checks (clock_of st x).summary x.association ++ both_of st x

  abbrev whole : List Check
  whole = checks_of st (Arrives x)

  in_order : whole ≡ early ++ (reads ++ taking ++ late)
  unfolding arrival_checks whole_checks part_checks sweep
  in_order = ap (λ (cs : List Check). early ++ cs) (append_assoc (reads ++ taking) (row_checks (clock_of st x).summary x.association) (both_of st x))

  -- a check that blames no octet
  no : (n : ℕ) → blames n ≡ false → (b : Bool) → b ≡ true → Blamed s (unplaced n)
  no n e b _ = unblamed s n e

  whole-blames : Blamed s (fault whole)
  unfolding both_checks
  whole-blames =
      let P : Fault → Type 0 = Blamed s in
      let last : Guarded P late = (no 21 refl _, λ _. (no 22 refl _, λ _. tt)) in
      let own = guarded-append P reads taking (reading-blames st.table.registry s) (λ _. (no 10 refl _, λ _. tt)) in
      let rest = guarded-append P (reads ++ taking) late own (λ _. last) in
      rw in_order (guarded P (early ++ (reads ++ taking ++ late)) (no 1 refl _, λ _. (no 1 refl _, λ _. (no 2 refl _, λ _. (no 3 refl _, λ _. (no 13 refl _, λ _. (no 22 refl _, λ _. rest)))))) (unblamed s 0 refl))

  -- the checks before reading have the numbers 1 to 3, 13 and 22, those behind it 10, 21 and 22: none is settled at an octet
  early-before : (is_before (first early) || eqb (first early) 0) ≡ true
  early-before = guarded (λ (y : Fault). (is_before y.number || eqb y.number 0) ≡ true) early (λ _. refl, λ _. (λ _. refl, λ _. (λ _. refl, λ _. (λ _. refl, λ _. (λ _. refl, λ _. (λ _. refl, λ _. tt)))))) refl

  early-unsettled : is_settled (first early) ≡ false
  early-unsettled = guarded (λ (y : Fault). is_settled y.number ≡ false) early (λ _. refl, λ _. (λ _. refl, λ _. (λ _. refl, λ _. (λ _. refl, λ _. (λ _. refl, λ _. (λ _. refl, λ _. tt)))))) refl

  last-unsettled : is_settled (first (taking ++ late)) ≡ false
  unfolding both_checks
  last-unsettled = guarded (λ (y : Fault). is_settled y.number ≡ false) (taking ++ late) (λ _. refl, λ _. (λ _. refl, λ _. (λ _. refl, λ _. tt))) refl

  -- where those before it accept and reading does not, the refusal is reading's
  by-reading : accepted early ≡ true → accepted reads ≡ false → fault whole ≡ fault reads
  by-reading a b =
      ap fault in_order
      ∙ fault-passed early (reads ++ taking ++ late) a
      ∙ fault-met (reads ++ taking) late (accepted-append reads taking ∙ rw b)
      ∙ fault-met reads taking b

  -- and a settled one is
  settled_is : is_settled (first whole) ≡ true → (accepted early ≡ true) × (accepted reads ≡ false)
  settled_is h = go (accepted early) (accepted reads) refl refl
    where
      other : (y : Fault) → is_settled y.number ≡ false → fault whole ≡ y → (accepted early ≡ true) × (accepted reads ≡ false)
      other y e is = absurd (true≢false (sym h ∙ ap (λ (z : Fault). is_settled z.number) is ∙ e))

      go : (a b : Bool) → accepted early ≡ a → accepted reads ≡ b → (accepted early ≡ true) × (accepted reads ≡ false)
      go false b e f = other (fault early) early-unsettled (ap fault in_order ∙ fault-met early (reads ++ taking ++ late) e)
      go true true e f =
          other (fault (taking ++ late)) last-unsettled
          (ap fault in_order ∙ fault-passed early (reads ++ taking ++ late) e ∙ ap fault (append_assoc reads taking late) ∙ fault-passed reads (taking ++ late) f)
      go true false e f = (e, f)

  before-accepted : is_before (first whole) ≡ false → accepted early ≡ true
  before-accepted h = go (accepted early) refl
    where
      go : (a : Bool) → accepted early ≡ a → a ≡ true
      go true e = refl
      go false e =
          let is : first whole ≡ first early = ap (λ (y : Fault). y.number) (ap fault in_order ∙ fault-met early (reads ++ taking ++ late) e) in
          let zero : first early ≡ 0 = eqb-true (first early) 0 (simp (rw is at h) at early-before) in
          absurd (omega (arith, first-each (λ k. 1 ≤ k) early (omega arith, (omega arith, (omega arith, (omega arith, (omega arith, (omega arith, tt)))))) e))

settled-refuses : (cs : List Check) → is_settled (first cs) ≡ true → accepted cs ≡ false
settled-refuses cs h = go (accepted cs) refl
  where
    go : (b : Bool) → accepted cs ≡ b → b ≡ false
    go true e = absurd (true≢false (sym h ∙ ap is_settled (accepted-first cs e)))
    go false e = refl

module _ (st st' : State) (x x' : Arrival) (same : st'.table.registry ≡ st.table.registry) (short : length x'.parameter ≤ parameter_most) where
  pub refused-alike : is_settled (first (whole st x)) ≡ true → take (first_at (whole st x) + 1) x.parameter ≡ take (first_at (whole st x) + 1) x'.parameter
      → is_before (first (whole st' x')) ≡ false → fault (whole st' x') ≡ fault (whole st x)
  refused-alike settled takes later =
      let own = settled_is st x settled in
      let is = by-reading st x own.0 own.1 in
      let number : is_settled (first (reads st x)) ≡ true = sym (ap (λ (y : Fault). is_settled y.number) is) ∙ settled in
      let to : take (first_at (reads st x) + 1) x.parameter ≡ take (first_at (reads st x) + 1) x'.parameter = rw (ap (λ (y : Fault). y.position) is) at takes in
      let there : fault (reads st' x') ≡ fault (reads st x) = rw same (alike st.table.registry x.parameter x'.parameter number short to) in
      let refuses = settled-refuses (reads st' x') (ap (λ (y : Fault). is_settled y.number) there ∙ number) in
      by-reading st' x' (before-accepted st' x' later) refuses ∙ there ∙ sym is

pub pointing : (m : Machine) → Demand1 m → Pointing m
pointing m d =
    record {
      blamed = λ st x. subst (Blamed x.parameter) (sym (is st x)) (whole-blames st x);
      others = λ st c a. (d.every st c).position ∙ only-reading st c a;
      alike = λ st st' x x' same short settled takes later.
          is st' x'
          ∙ refused-alike st st' x x' same short (sym (ap is_settled (number st x)) ∙ settled) (rw (position st x) at takes) (sym (ap is_before (number st' x')) ∙ later)
          ∙ sym (is st x);
    }
  where
    number : (st : State) (x : Arrival) → (m.step st (Arrives x)).answer.refusal ≡ first (whole st x)
    number st x = (d.every st (Arrives x)).number

    position : (st : State) (x : Arrival) → (m.step st (Arrives x)).answer.position ≡ first_at (whole st x)
    position st x = (d.every st (Arrives x)).position

    is : (st : State) (x : Arrival) → fault_in (m.step st (Arrives x)).answer ≡ fault (whole st x)
    is st x = λ i. record { number = number st x i; position = position st x i }
