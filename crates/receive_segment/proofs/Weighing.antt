-- A call's number by its verdict and its count, and what the rule then leaves.
use Rattle.std.specs.Prelude.{Option, Some, None, Result, Ok, Err}
use Prim.Native.Nat.{ℕ, ◌≤◌}
use mathlib.Core.Path.{◌≡◌, refl, sym, ap, ◌∙◌}
use mathlib.Core.Bool.{Bool, true, false, not}
use mathlib.Core.List.{List, [], ◌∷◌, ◌++◌}
use native.Mathlib.Omega.{arith}
use lib.ListN.{length, drop, get_or}
use Rattle.rules.specs.Refusals.{nowhere, unplaced, Check, ◌when◌, accepted, first, first_at, fault}
use Rattle.rules.specs.Places.{no_place, is_at}
use Rattle.rules.specs.Receiving.{Reception, received_at, unreceived, segment_checks, segment}
use Rattle.rules.specs.Summary.{Counted, counting, summary_sound, row_for, fits, took, billed, summary_checks, row_checks, total_checks, segment_sums, segment_checks_with, segment_with}
use Rattle.rules.proofs.Refusals.{Least, each_append, accepted-first, accepted-nowhere, first-passed, first-met, fault-first}
use Rattle.rules.proofs.Least.{zero-accepted, segment-least}
use Rattle.rules.specs.declared.Fault.{Fault}
use Rattle.rules.specs.declared.Key.{Key}
use Rattle.rules.specs.declared.Place.{Place}
use Rattle.rules.specs.declared.Table.{Table}
use Rattle.rules.specs.declared.Received.{Received}
use Rattle.receive_perform.specs.Performing.{fault_of, records_in, Fits, Leads}
use Rattle.receive_perform.specs.declared.Verdict.{Verdict}
use Rattle.receive_count.specs.Counting.{sums_by}
use Rattle.refusals.specs.Numbers.{number_of, number_if}
use Rattle.refusals.specs.declared.Refusal.{Refusal}
use Rattle.refusals.proofs.Numbers.{number-some}
use Rattle.receive_segment.specs.Arrival.{OfVerdict, OfWeighing, blamed_by, blameless, fault_if, settled_by}
use Rattle.receive_segment.proofs.Arriving.{leads-as, refuses, refused-fits}

abbrev number_in : Check → ℕ
number_in c = c.number

abbrev position_in : Check → ℕ
position_in c = c.position

-- the summary's last checks blame no octet
last-nowhere : (a b : Bool) → first_at (21 when a ∷ 22 when b ∷ []) ≡ nowhere
last-nowhere true b = refl
last-nowhere false true = refl
last-nowhere false false = refl

-- what the summary says blames no octet, and refuses by the number that its refusal has
number-in : (c : Result ℕ Refusal) → (fault_if (blameless c)).number ≡ number_if c
number-in (Ok row) = refl
number-in (Err r) = refl

position-in : (c : Result ℕ Refusal) → (fault_if (blameless c)).position ≡ nowhere
position-in (Ok row) = refl
position-in (Err r) = refl

blameless-some : (c : Result ℕ Refusal) (x : Fault) → blameless c ≡ Err x → x.number ≡ 0 → ⊥
blameless-some (Ok row) x e z = cc
blameless-some (Err r) x e z = let same : unplaced (number_of r) ≡ x = cc in number-some r (ap (λ (y : Fault). y.number) same ∙ z)

module _ (t : Table) (m store report : List ℕ) (association : ℕ) (s : List ℕ) (is_summed : Bool) (es : is_summed ≡ summary_sound m t.places) (place : ℕ) (key : Key) (v : Verdict)
    (judges : OfVerdict t (length store) (length report) association s place key v) (counted : Result ℕ Fault)
    (weighs : OfWeighing m is_summed association (length (drop v.information s)) v counted) where
  abbrev own : List Check
  own = segment_checks t store report association s

  abbrev last : List Check
  last = row_checks m association ++ total_checks m (segment_sums t m store report association s)

  abbrev all : List Check
  all = segment_checks_with t m store report association s

  abbrev number_out : Result ℕ Fault → ℕ
  number_out c = (fault_if c).number

  abbrev position_out : Result ℕ Fault → ℕ
  position_out c = (fault_if c).position

  leads : Leads (segment t store report association s) t place key v (drop v.information s) store report
  leads = judges.leads store report refl refl

  -- the verdict's number is that of the table's own checks
  own-number : (fault_of v.refused).number ≡ first own
  unfolding segment
  own-number = ap (λ (r : Received). r.refusal) leads.answered ∙ go (accepted own) refl
    where
      go : (b : Bool) → accepted own ≡ b → (segment t store report association s).answer.refusal ≡ first own
      go true e = rw e (sym (accepted-first own e))
      go false e = rw e

  own-position : (fault_of v.refused).position ≡ first_at own
  unfolding segment
  own-position = ap (λ (r : Received). r.position) leads.answered ∙ go (accepted own) refl
    where
      go : (b : Bool) → accepted own ≡ b → (segment t store report association s).answer.position ≡ first_at own
      go true e = rw e (sym (accepted-nowhere own e))
      go false e = rw e

  number-of : (r : Option Fault) → v.refused ≡ r → (fault_of r).number ≡ first own
  number-of r e = ap (λ (q : Option Fault). (fault_of q).number) (sym e) ∙ own-number

  own-accepted : v.refused ≡ None → accepted own ≡ true
  own-accepted z = zero-accepted 0 own (segment-least t store report association s) (sym (number-of None z))

  own-refused : (x : Fault) → v.refused ≡ Some x → accepted own ≡ false
  own-refused x e = go (accepted own) refl
    where
      go : (b : Bool) → accepted own ≡ b → accepted own ≡ false
      go true a = absurd (judges.some x e (number-of (Some x) e ∙ accepted-first own a))
      go false a = a

  carried : v.refused ≡ None → segment t store report association s ≡ received_at t store report association s
  unfolding segment
  carried z = rw (own-accepted z)

  -- what is counted is what the rule counts
  sums_same : v.refused ≡ None → sums_by m association (length (drop v.information s)) v key ≡ segment_sums t m store report association s
  unfolding segment_sums
  sums_same z =
      let made : records_in v key ≡ (received_at t store report association s).made = leads.made ∙ ap (λ (r : Reception). r.made) (carried z) in
      λ i. billed (took m association (length (judges.taken z i))) (made i)

  whole-number : (fault_if counted).number ≡ first all
  unfolding segment_checks_with
  whole-number = go is_summed refl es
    where
      by-own : is_summed ≡ true → (r : Option Fault) → v.refused ≡ r → (fault_if counted).number ≡ first (own ++ last)
      by-own g None z =
          let w = weighs.weighed g z in
          ap number_out w.1.1 ∙ number-in w.0
          ∙ w.1.0.number key (judges.own z) ∙ ap (λ (l : List ℕ). first (row_checks m association ++ total_checks m l)) (sums_same z)
          ∙ sym (first-passed number_in 0 own last (own-accepted z))
      by-own g (Some x) z = ap number_out (weighs.refused g x z) ∙ number-of (Some x) z ∙ sym (first-met number_in 0 own last (own-refused x z))

      go : (b : Bool) → is_summed ≡ b → is_summed ≡ summary_sound m t.places → (fault_if counted).number ≡ first (summary_checks m t.places ++ (own ++ last))
      go true g e = by-own g v.refused refl ∙ sym (first-passed number_in 0 (summary_checks m t.places) (own ++ last) (rw (sym e ∙ g)))
      go false g e = ap number_out (weighs.unsound g) ∙ rw (sym e ∙ g)

  whole-position : blamed_by is_summed v ≡ first_at all
  unfolding segment_checks_with
  whole-position = go is_summed es
    where
      by-own : (b : Bool) → accepted own ≡ b → (fault_of v.refused).position ≡ first_at (own ++ last)
      by-own true e = own-position ∙ accepted-nowhere own e ∙ sym (first-passed position_in nowhere own last e ∙ last-nowhere (not (is_at (row_for m association))) (not (fits m (segment_sums t m store report association s))))
      by-own false e = own-position ∙ sym (first-met position_in nowhere own last e)

      go : (b : Bool) → b ≡ summary_sound m t.places → blamed_by b v ≡ first_at (summary_checks m t.places ++ (own ++ last))
      go true e = by-own (accepted own) refl ∙ sym (first-passed position_in nowhere (summary_checks m t.places) (own ++ last) (rw (sym e)))
      go false e = rw (sym e)

  -- the octet that is blamed
  blamed : (fault_if counted).position ≡ blamed_by is_summed v
  blamed = go is_summed refl v.refused refl
    where
      go : (b : Bool) → is_summed ≡ b → (r : Option Fault) → v.refused ≡ r → (fault_if counted).position ≡ blamed_by is_summed v
      go false g r z = ap position_out (weighs.unsound g) ∙ rw g
      go true g (Some x) z = ap position_out (weighs.refused g x z) ∙ rw (g, z)
      go true g None z = let w = weighs.weighed g z in ap position_out w.1.1 ∙ position-in w.0 ∙ rw (g, z)

  abbrev blame : Fault
  blame = fault_if counted

  whole-fault : blame ≡ fault all
  whole-fault = λ i. record { number = whole-number i; position = (blamed ∙ whole-position) i }

  -- a refusal has a number
  real : (x : Fault) → counted ≡ Err x → x.number ≡ 0 → ⊥
  real x e = go is_summed refl v.refused refl
    where
      go : (b : Bool) → is_summed ≡ b → (r : Option Fault) → v.refused ≡ r → x.number ≡ 0 → ⊥
      go false g r z n = let same : unplaced 1 ≡ x = let w = weighs.unsound g in cc in let one = ap (λ (y : Fault). y.number) same in omega arith
      go true g (Some y) z n = let same : y ≡ x = let w = weighs.refused g y z in cc in judges.some y z (rw same n)
      go true g None z n = let w = weighs.weighed g z in blameless-some w.0 x (sym w.1.1 ∙ e) n

  all-least : Least 1 all
  unfolding segment_checks_with
  all-least = (omega arith, each_append (λ k. 1 ≤ k) own last (segment-least t store report association s) (omega arith, (omega arith, tt)))

  refused-is : (x : Fault) → counted ≡ Err x → segment_with t m store report association s ≡ counting m (unreceived t store report x)
  unfolding segment_with
  refused-is x e =
      let same : fault all ≡ x = sym whole-fault ∙ ap fault_if e in
      fault-first all (λ y. counting m (unreceived t store report y)) (counting (segment_sums t m store report association s) (received_at t store report association s)) (λ z. real x e (sym (ap (λ (y : Fault). y.number) same) ∙ z))
      ∙ ap (λ (y : Fault). counting m (unreceived t store report y)) same

  taken_is : (row : ℕ) → counted ≡ Ok row → segment_with t m store report association s ≡ counting (segment_sums t m store report association s) (segment t store report association s)
  unfolding segment_with
  taken_is row z =
      let e : accepted all ≡ true = zero-accepted 0 all all-least (sym whole-number ∙ ap number_out z) in
      rw e (ap (counting (segment_sums t m store report association s)) (sym (carried (weighs.taken row z).1)))

  -- the last verdict, which refuses where the count does, leads to what the whole rule leaves
  module _ (held : Place) (there : held ≡ get_or t.places place no_place) (w : Verdict) (is : w ≡ settled_by counted held v) where
    abbrev whole : Counted Reception
    whole = segment_with t m store report association s

    at : (c : Result ℕ Fault) → counted ≡ c → w ≡ settled_by c held v
    at c e = is ∙ ap (λ (d : Result ℕ Fault). settled_by d held v) e

    pub settled : Leads whole.call t place key w (drop v.information s) store report
    settled = go counted refl
      where
        go : (c : Result ℕ Fault) → counted ≡ c → Leads whole.call t place key w (drop v.information s) store report
        go (Ok row) e = leads-as (ap (λ (o : Counted Reception). o.call) (sym (taken_is row e))) (rw (at (Ok row) e) leads)
        go (Err x) e = leads-as (ap (λ (o : Counted Reception). o.call) (sym (refused-is x e))) (refuses t place x key held w there (at (Err x) e) (drop v.information s) store report)

    pub settled-fits : Fits w (length store) (length (drop v.information s))
    settled-fits = go counted refl
      where
        go : (c : Result ℕ Fault) → counted ≡ c → Fits w (length store) (length (drop v.information s))
        go (Ok row) e = rw (at (Ok row) e) judges.fits
        go (Err x) e = refused-fits t place x key held w there (at (Err x) e) (length store) (length (drop v.information s))

    pub settled-sums : (after : List ℕ)
        → ((row : ℕ) → counted ≡ Ok row → (k : Key) → k.association ≡ association → after ≡ sums_by m association (length (drop v.information s)) v k)
        → ((x : Fault) → counted ≡ Err x → after ≡ m)
        → after ≡ whole.summary
    settled-sums after taken stays = go counted refl
      where
        go : (c : Result ℕ Fault) → counted ≡ c → after ≡ whole.summary
        go (Ok row) e =
            let own = (weighs.taken row e).1 in
            taken row e key (judges.own own) ∙ sums_same own ∙ ap (λ (o : Counted Reception). o.summary) (sym (taken_is row e))
        go (Err x) e = stays x e ∙ ap (λ (o : Counted Reception). o.summary) (sym (refused-is x e))
