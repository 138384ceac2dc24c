-- Of what a machine that meets demand 1 accepts, a context has one form.
use Prim.Native.Nat.{ℕ, zero, suc, ◌<◌}
use mathlib.Core.Path.{◌≡◌, refl}
use mathlib.Core.Bool.{Bool, true, false}
use mathlib.Core.List.{List, [], ◌∷◌}
use native.Mathlib.Omega.{arith}
use Rattle.rules.specs.Refusals.{accepted}
use Rattle.rules.specs.Layout.{octet, reading_checks}
use Rattle.rules.specs.Receiving.{own_checks}
use Rattle.rules.specs.Sweep.{sweep}
use Rattle.rules.specs.Summary.{row_checks}
use Rattle.rules.specs.Arrival.{part_checks}
use Rattle.rules.specs.Calls.{State, Arrives, Arrival}
use Rattle.rules.specs.declared.Table.{Table}
use Rattle.rules.proofs.Refusals.{accepted-both}
use Rattle.rules.proofs.Shortest.{shortest, equal-octets}
use Rattle.demands.specs.Machine.{Machine, checks_of, clocked_by}
use Rattle.demands.specs.Demand1.{Demand1}
use Rattle.demands.specs.Exactly.{Octets}
use Rattle.demands.specs.Follows.{OneForm}
use Rattle.demands.proofs.Parts.{three-accepted}

-- an octet of octets
octet-small : (s : List ℕ) → Octets s → (i : ℕ) → octet s i < 256
octet-small [] h i = omega arith
octet-small (x ∷ s) h zero = h.0
octet-small (x ∷ s) h (suc i) = octet-small s h.1 i

module _ (m : Machine) (d : Demand1 m) (st : State) (x : Arrival) (good : (m.step st (Arrives x)).answer.refusal ≡ 0) where
  all-accepted : accepted (checks_of st (Arrives x)) ≡ true
  all-accepted = go (accepted (checks_of st (Arrives x))) refl
    where
      go : (b : Bool) → accepted (checks_of st (Arrives x)) ≡ b → b ≡ true
      go true e = refl
      go false e = absurd ((d.every st (Arrives x)).refused e good)

  reading-accepted : accepted (reading_checks st.table.registry x.parameter) ≡ true
  unfolding part_checks sweep
  reading-accepted =
      let t : Table = (clocked_by st x).table in
      let own = (accepted-both (own_checks t x.association x.parameter) (row_checks (clocked_by st x).summary x.association) (three-accepted st x all-accepted).1.0).0 in
      (accepted-both (reading_checks t.registry x.parameter) _ own).0

pub one_form : (m : Machine) → Demand1 m → OneForm m
one_form m d =
    record {
      shortest = λ st x o good. shortest st.table.registry x.parameter (reading-accepted m d st x good) (octet-small x.parameter o 0) (octet-small x.parameter o 1);
      equal = λ st st' x x' o o' good good' same.
          equal-octets st.table.registry st'.table.registry x.parameter x'.parameter (reading-accepted m d st x good) (reading-accepted m d st' x' good')
          (octet-small x.parameter o 0) (octet-small x.parameter o 1) (octet-small x'.parameter o' 0) (octet-small x'.parameter o' 1) same;
    }
