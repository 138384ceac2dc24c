-- What a reading says of the parameter.
use Rattle.std.specs.Prelude.{Result, Ok, Err}
use Prim.Native.Nat.{ℕ, ◌≤◌}
use mathlib.Core.Path.{◌≡◌, refl, sym, ap}
use mathlib.Core.Bool.{Bool, true, false}
use mathlib.Core.List.{List}
use native.Mathlib.Omega.{arith}
use lib.ListN.{length}
use Rattle.rules.specs.Numbers.{parameter_most, address_most}
use Rattle.rules.specs.Refusals.{accepted, first, fault}
use Rattle.rules.specs.Layout.{fields_of, reading_checks}
use Rattle.rules.proofs.Refusals.{first-each}
use Rattle.rules.proofs.Least.{reading-least}
use Rattle.rules.proofs.Reading.{parameter-short, origin-short, destination-short}
use Rattle.param_read.specs.Reading.{reading}
use Rattle.rules.specs.declared.Entry.{Entry}
use Rattle.rules.specs.declared.Table.{Table}
use Rattle.rules.specs.declared.Fault.{Fault}
use Rattle.rules.specs.declared.Fields.{Fields}

-- a parameter that is read is short, and so are its addresses
pub record Short (s : List ℕ) (f : Fields) : Type 0 where
  pub parameter : length s ≤ parameter_most
  pub origin : f.origin.length ≤ address_most
  pub destination : f.destination.length ≤ address_most

pub read_short : (t : Table) (s : List ℕ) (f : Fields) → reading t.registry s ≡ Ok f → Short s f
unfolding reading
read_short t s f e = go (accepted (reading_checks t.registry s)) refl
  where
    go : (b : Bool) → accepted (reading_checks t.registry s) ≡ b → Short s f
    go true a =
        let same : fields_of t.registry s ≡ f = let same_read = simp a at e in cc in
        record {
          parameter = parameter-short t.registry s a;
          origin = rw same at (origin-short t.registry s a);
          destination = rw same at (destination-short t.registry s a);
        }
    go false a = let z : ◌≡◌ {A = ℕ} 0 1 = let other = simp a at e in cc in absurd (let y : ⊥ = omega arith in y)

-- readings that are one have the same fields
pub read_same : (f g : Fields) → ◌≡◌ {A = Result Fields Fault} (Ok f) (Ok g) → f ≡ g
read_same f g e = cc

pub refused-read : (x : Fault) (f : Fields) → ◌≡◌ {A = Result Fields Fault} (Err x) (Ok f) → ⊥
refused-read x f e = let z : ◌≡◌ {A = ℕ} 0 1 = cc in (let y : ⊥ = omega arith in y)

-- what is read are the fields; what is not has a number
pub read-fields : (registry : List Entry) (s : List ℕ) (f : Fields) → reading registry s ≡ Ok f → fields_of registry s ≡ f
unfolding reading
read-fields registry s f e = go (accepted (reading_checks registry s)) refl
  where
    go : (b : Bool) → accepted (reading_checks registry s) ≡ b → fields_of registry s ≡ f
    go true a = let same = simp a at e in cc
    go false a = absurd (refused-read _ f (simp a at e))

pub read_number : (registry : List Entry) (s : List ℕ) (x : Fault) → reading registry s ≡ Err x → x.number ≡ 0 → ⊥
unfolding reading
read_number registry s x e z = go (accepted (reading_checks registry s)) refl
  where
    go : (b : Bool) → accepted (reading_checks registry s) ≡ b → ⊥
    go true a = refused-read x (fields_of registry s) (sym (simp a at e))
    go false a =
        let same : fault (reading_checks registry s) ≡ x = let h = simp a at e in cc in
        let number : first (reading_checks registry s) ≡ x.number = ap (λ (y : Fault). y.number) same in
        let least = first-each (λ k. 2 ≤ k) (reading_checks registry s) (reading-least registry s) a in
        omega arith
