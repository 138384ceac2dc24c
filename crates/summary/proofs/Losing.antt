-- A loss that is billed by the rules is one in the words of the code.
use Rattle.std.specs.Prelude.{Bool, true, false, Option, Some, None, Ok, Err}
use mathlib.Core.Path.{◌≡◌, refl}
use mathlib.Core.List.{List}
use Prim.Native.Nat.{ℕ}
use native.Mathlib.Omega.{arith}
use Rattle.refusals.specs.declared.Refusal.{Refusal}
use Rattle.refusals.specs.declared.Refusal.TheVariants.{TotalLarge}
use Rattle.rules.specs.Records.{lost}
use Rattle.rules.specs.Summary.{row_of, bill_at, bill}
use Rattle.rules.specs.declared.Record.{Record}
use Rattle.summary.specs.Losses.{loss_at, loss_in, unless_full}

pub bill-loss-in : (m : List ℕ) (r : Record) → r.kind ≡ lost → bill m r ≡ loss_in m r.key.association r.segments r.octets
bill-loss-in m r e = go (row_of m r.key.association)
  where
    go : (f : Option ℕ) → bill_at m f r ≡ loss_at m f r.segments r.octets
    go (Some row) = rw e
    go None = refl

-- what an answer says of the totals
pub fits-ok : (b : Bool) → Ok tt ≡ unless_full b → b ≡ true
fits-ok true e = refl
fits-ok false e = grind arith

pub full-err : (b : Bool) (r : Refusal) → Err r ≡ unless_full b → (b ≡ false) × (r ≡ TotalLarge)
full-err true r e = grind arith
full-err false r e = (refl, grind arith)
