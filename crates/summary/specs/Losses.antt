-- A loss that is billed: as the rules bill a record of kind lost, in the words of the code.
use Rattle.std.specs.Prelude.{ℕ, Bool, true, false, List, Option, Some, None, Result, Ok, Err}
use Rattle.refusals.specs.declared.Refusal.{Refusal}
use Rattle.refusals.specs.declared.Refusal.TheVariants.{TotalLarge}
use Rattle.rules.specs.Summary.{tally, row_of}

abbrev pub loss_at : List ℕ → Option ℕ → ℕ → ℕ → List ℕ
loss_at m (Some row) segments octets = tally m 6 row segments octets
loss_at m None segments octets = m

abbrev pub loss_in : List ℕ → ℕ → ℕ → ℕ → List ℕ
loss_in m association segments octets = loss_at m (row_of m association) segments octets

-- what is answered, by whether the totals fit
abbrev pub unless_full : Bool → Result Unit Refusal
unless_full true = Ok tt
unless_full false = Err TotalLarge
