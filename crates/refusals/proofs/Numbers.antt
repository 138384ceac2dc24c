-- No refusal has the number that tells of none.
use Rattle.std.proofs.Common.{◌≡◌, arith}
use Rattle.refusals.specs.Numbers.{number_of}
use Rattle.refusals.specs.declared.Refusal.{Refusal}

pub number-some : (r : Refusal) → number_of r ≡ 0 → ⊥
number-some r e = grind arith
