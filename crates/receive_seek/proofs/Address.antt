-- An address of a parameter, zero filled.
use Prim.Native.Nat.{ℕ, ◌+◌, ◌-◌, ◌≤◌}
use mathlib.Core.Path.{◌≡◌, sym, ap, ◌∙◌}
use mathlib.Core.List.{List, ◌++◌}
use native.Mathlib.Nat.{zero-add}
use native.Mathlib.Omega.{arith}
use lib.ListN.{length, take, drop, replicate, length-replicate}
use Rattle.octets.specs.Splice.{splice}
use Rattle.octets.proofs.Splice.{splice-is}
use Rattle.rules.specs.Numbers.{address_most}
use Rattle.rules.specs.Records.{zero_filled}
use Rattle.rules.specs.Receiving.{address_at}
use Rattle.rules.specs.declared.Address.{Address}
use Rattle.rules.specs.declared.Span.{Span}

drop-zeros : (n m : ℕ) → drop n (replicate {A = ℕ} (n + m) 0) ≡ replicate m 0
drop-zeros n m = ap (λ (l : List ℕ). drop n l) (sym (lib.ListN.replicate-append-replicate n m 0)) ∙ lib.Seq.drop_at (replicate n 0) (replicate m 0) n (length-replicate n 0)

-- an address written over zeros is zero filled
pub filled : (l : List ℕ) → length l ≤ address_most → splice (replicate address_most 0) 0 l ≡ zero_filled l
filled l h =
    let m : length l + (address_most - length l) ≡ address_most = omega arith in
    splice-is (replicate address_most 0) 0 l (omega arith) ∙ rw zero-add (ap (λ (r : List ℕ). l ++ r) (rw m at (drop-zeros (length l) (address_most - length l))))

-- an address from its octets
abbrev address_with : Span → List ℕ → Address
address_with a octets = record { octets = octets; length = a.length }

pub address_is : (s : List ℕ) (a : Span) (part octets : List ℕ) → a.length ≤ address_most → part ≡ take a.length (drop a.at s)
    → octets ≡ splice (replicate address_most 0) 0 part → address_with a octets ≡ address_at s a
address_is s a part octets h e f =
    ap (address_with a) (f ∙ rw e (filled (take a.length (drop a.at s)) (simp lib.ListN.length-take (omega arith))))
