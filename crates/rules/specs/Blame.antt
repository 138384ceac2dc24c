-- What a position tells (document 02, A5): which octet to look at, by the number of the refusal, and that nothing behind that octet matters.
use Rattle.std.specs.Prelude.{ℕ, ◌+◌, ◌≤◌, ◌<◌, ◌≡◌, Bool, true, ◌||◌, ◌⊎◌, List, eqb, length, take}
use Rattle.rules.specs.Numbers.{parameter_most, address_most}
use Rattle.rules.specs.Refusals.{nowhere, fault}
use Rattle.rules.specs.Layout.{octet, has1a, at2, at3, has3a, origin_at, past_address, last_of_context, reading_checks}
use Rattle.rules.specs.declared.Entry.{Entry}
use Rattle.rules.specs.declared.Fault.{Fault}

-- the octets that must have extension 1: 1a, 2 and 3a
abbrev pub IsLastOf : List ℕ → ℕ → Type 0
IsLastOf s at = ((has1a s ≡ true) × (at ≡ 1)) ⊎ ((at ≡ at2 s) ⊎ ((has3a (octet s (at3 s)) ≡ true) × (at ≡ at3 s + 1)))

-- the length octets: the origin's and the destination's
abbrev pub IsLengthOf : List ℕ → ℕ → Type 0
IsLengthOf s at = (at ≡ origin_at s) ⊎ (at ≡ past_address s (origin_at s))

-- the refusals that blame an octet
abbrev pub blames : ℕ → Bool
blames n = eqb n 5 || eqb n 6 || eqb n 7 || eqb n 8 || eqb n 9 || eqb n 23

pub record Blamed (s : List ℕ) (x : Fault) : Type 0 where
  pub five : x.number ≡ 5 → x.position ≡ length s
  pub six : x.number ≡ 6 → IsLastOf s x.position × (x.position < length s) × (octet s x.position < 128)
  pub seven : x.number ≡ 7 → (x.position ≡ at3 s) × (x.position < length s)
  pub eight : x.number ≡ 8 → (x.position ≡ last_of_context s) × (x.position < length s)
  pub nine : x.number ≡ 9 → IsLengthOf s x.position × (x.position < length s) × (address_most < octet s x.position)
  pub padded : x.number ≡ 23 → (has1a s ≡ true) × (x.position ≡ 1) × (1 < length s)
  pub short : blames x.number ≡ true → length s ≤ parameter_most
  pub others : (blames x.number ≡ true → ⊥) → x.position ≡ nowhere

-- the refusals that no octet behind the blamed one can change
abbrev pub is_settled : ℕ → Bool
is_settled n = eqb n 6 || eqb n 8 || eqb n 9 || eqb n 23

-- at one registry, two parameters with the same octets up to and including the blamed one are refused alike
abbrev pub Alike : List Entry → List ℕ → List ℕ → Type 0
Alike registry s s' =
    let x : Fault = fault (reading_checks registry s) in
    is_settled x.number ≡ true → length s' ≤ parameter_most → take (x.position + 1) s ≡ take (x.position + 1) s' → fault (reading_checks registry s') ≡ x
