-- What a parameter that is read keeps to.
use Rattle.std.specs.Prelude.{if◌then◌else◌}
use Prim.Native.Nat.{ℕ, ◌+◌, ◌%◌, ◌≤◌}
use mathlib.Core.Path.{◌≡◌, refl}
use mathlib.Core.Bool.{Bool, true, false, not, and-eq-true_iff}
use mathlib.Core.List.{List, [], ◌∷◌, ◌++◌}
use native.Mathlib.Omega.{arith}
use borrow.Author.Tests.{ltb-false, eqb-false, not-true}
use lib.Dec.{eqb}
use lib.ListN.{length}
use Rattle.rules.specs.Numbers.{parameter_most, address_most, reference_most}
use Rattle.rules.specs.Refusals.{Check, ◌when◌, ◌for◌over◌, ◌for◌unlike◌, ◌blaming◌, accepted}
use Rattle.rules.specs.Registry.{kind_of}
use Rattle.rules.specs.Layout.{octet, has1a, has3a, is_unsegmented, is_new, remaining_of, reference_of, context_of, at2, at3, origin_at, past_address, has_addresses, fields_of, last_of_context, count3a, cut_before, last_checks, second_checks, context_checks, sequence_checks, address_checks, addresses_checks, reading_checks}
use Rattle.rules.specs.declared.Entry.{Entry}
use Rattle.rules.proofs.Refusals.{accepted-both, accepted-one}

-- a length octet that is accepted
length-short : (s : List ℕ) (at : ℕ) → accepted (address_checks s at) ≡ true → octet s at ≤ address_most
length-short s at e =
    let all = simp and-eq-true_iff at e in
    ltb-false address_most (octet s at) (not-true _ all.1.0)

-- both, where there are addresses
pub record Short (b : Bool) (s : List ℕ) (at : ℕ) : Type 0 where
  pub origin : (if b then octet s at else 0) ≤ address_most
  pub destination : (if b then octet s (past_address s at) else 0) ≤ address_most

both-short : (s : List ℕ) (at : ℕ) (b : Bool) (kind : ℕ) → has_addresses kind ≡ b → accepted (addresses_checks kind s at) ≡ true → Short b s at
both-short s at true kind h e =
    let both = accepted-both (address_checks s at) (address_checks s (past_address s at)) (simp h at e) in
    record { origin = length-short s at both.0; destination = length-short s (past_address s at) both.1 }
both-short s at false kind h e = record { origin = omega arith; destination = omega arith }

module _ (registry : List Entry) (s : List ℕ) (e : accepted (reading_checks registry s) ≡ true) where
  abbrev four : List Check
  four = 4 for length s over parameter_most ∷ []

  abbrev addresses : List Check
  addresses = addresses_checks (kind_of registry (context_of s)) s (origin_at s)

  parts : (accepted (four ++ context_checks registry s ++ last_checks s (at2 s) ++ sequence_checks s (at3 s)) ≡ true) × (accepted addresses ≡ true)
  unfolding reading_checks
  parts = accepted-both (four ++ context_checks registry s ++ last_checks s (at2 s) ++ sequence_checks s (at3 s)) addresses e

  pub parameter-short : length s ≤ parameter_most
  parameter-short = ltb-false parameter_most (length s) (not-true _ ((and-eq-true_iff _ _).0 parts.0).0)

  addresses-short : Short (has_addresses (kind_of registry (context_of s))) s (origin_at s)
  addresses-short = both-short s (origin_at s) (has_addresses (kind_of registry (context_of s))) (kind_of registry (context_of s)) refl parts.1

  pub origin-short : (fields_of registry s).origin.length ≤ address_most
  unfolding fields_of
  origin-short = addresses-short.origin

  pub destination-short : (fields_of registry s).destination.length ≤ address_most
  unfolding fields_of
  destination-short = addresses-short.destination

  sequence : (accepted (four ++ context_checks registry s ++ last_checks s (at2 s)) ≡ true) × (accepted (sequence_checks s (at3 s)) ≡ true)
  sequence = accepted-both (four ++ context_checks registry s ++ last_checks s (at2 s)) (sequence_checks s (at3 s)) parts.0

  context : (accepted (four ++ context_checks registry s) ≡ true) × (accepted (last_checks s (at2 s)) ≡ true)
  context = accepted-both (four ++ context_checks registry s) (last_checks s (at2 s)) sequence.0

  pub context-accepted : accepted (context_checks registry s) ≡ true
  context-accepted = (accepted-both four (context_checks registry s) context.0).1

  pub context-registered : kind_of registry (context_of s) ≡ 0 → ⊥
  context-registered =
      let eight : Check = 8 when eqb (kind_of registry (context_of s)) 0 blaming last_of_context s in
      let last = (accepted-both ((cut_before s 1 ∷ []) ++ (if has1a s then second_checks s else [])) (eight ∷ []) context-accepted).1 in
      eqb-false (kind_of registry (context_of s)) 0 (accepted-one eight last)

  -- octet 3a is there where the parameter is segmented
  pub reference-short : is_unsegmented (is_new (octet s (at3 s))) (remaining_of (octet s (at3 s))) ≡ false → reference_of s (at3 s) ≤ reference_most
  reference-short h = go (has3a (octet s (at3 s))) (is_unsegmented (is_new (octet s (at3 s))) (remaining_of (octet s (at3 s)))) h (accepted-one seven last)
    where
      seven : Check
      seven = 7 for count3a (has3a (octet s (at3 s))) unlike count3a (not (is_unsegmented (is_new (octet s (at3 s))) (remaining_of (octet s (at3 s))))) blaming at3 s

      last : accepted (seven ∷ []) ≡ true
      last = (accepted-both ((cut_before s (at3 s + 1) ∷ []) ++ (if has3a (octet s (at3 s)) then last_checks s (at3 s + 1) else [])) (seven ∷ []) sequence.1).1

      go : (b alone : Bool) → alone ≡ false → not (eqb (count3a b) (count3a (not alone))) ≡ false → (if b then octet s (at3 s + 1) % 128 else 255) ≤ reference_most
      go true alone a e = omega arith
      go false true a e = let z : ◌≡◌ {A = ℕ} 0 1 = cc in omega arith
      go false false a e = let z : ◌≡◌ {A = ℕ} 0 1 = cc in omega arith
