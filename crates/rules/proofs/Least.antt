-- The numbers of a segment's checks: of reading, 4 to 9 and 23. None is 0, so that 0 says that none applies.
use Rattle.std.specs.Prelude.{if◌then◌else◌}
use Prim.Native.Nat.{ℕ, ◌+◌, ◌≤◌}
use mathlib.Core.Path.{◌≡◌, refl}
use mathlib.Core.Bool.{Bool, true, false}
use mathlib.Core.List.{List, [], ◌++◌}
use native.Mathlib.Omega.{arith}
use Rattle.rules.specs.Refusals.{Check, accepted, first}
use Rattle.rules.specs.Layout.{has1a, has3a, octet, at2, at3, has_addresses, origin_at, past_address, context_of, last_checks, second_checks, context_checks, sequence_checks, address_checks, addresses_checks, reading_checks}
use Rattle.rules.specs.Registry.{kind_of}
use Rattle.rules.specs.Receiving.{segment_checks}
use Rattle.rules.specs.declared.Entry.{Entry}
use Rattle.rules.specs.declared.Table.{Table}
use Rattle.rules.proofs.Refusals.{Each, each_append, each-if, each-so, first-each, Least}

-- what holds of the numbers of reading's checks
module _ (P : ℕ → Type 0) (four : P 4) (five : P 5) (six : P 6) (seven : P 7) (eight : P 8) (nine : P 9) (padded : P 23) where
  last-each : (s : List ℕ) (at : ℕ) → Each P (last_checks s at)
  last-each s at = (five, (six, tt))

  address-each : (s : List ℕ) (at : ℕ) → Each P (address_checks s at)
  address-each s at = (five, (nine, (five, tt)))

  second-each : (s : List ℕ) → Each P (second_checks s)
  second-each s = (five, (six, (padded, tt)))

  context-each : (registry : List Entry) (s : List ℕ) → Each P (context_checks registry s)
  context-each registry s = (five, each_append P (if has1a s then second_checks s else []) _ (each-if P (has1a s) _ _ (second-each s) tt) (eight, tt))

  sequence-each : (s : List ℕ) (at : ℕ) → Each P (sequence_checks s at)
  sequence-each s at =
      let optional = each-if P (has3a (octet s at)) (last_checks s (at + 1)) [] (last-each s (at + 1)) tt in
      (five, each_append P (if has3a (octet s at) then last_checks s (at + 1) else []) _ optional (seven, tt))

  addresses-each : (kind : ℕ) (s : List ℕ) (at : ℕ) → Each P (addresses_checks kind s at)
  addresses-each kind s at =
      let two = each_append P (address_checks s at) (address_checks s (past_address s at)) (address-each s at) (address-each s (past_address s at)) in
      each-if P (has_addresses kind) _ [] two tt

  pub reading-each : (registry : List Entry) (s : List ℕ) → Each P (reading_checks registry s)
  unfolding reading_checks
  reading-each registry s =
      let kind : ℕ = kind_of registry (context_of s) in
      let two : List Check = context_checks registry s ++ last_checks s (at2 s) in
      let two-each = each_append P (context_checks registry s) (last_checks s (at2 s)) (context-each registry s) (last-each s (at2 s)) in
      let three-each = each_append P two (sequence_checks s (at3 s)) two-each (sequence-each s (at3 s)) in
      (four, each_append P (two ++ sequence_checks s (at3 s)) (addresses_checks kind s (origin_at s)) three-each (addresses-each kind s (origin_at s)))

pub reading-least : (registry : List Entry) (s : List ℕ) → Least 2 (reading_checks registry s)
reading-least registry s = reading-each (λ k. 2 ≤ k) (omega arith) (omega arith) (omega arith) (omega arith) (omega arith) (omega arith) (omega arith) registry s

-- 0 is answered only where none applies
pub zero-accepted : (n : ℕ) (cs : List Check) → Least (n + 1) cs → first cs ≡ 0 → accepted cs ≡ true
zero-accepted n cs h e = go (accepted cs) refl
  where
    go : (b : Bool) → accepted cs ≡ b → b ≡ true
    go true a = refl
    go false a = absurd (let z = first-each (λ k. n + 1 ≤ k) cs h a in omega arith)

pub segment-least : (t : Table) (store report : List ℕ) (association : ℕ) (s : List ℕ) → Least 1 (segment_checks t store report association s)
unfolding segment_checks
segment-least t store report association s =
    let reads = each-so (λ k. 2 ≤ k) (λ k. 1 ≤ k) (reading_checks t.registry s) (λ n h. omega arith) (reading-least t.registry s) in
    (omega arith, (omega arith, (omega arith, each_append (λ k. 1 ≤ k) (reading_checks t.registry s) _ reads (omega arith, tt))))
