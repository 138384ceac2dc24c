-- A field of two octets is what its octets say, one after the other.
use Rattle.std.specs.Prelude.{if◌then◌else◌, Result, Ok, Err}
use Prim.Native.Nat.{ℕ, ◌+◌, ◌*◌, ◌%◌, ◌≤◌, ◌<◌}
use mathlib.Core.Path.{◌≡◌, refl, sym, ap, ◌∙◌}
use mathlib.Core.Bool.{Bool, true, false, not}
use native.Mathlib.Omega.{arith}
use borrow.Author.Tests.{lt-ltb, le-ltb}
use mathlib.Core.List.{List, [], ◌∷◌, ◌++◌}
use lib.Dec.{eqb, leb, ltb}
use lib.ListN.{length}
use Rattle.rules.specs.Refusals.{Check, ◌when◌, ◌blaming◌, judged_at}
use Rattle.rules.specs.Registry.{kind_of}
use Rattle.rules.specs.Layout.{octet, is_unsegmented, is_new, remaining_of, count3a, last_checks, is_padded, second_checks}
use Rattle.rules.proofs.Refusals.{fault_in, fault-append, fault-then}
use Rattle.rules.specs.declared.Context.{Context}
use Rattle.rules.specs.declared.Entry.{Entry}
use Rattle.rules.specs.declared.Fault.{Fault}
use Rattle.param_fields.specs.Fields.{octet_field, last_field, known_field, context_field, sequence_field}
use Rattle.param_fields.specs.declared.Sequence.{Sequence}

-- an octet that is not there, or is: the code compares its position
pub cut : (n at : ℕ) → n ≤ at → ltb n (at + 1) ≡ true
cut n at h = lt-ltb n (at + 1) (omega (arith, h))

pub uncut : (n at : ℕ) → at < n → ltb n (at + 1) ≡ false
uncut n at h = le-ltb n (at + 1) (omega (arith, h))

-- octet 1a after octet 1
abbrev pub after1a : List Entry → ℕ → Result (ℕ × ℕ) Fault → Result (Context × ℕ × ℕ) Fault
after1a registry x (Err e) = Err e
after1a registry x (Ok (y, next)) = known_field registry (record { 0 = x % 128 + 128 * (y % 128) }) (eqb (y % 128) 0) 1

-- one check alone
judged-one : {A : Type 0} (c : Check) (f : Fault → A) (a : A) → judged_at (c ∷ []) f a ≡ (if c.applies then f (fault_in c) else a)
judged-one c f a = go c.applies refl
  where
    go : (b : Bool) → c.applies ≡ b → judged_at (c ∷ []) f a ≡ (if b then f (fault_in c) else a)
    go true e = simp e
    go false e = simp e

-- .. and as the last of several
judged-last : {A : Type 0} (xs : List Check) (c : Check) (f : Fault → A) (a : A) → judged_at (xs ++ (c ∷ [])) f a ≡ judged_at xs f (if c.applies then f (fault_in c) else a)
judged-last xs c f a = fault-append xs (c ∷ []) f a ∙ ap (judged_at xs f) (judged-one c f a)

-- a context that is not registered, at its last octet
abbrev eight : List Entry → ℕ → ℕ → Check
eight registry x last = 8 when eqb (kind_of registry x) 0 blaming last

module _ (registry : List Entry) (s : List ℕ) (there : ltb (length s) 1 ≡ false) where
  pub context-one : leb 128 (octet s 0) ≡ true → context_field registry s ≡ known_field registry (record { 0 = octet s 0 % 128 }) false 0
  unfolding context_field
  context-one e = simp (there, e) (judged-one (eight registry (octet s 0 % 128) 0) Err _)

  pub context-two : leb 128 (octet s 0) ≡ false → context_field registry s ≡ after1a registry (octet s 0) (last_field s 1)
  unfolding context_field last_field
  context-two e =
      let x : Context = record { 0 = octet s 0 % 128 + 128 * (octet s 1 % 128) } in
      simp (there, e)
      (judged-last (second_checks s) (eight registry x.0 1) Err (Ok (x, kind_of registry x.0, 2))
      ∙ judged-last (last_checks s 1) (23 when is_padded s blaming 1) Err (known_field registry x false 1)
      ∙ sym (fault-then (after1a registry (octet s 0)) (last_checks s 1) Err (Ok (octet s 1, 2))))

-- octet 1, and what follows it
abbrev pub after1 : List Entry → List ℕ → Result ℕ Fault → Result (Context × ℕ × ℕ) Fault
after1 registry s (Err e) = Err e
after1 registry s (Ok x) = if leb 128 x then known_field registry (record { 0 = x % 128 }) false 0 else after1a registry x (last_field s 1)

pub context-is : (registry : List Entry) (s : List ℕ) → context_field registry s ≡ after1 registry s (octet_field s 0)
unfolding context_field octet_field
context-is registry s = there (ltb (length s) 1) refl
  where
    one : (b : Bool) → leb 128 (octet s 0) ≡ b → ltb (length s) 1 ≡ false → context_field registry s ≡ after1 registry s (octet_field s 0)
    one true e h = context-one registry s h e ∙ simp (h, e)
    one false e h = context-two registry s h e ∙ simp (h, e)

    there : (b : Bool) → ltb (length s) 1 ≡ b → context_field registry s ≡ after1 registry s (octet_field s 0)
    there true h = simp h
    there false h = one (leb 128 (octet s 0)) refl h

-- octet 3a, at + 1, after octet 3
abbrev pub after3a : ℕ → ℕ → Result (ℕ × ℕ) Fault → Result (Sequence × ℕ) Fault
after3a at x (Err e) = Err e
after3a at x (Ok (y, next)) =
    if is_unsegmented (is_new x) (remaining_of x) then Err (record { number = 7; position = at }) else
    Ok (record { new = is_new x; remaining = record { 0 = remaining_of x }; reference = record { 0 = y % 128 } }, next)

-- with octet 3 alone, 7 is for one that should have 3a
abbrev pub alone3 : ℕ → ℕ → Result (Sequence × ℕ) Fault
alone3 at x =
    if is_unsegmented (is_new x) (remaining_of x)
    then Ok (record { new = is_new x; remaining = record { 0 = remaining_of x }; reference = record { 0 = 255 } }, at + 1)
    else Err (record { number = 7; position = at })

like-one : (b : Bool) → not (eqb 0 (count3a (not b))) ≡ not b
like-one true = refl
like-one false = refl

-- the same by the other test
alone-not : {A : Type 0} (b : Bool) (x y : A) → (if not b then x else y) ≡ (if b then y else x)
alone-not true x y = refl
alone-not false x y = refl

-- with 3a there, 7 is for one that should not be
unlike-one : (b : Bool) → not (eqb 1 (count3a (not b))) ≡ b
unlike-one true = refl
unlike-one false = refl

module _ (s : List ℕ) (at : ℕ) (there : ltb (length s) (at + 1) ≡ false) where
  pub sequence-one : leb 128 (octet s at) ≡ true → sequence_field s at ≡ alone3 at (octet s at)
  unfolding sequence_field
  sequence-one e =
      let x : ℕ = octet s at in
      simp (there, e, like-one)
      (judged-one (7 when not (is_unsegmented (is_new x) (remaining_of x)) blaming at) Err _
      ∙ alone-not (is_unsegmented (is_new x) (remaining_of x)) _ _)

  pub sequence-two : leb 128 (octet s at) ≡ false → sequence_field s at ≡ after3a at (octet s at) (last_field s (at + 1))
  unfolding sequence_field last_field
  sequence-two e =
      let x : ℕ = octet s at in
      let past : at + 2 ≡ at + 1 + 1 = omega arith in
      let q : Sequence = record { new = is_new x; remaining = record { 0 = remaining_of x }; reference = record { 0 = octet s (at + 1) % 128 } } in
      simp (there, e, unlike-one, past)
      (judged-last (last_checks s (at + 1)) (7 when is_unsegmented (is_new x) (remaining_of x) blaming at) Err (Ok (q, at + 1 + 1))
      ∙ sym (fault-then (after3a at x) (last_checks s (at + 1)) Err (Ok (octet s (at + 1), at + 1 + 1))))

-- octet 3, and what follows it
abbrev pub after3 : List ℕ → ℕ → Result ℕ Fault → Result (Sequence × ℕ) Fault
after3 s at (Err e) = Err e
after3 s at (Ok x) = if leb 128 x then alone3 at x else after3a at x (last_field s (at + 1))

pub sequence-is : (s : List ℕ) (at : ℕ) → sequence_field s at ≡ after3 s at (octet_field s at)
unfolding sequence_field octet_field
sequence-is s at = there (ltb (length s) (at + 1)) refl
  where
    one : (b : Bool) → leb 128 (octet s at) ≡ b → ltb (length s) (at + 1) ≡ false → sequence_field s at ≡ after3 s at (octet_field s at)
    one true e h = sequence-one s at h e ∙ simp (h, e)
    one false e h = sequence-two s at h e ∙ simp (h, e)

    there : (b : Bool) → ltb (length s) (at + 1) ≡ b → sequence_field s at ≡ after3 s at (octet_field s at)
    there true h = simp h
    there false h = one (leb 128 (octet s at)) refl h

-- each field by its first octet
pub ruleset steps = (context-is, sequence-is)
