-- Document 02, A5: what the position of a reading refusal tells.
use Rattle.std.specs.Prelude.{if◌then◌else◌}
use Prim.Native.Nat.{ℕ, ◌+◌, ◌≤◌, ◌<◌}
use mathlib.Core.Path.{◌≡◌, refl, sym, ap, ◌∙◌}
use mathlib.Core.Bool.{Bool, true, false, cond, true≢false}
use mathlib.Core.Logic.{inl, inr}
use mathlib.Core.List.{List, [], ◌∷◌, ◌++◌}
use native.Mathlib.Omega.{arith}
use borrow.Author.Tests.{ltb-true, ltb-false}
use lib.Dec.{eqb, ltb}
use lib.ListN.{length}
use Rattle.rules.specs.Numbers.{parameter_most, address_most}
use Rattle.rules.specs.Refusals.{Check, ◌when◌, ◌blaming◌, accepted, fault, unplaced}
use Rattle.rules.specs.Registry.{kind_of}
use Rattle.rules.specs.Layout.{octet, has1a, at2, at3, has3a, context_of, origin_at, past_address, has_addresses, last_of_context, is_padded, last_checks, second_checks, context_checks, sequence_checks, address_checks, addresses_checks, reading_checks}
use Rattle.rules.specs.Blame.{IsLastOf, IsLengthOf, blames, Blamed}
use Rattle.rules.specs.declared.Entry.{Entry}
use Rattle.rules.specs.declared.Fault.{Fault}
use Rattle.rules.proofs.Refusals.{fault_in, fault-leads}

-- what is asked of each check, where it is the first that applies
module _ (P : Fault → Type 0) where
  abbrev pub Guarded : List Check → Type 0
  Guarded [] = Unit {0}
  Guarded (c ∷ cs) = (c.applies ≡ true → P (fault_in c)) × (c.applies ≡ false → Guarded cs)

  -- holds of the fault, if it holds where none applies
  pub guarded : (cs : List Check) → Guarded cs → P (fault []) → P (fault cs)
  guarded [] g none = none
  guarded (c ∷ cs) g none = rw (fault-leads c cs) (go c.applies refl (λ later. guarded cs later none))
    where
      go : (b : Bool) → c.applies ≡ b → (Guarded cs → P (fault cs)) → P (if b then fault_in c else fault cs)
      go true e later = g.0 e
      go false e later = later (g.1 e)

  -- the second list is asked only where the first accepts
  pub guarded-append : (xs ys : List Check) → Guarded xs → (accepted xs ≡ true → Guarded ys) → Guarded (xs ++ ys)
  guarded-append [] ys g h = h refl
  guarded-append (x ∷ xs) ys g h = (g.0, λ e. guarded-append xs ys (g.1 e) (λ a. h (simp e a)))

-- what a number that blames says of its position
abbrev Says : List ℕ → ℕ → ℕ → Type 0
Says s n p =
    cond (eqb n 5) (p ≡ length s)
    (cond (eqb n 6) (IsLastOf s p × (p < length s) × (octet s p < 128))
    (cond (eqb n 7) ((p ≡ at3 s) × (p < length s))
    (cond (eqb n 8) ((p ≡ last_of_context s) × (p < length s))
    (cond (eqb n 9) (IsLengthOf s p × (p < length s) × (address_most < octet s p)) ((has1a s ≡ true) × (p ≡ 1) × (1 < length s))))))

module _ (s : List ℕ) where
  -- a refusal that blames an octet, by what its number says
  placed : (n p : ℕ) → blames n ≡ true → length s ≤ parameter_most → Says s n p → Blamed s (record { number = n; position = p })
  placed n p b h says =
      record {
        five = λ e. rw e at says;
        six = λ e. rw e at says;
        seven = λ e. rw e at says;
        eight = λ e. rw e at says;
        nine = λ e. rw e at says;
        padded = λ e. rw e at says;
        short = λ e. h;
        others = λ e. absurd (e b);
      }

  -- and one that blames none
  pub unblamed : (n : ℕ) → blames n ≡ false → Blamed s (unplaced n)
  unblamed n b =
      record {
        five = other 5 refl;
        six = other 6 refl;
        seven = other 7 refl;
        eight = other 8 refl;
        nine = other 9 refl;
        padded = other 23 refl;
        short = λ e. absurd (true≢false (sym e ∙ b));
        others = λ e. refl;
      }
    where
      other : {A : Type 0} (m : ℕ) → blames m ≡ true → n ≡ m → A
      other m a e = absurd (true≢false (sym a ∙ ap blames (sym e) ∙ b))

-- the groups of checks, once the parameter has passed 4
module _ (s : List ℕ) (h : length s ≤ parameter_most) where
  abbrev Ok : List Check → Type 0
  Ok cs = Guarded (Blamed s) cs

  five : Blamed s (record { number = 5; position = length s })
  five = placed s 5 (length s) refl h refl

  -- what has passed 5 is there
  there : (at : ℕ) → ltb (length s) (at + 1) ≡ false → at < length s
  there at e = omega (arith, ltb-false)

  last : (at : ℕ) (cs : List Check) → IsLastOf s at → (at < length s → Ok cs) → Ok (last_checks s at ++ cs)
  last at cs is next = (λ _. five, λ i. (λ e. placed s 6 at refl h (is, there at i, ltb-true _ _ e), λ _. next (there at i)))

  context : (registry : List Entry) → Ok (context_checks registry s)
  context registry = (λ _. five, λ i. go (has1a s) refl (there 0 i))
    where
      eight : ℕ → Check
      eight at = 8 when eqb (kind_of registry (context_of s)) 0 blaming at

      ends : (at : ℕ) → at ≡ last_of_context s → at < length s → Ok (eight at ∷ [])
      ends at e inside = (λ _. placed s 8 at refl h (e, inside), λ _. tt)

      go : (b : Bool) → has1a s ≡ b → 0 < length s → Ok ((if b then second_checks s else []) ++ (eight (if b then 1 else 0) ∷ []))
      go true e inside =
          last 1 (23 when is_padded s blaming 1 ∷ eight 1 ∷ []) (inl (e, refl)) (λ inside. (λ _. placed s 23 1 refl h (e, refl, inside), λ _. ends 1 (simp e) inside))
      go false e inside = ends 0 (simp e) inside

  sequence : Ok (sequence_checks s (at3 s))
  sequence = (λ _. five, λ i. go (has3a (octet s (at3 s))) _ refl (there (at3 s) i))
    where
      seven : (test : Bool) → at3 s < length s → Ok (7 when test blaming at3 s ∷ [])
      seven test inside = (λ _. placed s 7 (at3 s) refl h (refl, inside), λ _. tt)

      go : (b test : Bool) → has3a (octet s (at3 s)) ≡ b → at3 s < length s → Ok ((if b then last_checks s (at3 s + 1) else []) ++ (7 when test blaming at3 s ∷ []))
      go true test e inside = last (at3 s + 1) (7 when test blaming at3 s ∷ []) (inr (inr (e, refl))) (λ _. seven test inside)
      go false test e inside = seven test inside

  address : (at : ℕ) (cs : List Check) → IsLengthOf s at → Ok cs → Ok (address_checks s at ++ cs)
  address at cs is next = (λ _. five, λ i. (λ e. placed s 9 at refl h (is, there at i, ltb-true _ _ e), λ _. (λ _. five, λ _. next)))

  addresses : (kind : ℕ) → Ok (addresses_checks kind s (origin_at s))
  addresses kind = go (has_addresses kind)
    where
      second : ℕ
      second = past_address s (origin_at s)

      go : (b : Bool) → Ok (if b then address_checks s (origin_at s) ++ address_checks s second else [])
      go true = address (origin_at s) (address_checks s second) (inl refl) (address second [] (inr refl) tt)
      go false = tt

  reading : (registry : List Entry)
      → Ok (context_checks registry s ++ last_checks s (at2 s) ++ sequence_checks s (at3 s) ++ addresses_checks (kind_of registry (context_of s)) s (origin_at s))
  reading registry =
      let P : Fault → Type 0 = Blamed s in
      let cs : List Check = context_checks registry s in
      let ls : List Check = last_checks s (at2 s) in
      let qs : List Check = sequence_checks s (at3 s) in
      let two = guarded-append P cs ls (context registry) (λ _. last (at2 s) [] (inr (inl refl)) (λ _. tt)) in
      let three = guarded-append P (cs ++ ls) qs two (λ _. sequence) in
      guarded-append P (cs ++ ls ++ qs) _ three (λ _. addresses (kind_of registry (context_of s)))

pub reading-blames : (registry : List Entry) (s : List ℕ) → Guarded (Blamed s) (reading_checks registry s)
unfolding reading_checks
reading-blames registry s = (λ e. unblamed s 4 refl, λ e. reading s (ltb-false _ _ e) registry)

pub blamed : (registry : List Entry) (s : List ℕ) → Blamed s (fault (reading_checks registry s))
blamed registry s = guarded (Blamed s) (reading_checks registry s) (reading-blames registry s) (unblamed s 0 refl)
