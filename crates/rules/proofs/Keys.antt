-- Key equality is equality: of every part, an address by its length and its octets.
use Prim.Native.Nat.{ℕ}
use mathlib.Core.Path.{◌≡◌, refl, sym, ap, ◌∙◌}
use mathlib.Core.Logic.{◌↔◌}
use mathlib.Core.Bool.{Bool, true, ◌&&◌, and-eq-true_iff}
use mathlib.Core.List.{List, [], ◌∷◌}
use native.Mathlib.Omega.{arith}
use lib.Dec.{eqb}
use lib.ListN.{take}
use Rattle.octets.specs.Number.{number}
use Rattle.rules.specs.Records.{address_of}
use borrow.Author.Tests.{eqb-true, eq-eqb}
use Rattle.rules.specs.Places.{same_octets, same_address, same_key}
use Rattle.rules.specs.declared.Address.{Address}
use Rattle.rules.specs.declared.Key.{Key}

octets-equal : (a b : List ℕ) → same_octets a b ≡ true → a ≡ b
octets-equal [] [] e = refl
octets-equal [] (y ∷ b) e = cc
octets-equal (x ∷ a) [] e = cc
octets-equal (x ∷ a) (y ∷ b) e =
    let both = (and-eq-true_iff (eqb x y) (same_octets a b)).0 e in
    let head = eqb-true x y both.0 in
    let tail = octets-equal a b both.1 in
    cc

octets-self : (a : List ℕ) → same_octets a a ≡ true
octets-self [] = refl
octets-self (x ∷ a) = simp (eq-eqb x x refl, octets-self a)

-- an address from its parts
abbrev address_from : List ℕ → ℕ → Address
address_from o n = record { octets = o; length = n }

address-parts : (o p : List ℕ) (n m : ℕ) → n ≡ m → o ≡ p → address_from o n ≡ address_from p m
address-parts o p n m e f = rw (e, f)

pub same_address_lem : (a b : Address) → (same_address a b ≡ true) ↔ (a ≡ b)
unfolding same_address
same_address_lem a b = (equal, λ e. rw e (simp (eq-eqb b.length b.length refl, octets-self b.octets)))
  where
    equal : (eqb a.length b.length && same_octets a.octets b.octets) ≡ true → a ≡ b
    equal e =
        let both = (and-eq-true_iff (eqb a.length b.length) (same_octets a.octets b.octets)).0 e in
        address-parts a.octets b.octets _ _ (eqb-true a.length b.length both.0) (octets-equal a.octets b.octets both.1)

-- a key from its parts
abbrev key_from : ℕ → ℕ → Address → Address → ℕ → Key
key_from a c o d r = record { association = a; context = record { 0 = c }; origin = o; destination = d; reference = record { 0 = r } }

parts-equal : (a b c d r s : ℕ) (o p e f : Address) → a ≡ b → c ≡ d → r ≡ s → o ≡ p → e ≡ f → key_from a c o e r ≡ key_from b d p f s
parts-equal a b c d r s o p e f e1 e2 e3 e4 e5 = rw (e1, e2, e3, e4, e5)

pub same-equal : (a b : Key) → same_key a b ≡ true → a ≡ b
unfolding same_key
same-equal a b e =
    let all = simp and-eq-true_iff at e in
    parts-equal _ _ _ _ _ _ a.origin b.origin a.destination b.destination
    (eqb-true a.association b.association all.0.0.0.0)
    (eqb-true a.context.0 b.context.0 all.0.0.0.1)
    (eqb-true a.reference.0 b.reference.0 all.0.0.1)
    ((same_address_lem a.origin b.origin).0 all.0.1)
    ((same_address_lem a.destination b.destination).0 all.1)

pub same_self : (a : Key) → same_key a a ≡ true
unfolding same_key
same_self a =
    simp (
      eq-eqb a.association a.association refl,
      eq-eqb a.context.0 a.context.0 refl,
      eq-eqb a.reference.0 a.reference.0 refl,
      (same_address_lem a.origin a.origin).1 refl,
      (same_address_lem a.destination a.destination).1 refl,
    )

pub same_key_lem : (a b : Key) → (same_key a b ≡ true) ↔ (a ≡ b)
same_key_lem a b = (same-equal a b, λ e. rw e (same_self b))

-- WRONG COMPARISONS, refuted: any that sees one of the addresses only by some view of it, under which two different addresses look the same.

-- a key with another address in one of two places
abbrev pub Placing : Type 0
Placing = Key → Address → Key

abbrev pub from_there : Placing
from_there k a = record { association = k.association; context = k.context; origin = a; destination = k.destination; reference = k.reference }

abbrev pub to_there : Placing
to_there k a = record { association = k.association; context = k.context; origin = k.origin; destination = a; reference = k.reference }

-- what a comparison says does not change where the address there changes and looks the same
abbrev pub Sees : {A : Type 0} → Placing → (Address → A) → (Key → Key → Bool) → Type 0
Sees put view test = (k l : Key) (a b : Address) → view a ≡ view b → test k (put l a) ≡ test k (put l b)

-- it is not key equality
blind : {A : Type 0} (put : Placing) (view : Address → A) (test : Key → Key → Bool) (k : Key) (a b : Address) → view a ≡ view b → (put k a ≡ put k b → a ≡ b) → (a ≡ b → ⊥)
    → Sees put view test → ((k l : Key) → test k l ≡ same_key k l) → ⊥
blind put view test k a b looks apart differ sees is =
    let one : same_key (put k a) (put k b) ≡ true = sym (is (put k a) (put k b)) ∙ sees (put k a) k b a (sym looks) ∙ is (put k a) (put k a) ∙ same_self (put k a) in
    differ (apart (same-equal (put k a) (put k b) one))

-- 07, 00 07 and 07 00: as numbers the first two are one, and zero filled the first and the last
abbrev a07 : Address
a07 = address_of (7 ∷ [])

abbrev a0007 : Address
a0007 = address_of (0 ∷ 7 ∷ [])

abbrev a0700 : Address
a0700 = address_of (7 ∷ 0 ∷ [])

lengths_differ : (a b : Address) → (a.length ≡ b.length → ⊥) → a ≡ b → ⊥
lengths_differ a b h e = h (ap (λ (a : Address). a.length) e)

abbrev some : Key
some = key_from 9 4 a07 a07 5

-- one that does not look at the address; one that reads it as a number; one that takes its octets, zero filled, without its length
abbrev pub unseen : Address → Unit {0}
unseen a = tt

abbrev pub address_number : Address → ℕ
address_number a = number (take a.length a.octets)

abbrev pub filled_octets : Address → List ℕ
filled_octets a = a.octets

-- of either address: what is put there is there
abbrev Kept : Placing → Type 0
Kept put = (k : Key) (a b : Address) → put k a ≡ put k b → a ≡ b

kept_from : Kept from_there
kept_from k a b e = ap (λ (k : Key). k.origin) e

kept-to : Kept to_there
kept-to k a b e = ap (λ (k : Key). k.destination) e

-- a comparison that sees one of the addresses in one of these ways only is not key equality
pub record NotBy (put : Placing) : Type 0 where
  pub unseen : (test : Key → Key → Bool) → Sees put unseen test → ((k l : Key) → test k l ≡ same_key k l) → ⊥
  pub number : (test : Key → Key → Bool) → Sees put address_number test → ((k l : Key) → test k l ≡ same_key k l) → ⊥
  pub filled : (test : Key → Key → Bool) → Sees put filled_octets test → ((k l : Key) → test k l ≡ same_key k l) → ⊥

not-by : (put : Placing) → Kept put → NotBy put
not-by put kept =
    record {
      unseen = λ test. blind put unseen test some a07 a0007 refl (kept some a07 a0007) (lengths_differ a07 a0007 (λ e. omega arith));
      number = λ test. blind put address_number test some a07 a0007 refl (kept some a07 a0007) (lengths_differ a07 a0007 (λ e. omega arith));
      filled = λ test. blind put filled_octets test some a07 a0700 refl (kept some a07 a0700) (lengths_differ a07 a0700 (λ e. omega arith));
    }

pub origin-not-by : NotBy from_there
origin-not-by = not-by from_there kept_from

pub destination-not-by : NotBy to_there
destination-not-by = not-by to_there kept-to
