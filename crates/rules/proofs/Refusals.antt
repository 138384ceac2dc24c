-- Laws of a list of checks.
use Rattle.std.specs.Prelude.{if◌then◌else◌}
use Prim.Native.Nat.{ℕ, ◌≤◌}
use mathlib.Core.Path.{◌≡◌, refl, sym, ap, ◌∙◌}
use mathlib.Core.Bool.{Bool, true, false, not, ◌&&◌, and_assoc, and-eq-true_iff, true≢false}
use mathlib.Core.List.{List, [], ◌∷◌, ◌++◌, append-nil}
use native.Mathlib.Omega.{arith}
use borrow.Author.Tests.{not-true}
use Rattle.rules.specs.Refusals.{nowhere, Check, accepted, of_first, first, first_at, fault, judged_by, judged, judged_at}
use Rattle.rules.specs.declared.Fault.{Fault}

-- what is asked of a list is what its first check that applies says
module _ {A B : Type 0} (what : List Check → B) (says : Check → B) (leads : (c : Check) (cs : List Check) → what (c ∷ cs) ≡ (if c.applies then says c else what cs)) where
  -- one check more in front
  cons : (c : Check) (cs : List Check) (f : B → A) (a : A) → judged_by what (c ∷ cs) f a ≡ (if c.applies then f (says c) else judged_by what cs f a)
  cons c cs f a = go c.applies refl
    where
      go : (b : Bool) → c.applies ≡ b → judged_by what (c ∷ cs) f a ≡ (if b then f (says c) else judged_by what cs f a)
      go true e = simp e (ap f (leads c cs ∙ simp e))
      go false e = simp e (ap (λ (x : B). if accepted cs then a else f x) (leads c cs ∙ simp e))

  -- a call judged by one list and then by another
  append : (xs ys : List Check) (f : B → A) (a : A) → judged_by what (xs ++ ys) f a ≡ judged_by what xs f (judged_by what ys f a)
  append [] ys f a = refl
  append (x ∷ xs) ys f a = cons x (xs ++ ys) f a ∙ rw (append xs ys f a) (sym (cons x xs f (judged_by what ys f a)))

pub judged-append : {A : Type 0} (xs ys : List Check) (f : ℕ → A) (a : A) → judged (xs ++ ys) f a ≡ judged xs f (judged ys f a)
judged-append xs ys f a = append first (λ (c : Check). c.number) (λ c cs. refl) xs ys f a

-- a fault is number and position of one check: the first that applies says both
abbrev pub fault_in : Check → Fault
fault_in c = record { number = c.number; position = c.position }

pub fault-leads : (c : Check) (cs : List Check) → fault (c ∷ cs) ≡ (if c.applies then fault_in c else fault cs)
fault-leads c cs = go c.applies refl
  where
    go : (b : Bool) → c.applies ≡ b → fault (c ∷ cs) ≡ (if b then fault_in c else fault cs)
    go true e = rw e
    go false e = rw e

pub fault-append : {A : Type 0} (xs ys : List Check) (f : Fault → A) (a : A) → judged_at (xs ++ ys) f a ≡ judged_at xs f (judged_at ys f a)
fault-append xs ys f a = append fault fault_in fault-leads xs ys f a

-- what is done to either answer is done to the answer
through : {A B C : Type 0} (what : List Check → C) (g : A → B) (xs : List Check) (f : C → A) (a : A) → g (judged_by what xs f a) ≡ judged_by what xs (λ x. g (f x)) (g a)
through what g xs f a = go (accepted xs)
  where
    go : (b : Bool) → g (if b then a else f (what xs)) ≡ (if b then g a else g (f (what xs)))
    go true = refl
    go false = refl

pub judged-then : {A B : Type 0} (g : A → B) (xs : List Check) (f : ℕ → A) (a : A) → g (judged xs f a) ≡ judged xs (λ n. g (f n)) (g a)
judged-then g xs f a = through first g xs f a

pub fault-then : {A B : Type 0} (g : A → B) (xs : List Check) (f : Fault → A) (a : A) → g (judged_at xs f a) ≡ judged_at xs (λ x. g (f x)) (g a)
fault-then g xs f a = through fault g xs f a

-- what holds of either answer holds of the answer
by : {A B : Type 0} (what : List Check → B) (P : A → Type 0) (cs : List Check) (f : B → A) (a : A)
    → (accepted cs ≡ true → P a) → (accepted cs ≡ false → P (f (what cs))) → P (judged_by what cs f a)
by what P cs f a carried refused = go (accepted cs) refl
  where
    go : (b : Bool) → accepted cs ≡ b → P (if b then a else f (what cs))
    go true e = carried e
    go false e = refused e

pub judged-by : {A : Type 0} (P : A → Type 0) (cs : List Check) (f : ℕ → A) (a : A)
    → (accepted cs ≡ true → P a) → (accepted cs ≡ false → P (f (first cs))) → P (judged cs f a)
judged-by P cs f a carried refused = by first P cs f a carried refused

pub fault-by : {A : Type 0} (P : A → Type 0) (cs : List Check) (f : Fault → A) (a : A)
    → (accepted cs ≡ true → P a) → (accepted cs ≡ false → P (f (fault cs))) → P (judged_at cs f a)
fault-by P cs f a carried refused = by fault P cs f a carried refused

-- accepted by one list and by another
pub accepted-append : (xs ys : List Check) → accepted (xs ++ ys) ≡ (accepted xs && accepted ys)
accepted-append [] ys = refl
accepted-append (x ∷ xs) ys = rw (accepted-append xs ys) (sym (and_assoc (not x.applies) (accepted xs) (accepted ys)))

pub accepted-both : (xs ys : List Check) → accepted (xs ++ ys) ≡ true → (accepted xs ≡ true) × (accepted ys ≡ true)
accepted-both xs ys e = (and-eq-true_iff (accepted xs) (accepted ys)).0 (sym (accepted-append xs ys) ∙ e)

pub both-accepted : (xs ys : List Check) → accepted xs ≡ true → accepted ys ≡ true → accepted (xs ++ ys) ≡ true
both-accepted xs ys a b = rw (accepted-append xs ys, a, b)

pub accepted-one : (c : Check) → accepted (c ∷ []) ≡ true → c.applies ≡ false
accepted-one c e = not-true c.applies ((and-eq-true_iff (not c.applies) true).0 e).0

-- a list whose numbers are not 0, so that 0 means that it accepts
abbrev pub Sharp : List Check → Type 0
Sharp [] = Unit {0}
Sharp (c ∷ cs) = (c.number ≡ 0 → ⊥) × Sharp cs

pub first-accepted : (cs : List Check) → Sharp cs → first cs ≡ 0 → accepted cs ≡ true
first-accepted [] sharp e = refl
first-accepted (c ∷ cs) sharp e = go c.applies refl (first-accepted cs sharp.1)
  where
    go : (b : Bool) → c.applies ≡ b → (first cs ≡ 0 → accepted cs ≡ true) → accepted (c ∷ cs) ≡ true
    go true a later = absurd (sharp.0 (simp a at e))
    go false a later = simp a (later (simp a at e))

-- what the first says, of one list behind another: the second's where the first list accepts, and else its own
module _ {A : Type 0} (says : Check → A) (none : A) where
  pub first-passed : (xs ys : List Check) → accepted xs ≡ true → of_first says none (xs ++ ys) ≡ of_first says none ys
  first-passed [] ys e = refl
  first-passed (x ∷ xs) ys e = go x.applies refl (first-passed xs ys)
    where
      go : (b : Bool) → x.applies ≡ b → (accepted xs ≡ true → of_first says none (xs ++ ys) ≡ of_first says none ys) → of_first says none (x ∷ xs ++ ys) ≡ of_first says none ys
      go true a later = absurd (true≢false (sym (simp a at e)))
      go false a later = simp a (later (simp a at e))

  pub first-met : (xs ys : List Check) → accepted xs ≡ false → of_first says none (xs ++ ys) ≡ of_first says none xs
  first-met [] ys e = absurd (true≢false e)
  first-met (x ∷ xs) ys e = go x.applies refl (first-met xs ys)
    where
      go : (b : Bool) → x.applies ≡ b → (accepted xs ≡ false → of_first says none (xs ++ ys) ≡ of_first says none xs) → of_first says none (x ∷ xs ++ ys) ≡ of_first says none (x ∷ xs)
      go true a later = simp a
      go false a later = simp a (later (simp a at e))

  pub first-none : (xs : List Check) → accepted xs ≡ true → of_first says none xs ≡ none
  first-none xs e = ap (of_first says none) (sym (append-nil xs)) ∙ first-passed xs [] e

-- .. number and position
pub fault-passed : (xs ys : List Check) → accepted xs ≡ true → fault (xs ++ ys) ≡ fault ys
fault-passed xs ys e = λ i. record { number = first-passed (λ (c : Check). c.number) 0 xs ys e i; position = first-passed (λ (c : Check). c.position) nowhere xs ys e i }

pub fault-met : (xs ys : List Check) → accepted xs ≡ false → fault (xs ++ ys) ≡ fault xs
fault-met xs ys e = λ i. record { number = first-met (λ (c : Check). c.number) 0 xs ys e i; position = first-met (λ (c : Check). c.position) nowhere xs ys e i }

pub accepted-first : (cs : List Check) → accepted cs ≡ true → first cs ≡ 0
accepted-first cs e = first-none (λ (c : Check). c.number) 0 cs e

pub accepted-nowhere : (cs : List Check) → accepted cs ≡ true → first_at cs ≡ nowhere
accepted-nowhere cs e = first-none (λ (c : Check). c.position) nowhere cs e

-- refused where its number is not 0; carried out where it is
refused : {A B : Type 0} (what : List Check → B) (cs : List Check) (f : B → A) (a : A) → (first cs ≡ 0 → ⊥) → judged_by what cs f a ≡ f (what cs)
refused what cs f a h = go (accepted cs) refl
  where
    go : (b : Bool) → accepted cs ≡ b → judged_by what cs f a ≡ f (what cs)
    go true e = absurd (h (accepted-first cs e))
    go false e = simp e

pub judged-first : {A : Type 0} (cs : List Check) (f : ℕ → A) (a : A) → (first cs ≡ 0 → ⊥) → judged cs f a ≡ f (first cs)
judged-first cs f a h = refused first cs f a h

pub fault-first : {A : Type 0} (cs : List Check) (f : Fault → A) (a : A) → (first cs ≡ 0 → ⊥) → judged_at cs f a ≡ f (fault cs)
fault-first cs f a h = refused fault cs f a h

pub judged-none : {A : Type 0} (cs : List Check) (f : ℕ → A) (a : A) → Sharp cs → first cs ≡ 0 → judged cs f a ≡ a
judged-none cs f a sharp e = rw (first-accepted cs sharp e)

-- a list whose numbers all are such as P says, so that a refusal by it is too
abbrev pub Each : (ℕ → Type 0) → List Check → Type 0
Each P [] = Unit {0}
Each P (c ∷ cs) = P c.number × Each P cs

pub each_append : (P : ℕ → Type 0) (xs ys : List Check) → Each P xs → Each P ys → Each P (xs ++ ys)
each_append P [] ys a b = b
each_append P (x ∷ xs) ys a b = (a.0, each_append P xs ys a.1 b)

pub each-if : (P : ℕ → Type 0) (b : Bool) (xs ys : List Check) → Each P xs → Each P ys → Each P (if b then xs else ys)
each-if P true xs ys x y = x
each-if P false xs ys x y = y

pub each-so : (P Q : ℕ → Type 0) (cs : List Check) → ((n : ℕ) → P n → Q n) → Each P cs → Each Q cs
each-so P Q [] h a = tt
each-so P Q (c ∷ cs) h a = (h c.number a.0, each-so P Q cs h a.1)

pub first-each : (P : ℕ → Type 0) (cs : List Check) → Each P cs → accepted cs ≡ false → P (first cs)
first-each P [] a e = let z : ◌≡◌ {A = ℕ} 0 1 = cc in absurd (omega arith)
first-each P (c ∷ cs) a e = go c.applies refl (first-each P cs a.1)
  where
    go : (b : Bool) → c.applies ≡ b → (accepted cs ≡ false → P (first cs)) → P (if b then c.number else first cs)
    go true t later = a.0
    go false t later = later (simp t at e)

-- numbers of at least n
abbrev pub Least : ℕ → List Check → Type 0
Least n cs = Each (λ k. n ≤ k) cs
