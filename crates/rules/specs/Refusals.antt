-- Section 'Refusal numbers': how a call finds its number, and reading the octet at fault. Each call has its own list, in the paper's order.
use Rattle.std.specs.Prelude.{if◌then◌else◌, ℕ, Bool, true, not, ◌&&◌, List, [], ◌∷◌, eqb, ltb}
use Rattle.rules.specs.declared.Fault.{Fault}

-- the position of no octet: a parameter has fewer
abbrev pub nowhere : ℕ
nowhere = 65535

-- a refusal's number, the position of the octet at fault, and when it applies. The five constructors below are all that makes one
pub record Check : Type 0 where
  pub number : ℕ
  pub position : ℕ
  pub applies : Bool

infix 69 ◌when◌
infix 69 ◌for◌over◌
infix 69 ◌for◌under◌
infix 69 ◌for◌unlike◌
infix 68 ◌blaming◌
-- when a test holds
abbrev pub ◌when◌ : ℕ → Bool → Check
n when test = record { number = n; position = nowhere; applies = test }

-- for a value that is over, under or unlike a limit
abbrev pub ◌for◌over◌ : ℕ → ℕ → ℕ → Check
n for value over limit = n when ltb limit value

abbrev pub ◌for◌under◌ : ℕ → ℕ → ℕ → Check
n for value under limit = n when ltb value limit

abbrev pub ◌for◌unlike◌ : ℕ → ℕ → ℕ → Check
n for value unlike limit = n when not (eqb value limit)

-- and any of them at a position (document 02, A5)
abbrev pub ◌blaming◌ : Check → ℕ → Check
c blaming at = record { number = c.number; position = at; applies = c.applies }

-- no check applies
abbrev pub accepted : List Check → Bool
accepted [] = true
accepted (c ∷ cs) = not c.applies && accepted cs

-- what the first check that applies says, and something else where none does
abbrev pub of_first : {A : Type 0} → (Check → A) → A → List Check → A
of_first says none [] = none
of_first says none (c ∷ cs) = if c.applies then says c else of_first says none cs

-- its number, and 0 where none does
abbrev pub first : List Check → ℕ
first cs = of_first (λ (c : Check). c.number) 0 cs

-- its position, and nowhere where none does
abbrev pub first_at : List Check → ℕ
first_at cs = of_first (λ (c : Check). c.position) nowhere cs

-- both
abbrev pub fault : List Check → Fault
fault cs = record { number = first cs; position = first_at cs }

-- a refusal that blames no octet
abbrev pub unplaced : ℕ → Fault
unplaced n = record { number = n; position = nowhere }

-- a call that is refused by its first check that applies, or carried out: the refusal is told what is asked of the list
abbrev pub judged_by : {A B : Type 0} → (List Check → B) → List Check → (B → A) → A → A
judged_by what checks refused carried = if accepted checks then carried else refused (what checks)

-- by the number, and by the number and the position
abbrev pub judged : {A : Type 0} → List Check → (ℕ → A) → A → A
judged checks refused carried = judged_by first checks refused carried

abbrev pub judged_at : {A : Type 0} → List Check → (Fault → A) → A → A
judged_at checks refused carried = judged_by fault checks refused carried
