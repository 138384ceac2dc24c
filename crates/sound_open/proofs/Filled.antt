-- Octets that are zero from an index on: as one number, the first the least, they are at most that of so many octets.
use Prim.Native.Nat.{ℕ, zero, suc, ◌+◌, ◌-◌, ◌*◌, ◌≤◌}
use mathlib.Core.Path.{◌≡◌, refl, sym, ap, ◌∙◌}
use mathlib.Core.Bool.{Bool, true, false, ◌&&◌, and_assoc}
use mathlib.Core.List.{List, [], ◌∷◌, ◌++◌}
use native.Mathlib.Omega.{arith}
use borrow.Author.Tests.{ltb-false, leb-true, leb-false, eqb-true, eqb-false, le-leb, lt-leb}
use lib.Dec.{eqb, ltb, leb}
use lib.ListN.{length, take, drop, get_or, length-drop, drop_of_length-le}
use lib.Seq.{take_all, drop-drop}
use Rattle.rules.specs.General.{every}
use Rattle.rules.specs.Soundness.{is_zero}
use Rattle.rules.proofs.Lists.{left}
use Rattle.sound_free.proofs.Parts.{none_left, in_two}
use Rattle.sound_open.specs.Filled.{most_of, capped}

-- the number of a list of octets
abbrev pub little : List ℕ → ℕ
little [] = 0
little (x ∷ l) = x + 256 * little l

abbrev pub Octets : List ℕ → Type 0
Octets [] = Unit {0}
Octets (x ∷ l) = (x ≤ 255) × Octets l

-- the first octet, where none may be but zero, and where it may be anything
first-nought : (x n : ℕ) → leb (x + 256 * n) 0 ≡ (eqb x 0 && leb n 0)
first-nought x n = go (eqb x 0) refl (leb n 0) refl
  where
    go : (p : Bool) → eqb x 0 ≡ p → (q : Bool) → leb n 0 ≡ q → leb (x + 256 * n) 0 ≡ (p && q)
    go true h true k = let a = eqb-true x 0 h in let b = leb-true n 0 k in le-leb (x + 256 * n) 0 (omega arith)
    go true h false k = let b = leb-false n 0 k in lt-leb (x + 256 * n) 0 (omega arith)
    go false h q k = let a = eqb-false x 0 h in lt-leb (x + 256 * n) 0 (omega (arith, a))

first_any : (x n m : ℕ) → x ≤ 255 → leb (x + 256 * n) (255 + 256 * m) ≡ leb n m
first_any x n m h = go (leb n m) refl
  where
    go : (q : Bool) → leb n m ≡ q → leb (x + 256 * n) (255 + 256 * m) ≡ q
    go true k = let b = leb-true n m k in le-leb (x + 256 * n) (255 + 256 * m) (omega arith)
    go false k = let b = leb-false n m k in lt-leb (x + 256 * n) (255 + 256 * m) (omega arith)

pub at_most : (l : List ℕ) (m : ℕ) → Octets l → leb (little l) (most_of m) ≡ every is_zero (drop m l)
at_most [] m o = le-leb 0 (most_of m) (omega arith) ∙ sym (none_left is_zero m)
at_most (x ∷ l) zero o = first-nought x (little l) ∙ ap (λ (b : Bool). eqb x 0 && b) (at_most l zero o.1)
at_most (x ∷ l) (suc m) o = first_any x (little l) (most_of m) o.0 ∙ at_most l m o.1

-- what is none of the numbers below eight
pub eight-least : (m : ℕ) → (m ≡ 0 → ⊥) → (m ≡ 1 → ⊥) → (m ≡ 2 → ⊥) → (m ≡ 3 → ⊥) → (m ≡ 4 → ⊥) → (m ≡ 5 → ⊥) → (m ≡ 6 → ⊥) → (m ≡ 7 → ⊥) → 8 ≤ m
eight-least zero h0 h1 h2 h3 h4 h5 h6 h7 = absurd (h0 refl)
eight-least (suc zero) h0 h1 h2 h3 h4 h5 h6 h7 = absurd (h1 refl)
eight-least (suc (suc zero)) h0 h1 h2 h3 h4 h5 h6 h7 = absurd (h2 refl)
eight-least (suc (suc (suc zero))) h0 h1 h2 h3 h4 h5 h6 h7 = absurd (h3 refl)
eight-least (suc (suc (suc (suc zero)))) h0 h1 h2 h3 h4 h5 h6 h7 = absurd (h4 refl)
eight-least (suc (suc (suc (suc (suc zero))))) h0 h1 h2 h3 h4 h5 h6 h7 = absurd (h5 refl)
eight-least (suc (suc (suc (suc (suc (suc zero)))))) h0 h1 h2 h3 h4 h5 h6 h7 = absurd (h6 refl)
eight-least (suc (suc (suc (suc (suc (suc (suc zero))))))) h0 h1 h2 h3 h4 h5 h6 h7 = absurd (h7 refl)
eight-least (suc (suc (suc (suc (suc (suc (suc (suc m)))))))) h0 h1 h2 h3 h4 h5 h6 h7 = omega arith

-- of eight octets none is left from any index over 8 on
pub drop-capped : (l : List ℕ) (m : ℕ) → length l ≤ 8 → drop (capped m) l ≡ drop m l
drop-capped l m h = go (ltb m 8) refl
  where
    go : (b : Bool) → ltb m 8 ≡ b → drop (capped m) l ≡ drop m l
    go true e = rw e
    go false e =
        let k = ltb-false m 8 e in
        let over : length l ≤ m = omega arith in
        rw e (drop_of_length-le l h ∙ sym (drop_of_length-le l over))

-- so many elements from an index on
run : List ℕ → ℕ → ℕ → List ℕ
run a i zero = []
run a i (suc k) = get_or a i 0 ∷ run a (i + 1) k

run_is : (a : List ℕ) (i k : ℕ) → i + k ≤ length a → run a i k ≡ take k (drop i a)
unfolding run
run_is a i zero h = refl
run_is a i (suc k) h = rw (left a 0 i (omega arith)) (ap {B = List ℕ} (λ (r : List ℕ). get_or a i 0 ∷ r) (run_is a (i + 1) k (omega arith)))

-- zeros behind a list
padded : (l : List ℕ) (n : ℕ) → every is_zero (drop n (l ++ (0 ∷ 0 ∷ 0 ∷ 0 ∷ []))) ≡ every is_zero (drop n l)
padded [] zero = refl
padded [] (suc zero) = refl
padded [] (suc (suc zero)) = refl
padded [] (suc (suc (suc zero))) = refl
padded [] (suc (suc (suc (suc n)))) = none_left is_zero n
padded (x ∷ l) zero = ap (λ (b : Bool). eqb x 0 && b) (padded l zero)
padded (x ∷ l) (suc n) = padded l n

abbrev pub eight_from : List ℕ → ℕ → List ℕ
eight_from a i =
    get_or a i 0 ∷ get_or a (i + 1) 0 ∷ get_or a (i + 2) 0 ∷ get_or a (i + 3) 0 ∷ get_or a (i + 4) 0 ∷ get_or a (i + 5) 0 ∷ get_or a (i + 6) 0 ∷ get_or a (i + 7) 0 ∷ []

abbrev pub last_four : List ℕ → List ℕ
last_four a = get_or a 16 0 ∷ get_or a 17 0 ∷ get_or a 18 0 ∷ get_or a 19 0 ∷ 0 ∷ 0 ∷ 0 ∷ 0 ∷ []

pub in_three : (a : List ℕ) (n : ℕ) → length a ≡ 20
    → ((every is_zero (drop (n - 0) (eight_from a 0)) && every is_zero (drop (n - 8) (eight_from a 8))) && every is_zero (drop (n - 16) (last_four a))) ≡ every is_zero (drop n a)
unfolding run
in_three a n h =
    let all : n - 0 ≡ n = omega arith in
    let back : n - 8 - 8 ≡ n - 16 = omega arith in
    let rest : length (drop 16 a) ≤ 4 = rw (length-drop 16 a) (omega arith) in
    let four : take 4 (drop 16 a) ≡ drop 16 a = take_all 4 (drop 16 a) rest in
    rw all
    (sym (in_two is_zero 8 a n
    ∙ ap (λ (b : Bool). every is_zero (drop n (take 8 a)) && b) (in_two is_zero 8 (drop 8 a) (n - 8))
    ∙ sym (and_assoc (every is_zero (drop n (take 8 a))) (every is_zero (drop (n - 8) (take 8 (drop 8 a)))) (every is_zero (drop (n - 8 - 8) (drop 8 (drop 8 a)))))
    ∙ rw (back, drop-drop 8 8 a, ← run_is a 0 8 (omega arith), ← run_is a 8 8 (omega arith), ← four, ← run_is a 16 4 (omega arith), ← padded (run a 16 4) (n - 16))))
