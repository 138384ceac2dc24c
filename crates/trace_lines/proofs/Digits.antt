-- A number's digits as the library writes them.
use Rattle.std.proofs.Common.{ℕ, zero, suc, ◌+◌, ◌*◌, ◌/◌, ◌%◌, ◌^◌, ◌≤◌, ◌<◌, ◌≡◌, Bool, true, false, List, [], ◌∷◌, ◌++◌, refl, sym, ◌∙◌, arith, append_assoc, append-nil, ltb, ltb-true, ltb-false, lt-ltb, le-ltb}
use native.Mathlib.Nat.{pow-suc}
use borrow.Author.Tests.{ne_eqb}
use Rattle.std.specs.Fmt.{digits_onto}
use Rattle.std.specs.Fmt as fmt
use Rattle.rules.specs.Lines.{digits_of, decimal}

ends : (k j n : ℕ) (acc : List ℕ) → n < 10 → digits_onto (suc k) 10 false n acc ≡ digits_of (suc j) n ++ acc
ends k j n acc s =
    let q : n / 10 ≡ 0 = omega arith in
    let m : n % 10 ≡ n = omega arith in
    rw (q, m, lt-ltb n 10 s)

goes : (k i n : ℕ) (acc : List ℕ) → n < 10 ^ (suc (suc i)) → (n / 10 < 10 ^ (suc i) → digits_onto (suc k) 10 false (n / 10) ((48 + n % 10) ∷ acc) ≡ digits_of (suc i) (n / 10) ++ ((48 + n % 10) ∷ acc))
    → (b : Bool) → ltb n 10 ≡ b → digits_onto (suc (suc k)) 10 false n acc ≡ digits_of (suc (suc i)) n ++ acc
goes k i n acc l next true e = ends (suc k) (suc i) n acc (ltb-true n 10 e)
goes k i n acc l next false e =
    let s : 10 ≤ n = ltb-false n 10 e in
    let p : n < 10 ^ (suc i) * 10 = rw pow-suc at l in
    let g : n % 10 < 10 = omega arith in
    rw (ne_eqb (n / 10) 0 (λ z. omega arith), le-ltb n 10 s, lt-ltb (n % 10) 10 g)
    (next (omega arith) ∙ sym (append_assoc (digits_of (suc i) (n / 10)) ((48 + n % 10) ∷ []) acc))

-- in front of what is there already
digits_front : (k j n : ℕ) (acc : List ℕ) → j ≤ k → n < 10 ^ (suc j) → digits_onto (suc k) 10 false n acc ≡ digits_of (suc j) n ++ acc
digits_front k zero n acc h l = ends k 0 n acc (omega arith)
digits_front zero (suc i) n acc h l = absurd (let z : ⊥ = omega arith in z)
digits_front (suc k) (suc i) n acc h l = goes k i n acc l (λ q. digits_front k i (n / 10) ((48 + n % 10) ∷ acc) (omega arith) q) (ltb n 10) refl

-- what the library writes of a number is what the rules say
pub decimal_is : (x : ℕ) → x < 2 ^ 64 → fmt.decimal x ≡ decimal x
unfolding fmt.digits
decimal_is x h = digits_front 63 19 x [] (omega arith) (omega arith) ∙ append-nil (decimal x)
