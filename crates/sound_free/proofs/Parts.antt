-- Whether all from an index on pass: of the first k, and of the others.
use Prim.Native.Nat.{ℕ, zero, suc, ◌-◌}
use mathlib.Core.Path.{◌≡◌, sym, ap, ◌∙◌}
use mathlib.Core.Bool.{Bool, true, ◌&&◌, and_assoc}
use mathlib.Core.List.{List, [], ◌∷◌}
use native.Mathlib.Omega.{arith}
use lib.ListN.{take, drop}
use lib.Seq.{drop-nil}
use Rattle.rules.specs.General.{every}

module _ {A : Type 0} (f : A → Bool) where
  pub none_left : (n : ℕ) → every f (drop n []) ≡ true
  none_left n = ap (every f) (drop-nil n)

  pub in_two : (k : ℕ) (l : List A) (n : ℕ) → every f (drop n l) ≡ (every f (drop n (take k l)) && every f (drop (n - k) (drop k l)))
  in_two zero l n = let e : n - 0 ≡ n = omega arith in rw e (ap (λ (b : Bool). b && every f (drop n l)) (sym (none_left n)))
  in_two (suc k) [] n = none_left n ∙ sym (rw (none_left n) (none_left (n - suc k)))
  in_two (suc k) (x ∷ l) zero =
      let e : 0 - suc k ≡ 0 - k = omega arith in
      rw e (ap (λ (b : Bool). f x && b) (in_two k l zero) ∙ sym (and_assoc (f x) (every f (take k l)) (every f (drop (0 - k) (drop k l)))))
  in_two (suc k) (x ∷ l) (suc n) = let e : suc n - suc k ≡ n - k = omega arith in rw e (in_two k l n)
