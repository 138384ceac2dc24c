-- The items of a trace, record by record.
use Rattle.std.specs.Prelude.{if◌then◌else◌}
use Prim.Native.Nat.{ℕ, zero, suc, ◌≤◌}
use mathlib.Core.Path.{◌≡◌, refl}
use mathlib.Core.Bool.{Bool, true, false}
use mathlib.Core.List.{List, [], ◌∷◌, ◌++◌}
use native.Mathlib.Omega.{arith}
use borrow.Author.Tests.{le-leb}
use lib.Dec.{eqb}
use lib.ListN.{length, take, drop, length-append, length-drop}
use lib.Seq.{take-append-le, drop-append-le}
use Rattle.rules.specs.Trace.{Event, Item, Registers, Happens, is_known, body_length, item_of, items_of}

-- any fuel that is at least the length gives the same
pub items-enough : (n m : ℕ) (l : List ℕ) → length l ≤ n → length l ≤ m → items_of n l ≡ items_of m l
items-enough zero zero l h g = refl
items-enough zero (suc m) [] h g = refl
items-enough zero (suc m) (kind ∷ l) h g = let z : ⊥ = omega arith in absurd z
items-enough (suc n) zero [] h g = refl
items-enough (suc n) zero (kind ∷ l) h g = let z : ⊥ = omega arith in absurd z
items-enough (suc n) (suc m) [] h g = refl
items-enough (suc n) (suc m) (kind ∷ l) h g =
    let d = length-drop (body_length kind) l in
    rw (items-enough n m (drop (body_length kind) l) (omega arith) (omega arith))

-- an event, or a registry record, which has two octets
pub item_by : (P : Item → Type 0) (kind : ℕ) (body : List ℕ) → ((e : Event) → P (Happens e)) → (body_length kind ≡ 2 → P (Registers (kind ∷ body))) → P (item_of kind body)
item_by P kind body f g = go _ _ _ _ (eqb kind 32) refl (eqb kind 33) refl (eqb kind 34) refl (eqb kind 35)
  where
    go : (w x y z : Event) (a : Bool) → eqb kind 32 ≡ a → (b : Bool) → eqb kind 33 ≡ b → (c : Bool) → eqb kind 34 ≡ c → (d : Bool)
        → P (if a then Happens w else if b then Happens x else if c then Happens y else if d then Happens z else Registers (kind ∷ body))
    go w x y z true p b q c r d = f w
    go w x y z false p true q c r d = f x
    go w x y z false p false q true r d = f y
    go w x y z false p false q false r true = f z
    go w x y z false p false q false r false = g (simp (p, q, r))

-- a whole record at the front, whatever comes after the input
pub items-next : (kind : ℕ) (l rest : List ℕ) → is_known kind ≡ true → body_length kind ≤ length l
    → items_of (length (kind ∷ l ++ rest)) (kind ∷ l ++ rest)
    ≡ item_of kind (take (body_length kind) l) ∷ items_of (length (drop (body_length kind) l ++ rest)) (drop (body_length kind) l ++ rest)
items-next kind l rest k h =
    let n = length-append l rest in
    let m = length-append (drop (body_length kind) l) rest in
    let d = length-drop (body_length kind) l in
    simp (k, le-leb (body_length kind) (length (l ++ rest)) (omega arith))
    (rw (
      take-append-le (body_length kind) l rest h,
      drop-append-le (body_length kind) l rest h,
      items-enough (length (l ++ rest)) (length (drop (body_length kind) l ++ rest)) (drop (body_length kind) l ++ rest) (omega arith) (omega arith),
    ))
