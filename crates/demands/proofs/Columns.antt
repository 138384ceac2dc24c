-- A list is columns of 64 numbers where it has their numbers: the associations' first, then zeros.
use Prim.Native.Nat.{ℕ, zero, suc, ◌+◌, ◌*◌, ◌-◌, ◌≤◌, ◌<◌}
use mathlib.Core.Path.{◌≡◌, refl, sym, ap, ap₂, ◌∙◌}
use mathlib.Core.Bool.{Bool, true, false}
use mathlib.Core.List.{List, [], ◌∷◌, ◌++◌, map}
use native.Mathlib.Omega.{arith}
use borrow.Author.Tests.{ltb-true, ltb-false}
use lib.Dec.{ltb}
use lib.ListN.{length, take, drop, get_or, replicate, length-append, length-map, length-replicate, length-drop, take-append-drop}
use lib.Seq.{length-take-le, get_or-take, get_or-drop, ext_get_or}
use Rattle.demands.specs.Totals.{column}

abbrev pub columns : List ℕ → List (ℕ → ℕ) → List ℕ
columns l [] = []
columns l (f ∷ fs) = column l f ++ columns l fs

-- the number of an association in one of several columns
abbrev pub number_in : List (ℕ → ℕ) → ℕ → ℕ → ℕ
number_in fs c a = get_or fs c (λ a. 0) a

-- what holds of each of eight columns
pub each-column : (P : ℕ → Type 0) → P 0 → P 1 → P 2 → P 3 → P 4 → P 5 → P 6 → P 7 → (c : ℕ) → c < 8 → P c
each-column P a b c d e f g h zero lt = a
each-column P a b c d e f g h (suc zero) lt = b
each-column P a b c d e f g h (suc (suc zero)) lt = c
each-column P a b c d e f g h (suc (suc (suc zero))) lt = d
each-column P a b c d e f g h (suc (suc (suc (suc zero)))) lt = e
each-column P a b c d e f g h (suc (suc (suc (suc (suc zero))))) lt = f
each-column P a b c d e f g h (suc (suc (suc (suc (suc (suc zero)))))) lt = g
each-column P a b c d e f g h (suc (suc (suc (suc (suc (suc (suc zero))))))) lt = h
each-column P a b c d e f g h (suc (suc (suc (suc (suc (suc (suc (suc n)))))))) lt = absurd (omega arith)

pub zeros-at : (n i : ℕ) → ◌≡◌ {A = ℕ} (get_or (replicate n 0) i 0) 0
zeros-at zero i = refl
zeros-at (suc n) zero = refl
zeros-at (suc n) (suc i) = zeros-at n i

module _ (f : ℕ → ℕ) where
  map_at : (l rest : List ℕ) (i : ℕ) → i < length l → get_or (map f l ++ rest) i 0 ≡ f (get_or l i 0)
  map_at [] rest i h = absurd (omega arith)
  map_at (a ∷ l) rest zero h = refl
  map_at (a ∷ l) rest (suc i) h = map_at l rest i (omega arith)

  past-at : (l : List ℕ) (n i : ℕ) → length l ≤ i → get_or (map f l ++ replicate n 0) i 0 ≡ 0
  past-at [] n i h = zeros-at n i
  past-at (a ∷ l) n zero h = absurd (omega arith)
  past-at (a ∷ l) n (suc i) h = past-at l n i (omega arith)

none-long : (m : List ℕ) → length m ≡ 0 → m ≡ []
none-long [] e = refl
none-long (x ∷ m) e = absurd (omega arith)

module _ (l : List ℕ) (few : length l ≤ 64) where
  column-length : (f : ℕ → ℕ) → length (column l f) ≡ 64
  column-length f = simp (length-append, length-map, length-replicate) (omega arith)

  is-column : (f : ℕ → ℕ) (m : List ℕ) → length m ≡ 64 → ((i : ℕ) → i < length l → get_or m i 0 ≡ f (get_or l i 0)) → ((i : ℕ) → length l ≤ i → i < 64 → get_or m i 0 ≡ 0)
      → m ≡ column l f
  is-column f m long used bare = ext_get_or 0 m (column l f) (long ∙ sym (column-length f)) (λ i h. go i (omega arith) (ltb i (length l)) refl)
    where
      go : (i : ℕ) → i < 64 → (b : Bool) → ltb i (length l) ≡ b → get_or m i 0 ≡ get_or (column l f) i 0
      go i h true e = let lt = ltb-true i (length l) e in used i lt ∙ sym (map_at f l (replicate (64 - length l) 0) i lt)
      go i h false e = let le = ltb-false i (length l) e in bare i le h ∙ sym (past-at f l (64 - length l) i le)

  pub are-columns : (fs : List (ℕ → ℕ)) (m : List ℕ) → length m ≡ 64 * length fs
      → ((c i : ℕ) → c < length fs → i < length l → get_or m (64 * c + i) 0 ≡ number_in fs c (get_or l i 0))
      → ((c i : ℕ) → c < length fs → length l ≤ i → i < 64 → get_or m (64 * c + i) 0 ≡ 0) → m ≡ columns l fs
  are-columns [] m long used bare = none-long m (omega arith)
  are-columns (f ∷ fs) m long used bare =
      sym (take-append-drop 64 m)
      ∙ ap₂ (λ (a b : List ℕ). a ++ b)
      (is-column f (take 64 m) (length-take-le 64 m (omega arith)) (λ i h. first i (omega arith) ∙ used 0 i (omega arith) h) (λ i h g. first i g ∙ bare 0 i (omega arith) h g))
      (are-columns fs (drop 64 m) (length-drop 64 m ∙ omega arith) (λ c i h g. later c i ∙ used (suc c) i (omega arith) g) (λ c i h g k. later c i ∙ bare (suc c) i (omega arith) g k))
    where
      first : (i : ℕ) → i < 64 → get_or (take 64 m) i 0 ≡ get_or m (64 * 0 + i) 0
      first i h = let same : i ≡ 64 * 0 + i = omega arith in get_or-take 64 m i 0 h ∙ ap (λ (k : ℕ). get_or m k 0) same

      later : (c i : ℕ) → get_or (drop 64 m) (64 * c + i) 0 ≡ get_or m (64 * suc c + i) 0
      later c i = let same : 64 + (64 * c + i) ≡ 64 * suc c + i = omega arith in get_or-drop 64 m (64 * c + i) 0 ∙ ap (λ (k : ℕ). get_or m k 0) same
