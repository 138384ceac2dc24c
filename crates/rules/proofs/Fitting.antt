-- What a tally, a seat and a bill do to a summary's numbers, and whether the totals then fit.
use Rattle.std.specs.Prelude.{if◌then◌else◌, Option, Some, None}
use Prim.Native.Nat.{ℕ, ◌+◌, ◌*◌, ◌-◌, ◌<◌, ◌≤◌, ◌^◌}
use mathlib.Core.Path.{◌≡◌, refl, sym, ap, ◌∙◌}
use mathlib.Core.Bool.{Bool, true, false, ◌&&◌, ◌||◌, and-true, and-false, and-eq-true_iff}
use mathlib.Core.List.{List, [], ◌∷◌}
use native.Mathlib.Omega.{arith}
use borrow.Author.Tests.{eqb-true, eqb-false, eq-eqb, ne_eqb, leb-true, leb-false, le-leb, lt-leb}
use lib.Dec.{eqb, leb}
use lib.ListN.{length, get_or, set, length-set}
use lib.Seq.{get_or-set_same, get_or-set_other}
use Rattle.rules.specs.Records.{delivered}
use Rattle.rules.specs.Summary.{total_count, total_most, total_fits, fits, number_at, tally, seat, row_of, row_for, took_at, took, column_of, bill_at, bill, billed, room_in}
use Rattle.rules.specs.declared.Record.{Record}
use Rattle.rules.proofs.Below.{below_both, below-same, below-from, below_two}
use Rattle.rules.proofs.Rows.{total-count, row-of-within, row-for-within}

-- ONE TOTAL

pub total-same : (x : ℕ) → total_fits x x ≡ true
total-same x = rw (eq-eqb x x refl)

-- a total that grows twice
pub total-chain : (x y z : ℕ) → x ≤ y → y ≤ z → total_fits x z ≡ (total_fits x y && total_fits y z)
total-chain x y z h g = go (eqb y x) refl (eqb z y) refl (leb z total_most) refl
  where
    go : (p : Bool) → eqb y x ≡ p → (q : Bool) → eqb z y ≡ q → (r : Bool) → leb z total_most ≡ r
        → total_fits x z ≡ ((p || leb y total_most) && (q || r))
    go true e q f r k = let same : y ≡ x = eqb-true y x e in rw (← same, f, k)
    go false e true f r k = let same : z ≡ y = eqb-true z y f in rw (same, e) (sym (and-true (leb y total_most)))
    go false e false f true k = rw (k, le-leb y total_most (omega (arith, leb-true z total_most k))) (or-so (eqb z x))
      where
        or-so : (b : Bool) → (b || true) ≡ true
        or-so true = refl
        or-so false = refl
    go false e false f false k =
        rw (k, ne_eqb z x (λ s. eqb-false y x e (omega arith))) (sym (and-false (leb y total_most)))

-- what is asked before a sum is made: nothing added; more than a total may become; within what the number leaves of that
pub grows_none : (n s : ℕ) → s ≡ 0 → total_fits n (n + s) ≡ true
grows_none n s e = rw (eq-eqb (n + s) n (omega arith))

pub grows-far : (n s : ℕ) → total_most < s → total_fits n (n + s) ≡ false
grows-far n s h = rw (ne_eqb (n + s) n (λ e. omega arith), lt-leb (n + s) total_most (omega arith))

pub grows-room : (n s : ℕ) → (s ≡ 0 → ⊥) → s ≤ total_most → leb n (total_most - s) ≡ total_fits n (n + s)
grows-room n s z h = go (leb (n + s) total_most) refl
  where
    go : (b : Bool) → leb (n + s) total_most ≡ b → leb n (total_most - s) ≡ total_fits n (n + s)
    go true e = rw (ne_eqb (n + s) n (λ e. z (omega arith)), e) (le-leb n (total_most - s) (omega (arith, leb-true (n + s) total_most e)))
    go false e = rw (ne_eqb (n + s) n (λ e. z (omega arith)), e) (lt-leb n (total_most - s) (omega (arith, leb-false (n + s) total_most e)))

-- a sum that fits is within 64 bits, since the number is
pub sum-within : (n s : ℕ) → n < 2 ^ 64 → total_fits n (n + s) ≡ true → n + s < 2 ^ 64
sum-within n s h e = go (eqb (n + s) n) refl (leb (n + s) total_most) refl e
  where
    go : (p : Bool) → eqb (n + s) n ≡ p → (q : Bool) → leb (n + s) total_most ≡ q → (p || q) ≡ true → n + s < 2 ^ 64
    go true f q g k = omega (arith, eqb-true (n + s) n f)
    go false f true g k = omega (arith, leb-true (n + s) total_most g)
    go false f false g k = let z : ◌≡◌ {A = ℕ} 0 1 = cc in absurd (omega arith)

-- SEVERAL SUMMARIES

-- totals that grow twice fit where they fit each time
pub fits-chain-totals : (a b c : List ℕ) → ((k : ℕ) → get_or a (128 + k) 0 ≤ get_or b (128 + k) 0) → ((k : ℕ) → get_or b (128 + k) 0 ≤ get_or c (128 + k) 0)
    → fits a c ≡ (fits a b && fits b c)
unfolding fits
fits-chain-totals a b c h g =
    below_both _ _ _ (λ k. total-chain (get_or a (128 + k) 0) (get_or b (128 + k) 0) (get_or c (128 + k) 0) (h k) (g k)) total_count

pub fits-chain : (a b c : List ℕ) → ((k : ℕ) → get_or a k 0 ≤ get_or b k 0) → ((k : ℕ) → get_or b k 0 ≤ get_or c k 0) → fits a c ≡ (fits a b && fits b c)
fits-chain a b c h g = fits-chain-totals a b c (λ k. h (128 + k)) (λ k. g (128 + k))

pub fits-same : (m : List ℕ) → fits m m ≡ true
unfolding fits
fits-same m = below-from _ total_count (λ k h. total-same (get_or m (128 + k) 0))

-- only totals are looked at
pub fits-totals : (a b c : List ℕ) → ((k : ℕ) → get_or a (128 + k) 0 ≡ get_or b (128 + k) 0) → fits a c ≡ fits b c
unfolding fits
fits-totals a b c e = below-same _ _ total_count (λ k h. ap (λ x. total_fits x (get_or c (128 + k) 0)) (e k))

-- A TALLY

module _ (m : List ℕ) (column row s o : ℕ) where
  pub length-tally : length (tally m column row s o) ≡ length m
  length-tally = simp length-set

  -- after the first of the two stores
  abbrev half : List ℕ
  half = set m (64 * column + row) (number_at m column row + s)

  -- other numbers stay
  pub tally-other : (k : ℕ) → (k ≡ 64 * column + row → ⊥) → (k ≡ 64 * (column + 1) + row → ⊥) → get_or (tally m column row s o) k 0 ≡ get_or m k 0
  tally-other k p q =
      get_or-set_other half (64 * (column + 1) + row) k (number_at m (column + 1) row + o) 0 q
      ∙ get_or-set_other m (64 * column + row) k (number_at m column row + s) 0 p

  module _ (long : length m ≡ 512) (hc : column < 7) (hr : row < 64) where
    pub tally-first : number_at (tally m column row s o) column row ≡ number_at m column row + s
    tally-first =
        get_or-set_other half (64 * (column + 1) + row) (64 * column + row) (number_at m (column + 1) row + o) 0 (λ e. omega arith)
        ∙ get_or-set_same m (64 * column + row) (number_at m column row + s) 0 (omega arith)

    pub tally-second : number_at (tally m column row s o) (column + 1) row ≡ number_at m (column + 1) row + o
    tally-second = get_or-set_same half (64 * (column + 1) + row) (number_at m (column + 1) row + o) 0 (simp length-set (omega arith))

    -- no number falls
    pub tally-grows : (k : ℕ) → get_or m k 0 ≤ get_or (tally m column row s o) k 0
    tally-grows k = go (eqb k (64 * column + row)) refl (eqb k (64 * (column + 1) + row)) refl
      where
        go : (x : Bool) → eqb k (64 * column + row) ≡ x → (y : Bool) → eqb k (64 * (column + 1) + row) ≡ y
            → get_or m k 0 ≤ get_or (tally m column row s o) k 0
        go true e y f = let at : k ≡ 64 * column + row = eqb-true _ _ e in rw at (omega (arith, tally-first))
        go false e true f = let at : k ≡ 64 * (column + 1) + row = eqb-true _ _ f in rw at (omega (arith, tally-second))
        go false e false f = omega (arith, tally-other k (eqb-false _ _ e) (eqb-false _ _ f))

    -- the totals fit where the two that grew do
    pub fits-tally : 2 ≤ column → fits m (tally m column row s o) ≡ room_in m column row s o
    unfolding fits
    fits-tally two =
        below_two _ total_count (64 * column + row - 128) (64 * (column + 1) + row - 128) (omega (arith, total-count)) (omega (arith, total-count))
        (λ k h p q. rw (tally-other (128 + k) (λ e. p (omega arith)) (λ e. q (omega arith))) (total-same (get_or m (128 + k) 0)))
        ∙ rw (first, second, tally-first, tally-second)
      where
        first : 128 + (64 * column + row - 128) ≡ 64 * column + row
        first = omega arith

        second : 128 + (64 * (column + 1) + row - 128) ≡ 64 * (column + 1) + row
        second = omega arith

-- room for both is room for each
pub room-each : (m : List ℕ) (column row s o : ℕ) → room_in m column row s o ≡ true
    → (total_fits (number_at m column row) (number_at m column row + s) ≡ true)
    × (total_fits (number_at m (column + 1) row) (number_at m (column + 1) row + o) ≡ true)
room-each m column row s o e = (and-eq-true_iff _ _).0 e

-- A SEAT

module _ (m : List ℕ) (row a : ℕ) where
  pub length-seat : length (seat m row a) ≡ length m
  length-seat = simp length-set

  -- only two numbers change
  pub seat-other : (k : ℕ) → (k ≡ 0 + row → ⊥) → (k ≡ 64 + row → ⊥) → get_or (seat m row a) k 0 ≡ get_or m k 0
  seat-other k p q = get_or-set_other (set m (0 + row) 1) (64 + row) k a 0 q ∙ get_or-set_other m (0 + row) k 1 0 p

  module _ (hr : row < 64) where
    -- no total does
    pub seat-totals : (k : ℕ) → get_or (seat m row a) (128 + k) 0 ≡ get_or m (128 + k) 0
    seat-totals k = seat-other (128 + k) (λ e. omega arith) (λ e. omega arith)

    pub fits-seat : fits m (seat m row a) ≡ true
    unfolding fits
    fits-seat = below-from _ total_count (λ k h. rw (seat-totals k) (total-same (get_or m (128 + k) 0)))

    -- a segment that is taken there fits where its two totals do
    pub fits-seated : length m ≡ 512 → (s o : ℕ) → fits m (tally (seat m row a) 2 row s o) ≡ room_in m 2 row s o
    fits-seated long s o =
        fits-totals m (seat m row a) (tally (seat m row a) 2 row s o) (λ k. sym (seat-totals k))
        ∙ fits-tally (seat m row a) 2 row s o (length-seat ∙ long) (omega arith) hr (omega arith)
        ∙ rw (second, third)
      where
        second : number_at (seat m row a) 2 row ≡ number_at m 2 row
        second = seat-other (128 + row) (λ e. omega arith) (λ e. omega arith)

        third : number_at (seat m row a) 3 row ≡ number_at m 3 row
        third = seat-other (192 + row) (λ e. omega arith) (λ e. omega arith)

-- TAKING

pub length-took-at : (m : List ℕ) (r : Option ℕ) (a n : ℕ) → length (took_at m r a n) ≡ length m
length-took-at m (Some row) a n = length-tally (seat m row a) 2 row 1 n ∙ length-seat m row a
length-took-at m None a n = refl

pub length-took : (m : List ℕ) (a n : ℕ) → length (took m a n) ≡ length m
length-took m a n = length-took-at m (row_for m a) a n

-- no total falls
pub took-totals-grow : (m : List ℕ) (a n : ℕ) → length m ≡ 512 → (k : ℕ) → get_or m (128 + k) 0 ≤ get_or (took m a n) (128 + k) 0
took-totals-grow m a n long k = go (row_for m a) refl
  where
    go : (r : Option ℕ) → row_for m a ≡ r → get_or m (128 + k) 0 ≤ get_or (took_at m r a n) (128 + k) 0
    go (Some row) e =
        let hr = row-for-within m a row e in
        omega (arith, seat-totals m row a hr k, tally-grows (seat m row a) 2 row 1 n (length-seat m row a ∙ long) (omega arith) hr (128 + k))
    go None e = omega arith

pub fits-took : (m : List ℕ) (a n row : ℕ) → length m ≡ 512 → row_for m a ≡ Some row → fits m (took m a n) ≡ room_in m 2 row 1 n
fits-took m a n row long e = rw e (fits-seated m row a (row-for-within m a row e) long 1 n)

-- BILLING

pub column-within : (kind : ℕ) → (2 ≤ column_of kind) × (column_of kind < 7)
column-within kind = go (eqb kind delivered)
  where
    go : (b : Bool) → (2 ≤ (if b then 4 else 6)) × ((if b then 4 else 6) < 7)
    go true = (omega arith, omega arith)
    go false = (omega arith, omega arith)

module _ (m : List ℕ) (r : Record) where
  pub length-bill : length (bill m r) ≡ length m
  length-bill = go (row_of m r.key.association)
    where
      go : (f : Option ℕ) → length (bill_at m f r) ≡ length m
      go (Some row) = length-tally m (column_of r.kind) row r.segments r.octets
      go None = refl

  pub bill-grows : length m ≡ 512 → (k : ℕ) → get_or m k 0 ≤ get_or (bill m r) k 0
  bill-grows long k = go (row_of m r.key.association) refl
    where
      go : (f : Option ℕ) → row_of m r.key.association ≡ f → get_or m k 0 ≤ get_or (bill_at m f r) k 0
      go (Some row) e =
          tally-grows m (column_of r.kind) row r.segments r.octets long (column-within r.kind).1 (row-of-within m r.key.association row e) k
      go None e = omega arith

pub length-billed : (m : List ℕ) (rs : List Record) → length (billed m rs) ≡ length m
length-billed m [] = refl
length-billed m (r ∷ rs) = length-billed (bill m r) rs ∙ length-bill m r

pub billed-grows : (m : List ℕ) (rs : List Record) → length m ≡ 512 → (k : ℕ) → get_or m k 0 ≤ get_or (billed m rs) k 0
billed-grows m [] long k = omega arith
billed-grows m (r ∷ rs) long k =
    omega (arith, bill-grows m r long k, billed-grows (bill m r) rs (length-bill m r ∙ long) k)

-- several bills fit where the first does, and then the others
pub fits-billed : (m : List ℕ) (r : Record) (rs : List Record) → length m ≡ 512 → fits m (billed m (r ∷ rs)) ≡ (fits m (bill m r) && fits (bill m r) (billed (bill m r) rs))
fits-billed m r rs long =
    fits-chain m (bill m r) (billed (bill m r) rs) (bill-grows m r long) (billed-grows (bill m r) rs (length-bill m r ∙ long))

-- a segment that is taken and what is then billed
pub fits-took-billed : (m : List ℕ) (a n : ℕ) (rs : List Record) → length m ≡ 512
    → fits m (billed (took m a n) rs) ≡ (fits m (took m a n) && fits (took m a n) (billed (took m a n) rs))
fits-took-billed m a n rs long =
    fits-chain-totals m (took m a n) (billed (took m a n) rs) (took-totals-grow m a n long)
    (λ k. billed-grows (took m a n) rs (length-took m a n ∙ long) (128 + k))
