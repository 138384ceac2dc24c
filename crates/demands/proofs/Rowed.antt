-- A summary whose rows are the associations in their order, each with the numbers that the log gives; and how it grows.
use Rattle.std.specs.Prelude.{if◌then◌else◌, Option, Some, None}
use Prim.Native.Nat.{ℕ, zero, suc, ◌+◌, ◌*◌, ◌≤◌, ◌<◌}
use mathlib.Core.Path.{◌≡◌, refl, sym, ap, ◌∙◌}
use mathlib.Core.Bool.{Bool, true, false, ◌||◌, and-eq-true_iff, true≢false}
use mathlib.Core.List.{List, [], ◌∷◌, ◌++◌}
use native.Mathlib.Omega.{arith}
use borrow.Author.Tests.{eqb-true, eqb-false, eq-eqb, ne_eqb, ltb-true, ltb-false}
use lib.Dec.{eqb, ltb}
use lib.ListN.{length, get_or, set, length-append, length-set, get_or-append}
use lib.Seq.{get_or-append_seam, get_or-set_same, get_or-set_other, set-get_or}
use Rattle.rules.specs.Records.{delivered, lost}
use Rattle.rules.specs.Summary.{row_count, number_at, is_used, is_unused, is_for, row_of, unused_row, row_for, or_else, tally, seat}
use Rattle.rules.proofs.Below.{first_passes, first-none, first-before}
use Rattle.rules.proofs.Rows.{row_count_lem, row-of-within, unused-within}
use Rattle.rules.proofs.Fitting.{length-tally, tally-first, tally-second, tally-other, length-seat, seat-other}
use Rattle.demands.specs.History.{Taken, Cover}
use Rattle.demands.specs.Totals.{is_among, with_one, segments_taken, octets_taken, segments_covered, octets_covered}
use Rattle.demands.proofs.Columns.{number_in}

-- ASSOCIATIONS, each once

abbrev pub Missing : ℕ → List ℕ → Type 0
Missing a l = (i : ℕ) → i < length l → get_or l i 0 ≡ a → ⊥

pub record Seat (a : ℕ) (l : List ℕ) (i : ℕ) : Type 0 where
  pub inside : i < length l
  pub own : get_or l i 0 ≡ a

abbrev Once : List ℕ → Type 0
Once l = (i j : ℕ) → i < length l → j < length l → get_or l i 0 ≡ get_or l j 0 → i ≡ j

among-not : (a : ℕ) (l : List ℕ) → is_among a l ≡ false → Missing a l
among-not a [] e i h q = omega arith
among-not a (x ∷ l) e i h q = go (eqb x a) refl (is_among a l) refl e i h q (among-not a l)
  where
    go : (b : Bool) → eqb x a ≡ b → (c : Bool) → is_among a l ≡ c → (b || c) ≡ false → (i : ℕ) → i < length (x ∷ l) → get_or (x ∷ l) i 0 ≡ a
        → (is_among a l ≡ false → Missing a l) → ⊥
    go true f c g e i h q rest = let z : ◌≡◌ {A = ℕ} 0 1 = cc in omega arith
    go false f true g e i h q rest = let z : ◌≡◌ {A = ℕ} 0 1 = cc in omega arith
    go false f false g e zero h q rest = eqb-false x a f q
    go false f false g e (suc i) h q rest = rest g i (omega arith) q

among-is : (P : Type 0) (a : ℕ) (l : List ℕ) → is_among a l ≡ true → ((i : ℕ) → Seat a l i → P) → P
among-is P a [] e found = let z : ◌≡◌ {A = ℕ} 0 1 = cc in absurd (omega arith)
among-is P a (x ∷ l) e found = go (eqb x a) refl e (λ h. among-is P a l h (λ i s. found (suc i) (record { inside = let k = s.inside in omega arith; own = s.own })))
  where
    go : (b : Bool) → eqb x a ≡ b → (b || is_among a l) ≡ true → (is_among a l ≡ true → P) → P
    go true f h rest = found 0 (record { inside = omega arith; own = eqb-true x a f })
    go false f h rest = rest h

pub seat-among : (a : ℕ) (l : List ℕ) (i : ℕ) → Seat a l i → is_among a l ≡ true
seat-among a l i s = go (is_among a l) refl
  where
    go : (b : Bool) → is_among a l ≡ b → b ≡ true
    go true e = refl
    go false e = absurd (among-not a l e i s.inside s.own)

module _ (a : ℕ) (l : List ℕ) where
  abbrev more : List ℕ
  more = l ++ (a ∷ [])

  more-length : length more ≡ length l + 1
  more-length = length-append l (a ∷ [])

  more-before : (i : ℕ) → i < length l → get_or more i 0 ≡ get_or l i 0
  more-before i h = get_or-append l (a ∷ []) 0 i h

  more-last : get_or more (length l) 0 ≡ a
  more-last = get_or-append_seam l a [] 0

  -- an index of the longer list
  more-cases : (P : ℕ → Type 0) → P (length l) → ((i : ℕ) → i < length l → P i) → (i : ℕ) → i < length more → P i
  more-cases P last before i h = go (ltb i (length l)) refl
    where
      go : (b : Bool) → ltb i (length l) ≡ b → P i
      go true e = before i (ltb-true i (length l) e)
      go false e = let here : i ≡ length l = omega (arith, more-length, ltb-false i (length l) e) in rw here last

  more-once : Missing a l → Once l → Once more
  more-once new once i j hi hj =
      more-cases (λ i. get_or more i 0 ≡ get_or more j 0 → i ≡ j)
      (more-cases (λ j. get_or more (length l) 0 ≡ get_or more j 0 → length l ≡ j) (λ e. refl)
      (λ j h e. absurd (new j h (sym (more-before j h) ∙ sym e ∙ more-last))) j hj)
      (λ i h. more-cases (λ j. get_or more i 0 ≡ get_or more j 0 → i ≡ j) (λ e. absurd (new i h (sym (more-before i h) ∙ e ∙ more-last)))
      (λ j g e. once i j h g (sym (more-before i h) ∙ e ∙ more-before j g)) j hj) i hi

-- THE NUMBERS of an association

abbrev pub sums : List Taken → List Cover → List (ℕ → ℕ)
sums taken covered =
    (λ a. 1)
    ∷ (λ a. a)
    ∷ (λ a. segments_taken a taken)
    ∷ (λ a. octets_taken a taken)
    ∷ (λ a. segments_covered delivered a covered)
    ∷ (λ a. octets_covered delivered a covered)
    ∷ (λ a. segments_covered lost a covered)
    ∷ (λ a. octets_covered lost a covered)
    ∷ []

abbrev pub sum : List Taken → List Cover → ℕ → ℕ → ℕ
sum taken covered c a = number_in (sums taken covered) c a

-- the rows of a summary are these associations' and no other has a number
pub record Rowed (m l : List ℕ) (taken : List Taken) (covered : List Cover) : Type 0 where
  pub size : length m ≡ 512
  pub few : length l ≤ 64
  pub once : Once l
  pub used : (c i : ℕ) → c < 8 → i < length l → number_at m c i ≡ sum taken covered c (get_or l i 0)
  pub bare : (c i : ℕ) → c < 8 → length l ≤ i → i < 64 → number_at m c i ≡ 0
  pub none : (c a : ℕ) → c < 6 → Missing a l → sum taken covered (suc (suc c)) a ≡ 0

-- ITS ROWS

module _ (m l : List ℕ) (taken : List Taken) (covered : List Cover) (r : Rowed m l taken covered) where
  -- a marked row is an association's
  pub marked : (i : ℕ) → i < 64 → (number_at m 0 i ≡ 0 → ⊥) → i < length l
  marked i h e = go (ltb i (length l)) refl
    where
      go : (b : Bool) → ltb i (length l) ≡ b → i < length l
      go true f = ltb-true i (length l) f
      go false f = absurd (e (r.bare 0 i (omega arith) (ltb-false i (length l) f) h))

  row_is : (a i : ℕ) → i < 64 → is_for m a i ≡ true → Seat a l i
  row_is a i h e =
      let both = (and-eq-true_iff (is_used m i) (eqb (number_at m 1 i) a)).0 e in
      let mark = eqb-true (number_at m 0 i) 1 both.0 in
      let lt = marked i h (λ z. omega arith) in
      record { inside = lt; own = sym (r.used 1 i (omega arith) lt) ∙ eqb-true (number_at m 1 i) a both.1 }

  is_row : (a i : ℕ) → Seat a l i → is_for m a i ≡ true
  is_row a i s = rw (r.used 0 i (omega arith) s.inside, r.used 1 i (omega arith) s.inside, s.own) (eq-eqb a a refl)

  pub row-found : (a i : ℕ) → row_of m a ≡ Some i → Seat a l i
  row-found a i e = row_is a i (row-of-within m a i e) (first_passes (is_for m a) row_count i e).1

  -- an association that has one
  pub row-there : (a : ℕ) → is_among a l ≡ true → row_of m a ≡ None → ⊥
  row-there a q e =
      among-is ⊥ a l q
      (λ i s.
      let lt = s.inside in
      let n = r.few in
      true≢false (sym (is_row a i s) ∙ first-none (is_for m a) row_count i e (omega (arith, row_count_lem))))

  -- the lowest unused row is the next
  unused-next : (i : ℕ) → unused_row m ≡ Some i → i ≡ length l
  unused-next i e = go (ltb i (length l)) refl (ltb (length l) i) refl
    where
      within : i < 64
      within = unused-within m i e

      free : number_at m 0 i ≡ 0
      free = eqb-true (number_at m 0 i) 0 (first_passes (is_unused m) row_count i e).1

      go : (a : Bool) → ltb i (length l) ≡ a → (b : Bool) → ltb (length l) i ≡ b → i ≡ length l
      go true f b g = absurd (omega (arith, free, r.used 0 i (omega arith) (ltb-true i (length l) f)))
      go false f true g =
          let lt = ltb-true (length l) i g in
          absurd (eqb-false (number_at m 0 (length l)) 0 (first-before (is_unused m) row_count i e (length l) lt) (r.bare 0 (length l) (omega arith) (omega arith) (omega (arith, within))))
      go false f false g = omega (arith, ltb-false i (length l) f, ltb-false (length l) i g)

  -- A SEAT is the association's own row, and nothing changes; or the next row
  module _ (a row : ℕ) where
    own-seat : row_of m a ≡ Some row → seat m row a ≡ m
    own-seat e =
        let s = row-found a row e in
        let mark : 1 ≡ get_or m (64 * 0 + row) 0 = sym (r.used 0 row (omega arith) s.inside) in
        let name : a ≡ get_or m (64 * 1 + row) 0 = sym (r.used 1 row (omega arith) s.inside ∙ s.own) in
        rw (mark, set-get_or m (64 * 0 + row) 0) (ap (set m (64 * 1 + row)) name ∙ set-get_or m (64 * 1 + row) 0)

    module _ (new : Missing a l) (last : row ≡ length l) (hr : row < 64) where
      seated : (c : ℕ) → c < 8 → number_at (seat m row a) c row ≡ sum taken covered c a
      seated zero h = get_or-set_other (set m (64 * 0 + row) 1) (64 * 1 + row) (64 * 0 + row) a 0 (λ e. omega arith) ∙ get_or-set_same m (64 * 0 + row) 1 0 (let z = r.size in omega arith)
      seated (suc zero) h = get_or-set_same (set m (64 * 0 + row) 1) (64 * 1 + row) a 0 (let z = r.size in rw length-set (omega arith))
      seated (suc (suc c)) h =
          seat-other m row a (64 * (suc (suc c)) + row) (λ e. omega arith) (λ e. omega arith) ∙ r.bare (suc (suc c)) row h (omega arith) hr ∙ sym (r.none c a (omega arith) new)

      others : (c i : ℕ) → i < 64 → (i ≡ row → ⊥) → number_at (seat m row a) c i ≡ number_at m c i
      others c i h other = seat-other m row a (64 * c + i) (λ e. other (omega arith)) (λ e. other (omega arith))

      new-seat : Rowed (seat m row a) (l ++ (a ∷ [])) taken covered
      new-seat =
          record {
            size = length-seat m row a ∙ r.size;
            few = omega (arith, more-length a l);
            once = more-once a l new r.once;
            used = λ c i h. more-cases a l (λ i. number_at (seat m row a) c i ≡ sum taken covered c (get_or (more a l) i 0))
                (rw (more-last a l, ← last) (seated c h))
                (λ i g. others c i (omega arith) (λ e. omega arith) ∙ r.used c i h g ∙ ap (sum taken covered c) (sym (more-before a l i g))) i;
            bare = λ c i h g k. let len = more-length a l in others c i k (λ e. omega arith) ∙ r.bare c i h (omega arith) k;
            none = λ c b h miss. r.none c b h (λ i g e. miss i (omega (arith, more-length a l)) (more-before a l i g ∙ e));
          }

    pub record Seated : Type 0 where
      pub rows : Rowed (seat m row a) (with_one l a) taken covered
      pub place : Seat a (with_one l a) row

    pub seat-rowed : row_for m a ≡ Some row → Seated
    seat-rowed e = go (is_among a l) refl (row_of m a) refl e
      where
        go : (b : Bool) → is_among a l ≡ b → (f : Option ℕ) → row_of m a ≡ f → or_else f (unused_row m) ≡ Some row → Seated
        go true q (Some i) f g = record { rows = rw (q, own-seat (f ∙ g)) r; place = rw q (row-found a row (f ∙ g)) }
        go true q None f g = absurd (row-there a q f)
        go false q (Some i) f g = let s = row-found a i f in absurd (among-not a l q i s.inside s.own)
        go false q None f g =
            let last = unused-next row g in
            record {
              rows = rw q (new-seat (among-not a l q) last (unused-within m row g));
              place = rw q (record { inside = omega (arith, more-length a l); own = rw last (more-last a l) });
            }

-- A TALLY in an association's row

-- what it adds, by the column
abbrev pub extra : ℕ → ℕ → ℕ → ℕ → ℕ
extra column s o c = if eqb c column then s else if eqb c (column + 1) then o else 0

module _ (m l : List ℕ) (taken : List Taken) (covered : List Cover) (r : Rowed m l taken covered) (column a row s o : ℕ) (two : 2 ≤ column) (hc : column < 7) (p : Seat a l row) where
  abbrev grown : List ℕ
  grown = tally m column row s o

  inside : row < 64
  inside = let h = p.inside in let n = r.few in omega arith

  grown-own : (c : ℕ) → number_at grown c row ≡ number_at m c row + extra column s o c
  grown-own c = go (eqb c column) refl (eqb c (column + 1)) refl
    where
      go : (x : Bool) → eqb c column ≡ x → (y : Bool) → eqb c (column + 1) ≡ y
          → number_at grown c row ≡ number_at m c row + (if x then s else if y then o else 0)
      go true e y f = let here : c ≡ column = eqb-true c column e in rw here (tally-first m column row s o r.size hc inside)
      go false e true f = let here : c ≡ column + 1 = eqb-true c (column + 1) f in rw here (tally-second m column row s o r.size hc inside)
      go false e false f =
          let x = eqb-false c column e in
          let y = eqb-false c (column + 1) f in
          omega (arith, tally-other m column row s o (64 * c + row) (λ q. x (omega arith)) (λ q. y (omega arith)))

  grown-other : (c i : ℕ) → i < 64 → (i ≡ row → ⊥) → number_at grown c i ≡ number_at m c i
  grown-other c i h other = let z = inside in tally-other m column row s o (64 * c + i) (λ e. other (omega arith)) (λ e. other (omega arith))

  pub tally-rowed : (taken' : List Taken) (covered' : List Cover)
      → ((c b : ℕ) → c < 8 → sum taken' covered' c b ≡ sum taken covered c b + (if eqb a b then extra column s o c else 0)) → Rowed grown l taken' covered'
  tally-rowed taken' covered' adds =
      record {
        size = length-tally m column row s o ∙ r.size;
        few = r.few;
        once = r.once;
        used = λ c i h g. at c i h g (eqb i row) refl;
        bare = λ c i h g k. grown-other c i k (λ e. let z = p.inside in omega arith) ∙ r.bare c i h g k;
        none = λ c b h miss. adds (suc (suc c)) b (omega arith) ∙ rw (r.none c b h miss, ne_eqb a b (λ e. miss row p.inside (p.own ∙ e)));
      }
    where
      at : (c i : ℕ) → c < 8 → i < length l → (x : Bool) → eqb i row ≡ x → number_at grown c i ≡ sum taken' covered' c (get_or l i 0)
      at c i h g true e =
          let here : i ≡ row = eqb-true i row e in
          rw (here, grown-own c, r.used c row h p.inside, adds c (get_or l row 0) h, p.own, eq-eqb a a refl)
      at c i h g false e =
          let other = eqb-false i row e in
          grown-other c i (let n = r.few in omega arith) other
          ∙ r.used c i h g
          ∙ sym (adds c (get_or l i 0) h ∙ rw (ne_eqb a (get_or l i 0) (λ q. other (r.once i row g p.inside (sym q ∙ sym p.own)))) (omega arith))
