-- A sound summary stays sound through what a call counts, and an association that has a row keeps it.
use Rattle.std.specs.Prelude.{if◌then◌else◌, Option, Some, None}
use Prim.Native.Nat.{ℕ, ◌+◌, ◌*◌, ◌≤◌, ◌<◌}
use mathlib.Core.Path.{◌≡◌, refl, sym, ◌∙◌}
use mathlib.Core.Bool.{Bool, true, false, not, ◌&&◌, ◌||◌, and-eq-true_iff, true≢false}
use mathlib.Core.List.{List, [], ◌∷◌, map}
use native.Mathlib.Omega.{arith}
use borrow.Author.Tests.{eqb-true, eqb-false, eq-eqb, ne_eqb, ltb-true, ltb-false, le-leb}
use lib.Dec.{eqb, leb, ltb}
use lib.ListN.{length, set, length-set}
use lib.Seq.{get_or-set_same, get_or-set_other}
use Rattle.rules.specs.General.{every}
use Rattle.rules.specs.Places.{free_place, is_open, is_at}
use Rattle.rules.specs.Sweep.{freed_by}
use Rattle.rules.specs.Summary.{every_below, every_pair, or_else, row_count, number_at, is_used, is_unused, is_for, row_of, unused_row, row_for, row_sound, rows_apart, is_seated, summary_sound}
use Rattle.rules.specs.Summary.{tally, seat, took_at, took, column_of, bill_at, bill, billed}
use Rattle.rules.specs.declared.Place.{Place}
use Rattle.rules.specs.declared.Record.{Record}
use Rattle.rules.proofs.Below.{below_at, below-from, first-same, first_passes, first-none, first-before, first-is, is_found}
use Rattle.rules.proofs.Rows.{row_count_lem, row-of-within, row-for-within}
use Rattle.rules.proofs.Fitting.{tally-other, seat-other, column-within}

eqb-turned : (x y : ℕ) → eqb x y ≡ eqb y x
eqb-turned x y = go (eqb x y) refl
  where
    go : (b : Bool) → eqb x y ≡ b → b ≡ eqb y x
    go true e = sym (eq-eqb y x (sym (eqb-true x y e)))
    go false e = sym (ne_eqb y x (λ h. eqb-false x y e (sym h)))

every_more : {A : Type 0} (f g : A → Bool) → ((x : A) → f x ≡ true → g x ≡ true) → (l : List A) → every f l ≡ true → every g l ≡ true
every_more f g h [] e = refl
every_more f g h (x ∷ l) e =
    let both = (and-eq-true_iff (f x) (every f l)).0 e in
    (and-eq-true_iff (g x) (every g l)).1 (h x both.0, every_more f g h l both.1)

-- the rows by themselves, one by one and two by two
pub record Rows (m : List ℕ) : Type 0 where
  pub each : (i : ℕ) → i < 64 → row_sound m i ≡ true
  pub apart : (i j : ℕ) → i < j → j < 64 → rows_apart m i j ≡ true

pub sound-rows : (m : List ℕ) (ps : List Place) → summary_sound m ps ≡ true → Rows m × (every (is_seated m) ps ≡ true)
unfolding summary_sound
sound-rows m ps e =
    let rows : Bool = every_below row_count (row_sound m) in
    let pairs : Bool = every_pair row_count (rows_apart m) in
    let outer = (and-eq-true_iff (rows && pairs) (every (is_seated m) ps)).0 e in
    let inner = (and-eq-true_iff rows pairs).0 outer.0 in (
      record {
        each = λ i l. below_at (row_sound m) row_count inner.0 i (omega (arith, row_count_lem));
        apart = λ i j l h. below_at (λ i. rows_apart m i j) j (below_at (λ j. every_below j (λ i. rows_apart m i j)) row_count inner.1 j (omega (arith, row_count_lem))) i l;
      },
      outer.1,
    )

pub rows-sound : (m : List ℕ) (ps : List Place) → Rows m → every (is_seated m) ps ≡ true → summary_sound m ps ≡ true
unfolding summary_sound
rows-sound m ps r e =
    let rows = below-from (row_sound m) row_count (λ i l. r.each i (omega (arith, row_count_lem))) in
    let pairs = below-from (λ j. every_below j (λ i. rows_apart m i j)) row_count (λ j h. below-from (λ i. rows_apart m i j) j (λ i l. r.apart i j l (omega (arith, row_count_lem)))) in
    rw (rows, pairs, e)

-- a used row is sound by its association alone
used-within : (m : List ℕ) (i : ℕ) → row_sound m i ≡ true → number_at m 0 i ≡ 1 → leb (number_at m 1 i) 65535 ≡ true
used-within m i s e = rw e at s

used_sound : (m : List ℕ) (i : ℕ) → number_at m 0 i ≡ 1 → leb (number_at m 1 i) 65535 ≡ true → row_sound m i ≡ true
used_sound m i e l = rw (e, l)

-- rows with the same numbers
same_row : (m m' : List ℕ) (i : ℕ) → ((c : ℕ) → c < 8 → number_at m' c i ≡ number_at m c i) → row_sound m' i ≡ row_sound m i
same_row m m' i h =
    rw (h 0 (omega arith), h 1 (omega arith), h 2 (omega arith), h 3 (omega arith), h 4 (omega arith), h 5 (omega arith), h 6 (omega arith), h 7 (omega arith))

same-apart : (m m' : List ℕ) (i j : ℕ) → number_at m' 0 i ≡ number_at m 0 i → number_at m' 1 i ≡ number_at m 1 i → number_at m' 0 j ≡ number_at m 0 j → number_at m' 1 j ≡ number_at m 1 j
    → rows_apart m' i j ≡ rows_apart m i j
same-apart m m' i j a b c d = rw (a, b, c, d)

for-is : (m : List ℕ) (a i : ℕ) → is_for m a i ≡ true → (number_at m 0 i ≡ 1) × (number_at m 1 i ≡ a)
for-is m a i e = let both = (and-eq-true_iff (is_used m i) (eqb (number_at m 1 i) a)).0 e in (eqb-true _ 1 both.0, eqb-true _ a both.1)

-- A TOTAL that grows leaves marks and associations
module _ (m : List ℕ) (column row s o : ℕ) (two : 2 ≤ column) (hc : column < 7) (hr : row < 64) where
  abbrev grown : List ℕ
  grown = tally m column row s o

  front : (c i : ℕ) → c < 2 → i < 64 → number_at grown c i ≡ number_at m c i
  front c i h l = tally-other m column row s o (64 * c + i) (λ e. omega arith) (λ e. omega arith)

  pub tally-row-of : (a : ℕ) → row_of grown a ≡ row_of m a
  tally-row-of a =
      first-same (is_for grown a) (is_for m a) row_count
      (λ i l. rw (front 0 i (omega arith) (omega (arith, row_count_lem)), front 1 i (omega arith) (omega (arith, row_count_lem))))

  -- of a used row
  pub tally-rows : number_at m 0 row ≡ 1 → Rows m → Rows grown
  tally-rows used r =
      record {
        each = λ i l. go i l (eqb i row) refl;
        apart = λ i j l h.
            same-apart m grown i j (front 0 i (omega arith) (omega arith)) (front 1 i (omega arith) (omega arith)) (front 0 j (omega arith) h) (front 1 j (omega arith) h)
            ∙ r.apart i j l h;
      }
    where
      go : (i : ℕ) → i < 64 → (b : Bool) → eqb i row ≡ b → row_sound grown i ≡ true
      go i l true e =
          let here : i ≡ row = eqb-true i row e in
          let marked : number_at m 0 i ≡ 1 = rw here used in
          used_sound grown i (front 0 i (omega arith) l ∙ marked) (rw (front 1 i (omega arith) l) (used-within m i (r.each i l) marked))
      go i l false e =
          let other = eqb-false i row e in
          same_row m grown i (λ c h. tally-other m column row s o (64 * c + i) (λ q. other (omega arith)) (λ q. other (omega arith))) ∙ r.each i l

-- A SEGMENT THAT IS TAKEN
module _ (m : List ℕ) (long : length m ≡ 512) (a row n : ℕ) (for : row_for m a ≡ Some row) where
  abbrev after : List ℕ
  after = took_at m (Some row) a n

  inside : row < 64
  inside = row-for-within m a row for

  took-mark : number_at after 0 row ≡ 1
  took-mark =
      let hr = inside in
      tally-other (seat m row a) 2 row 1 n (64 * 0 + row) (λ e. omega arith) (λ e. omega arith)
      ∙ get_or-set_other (set m (0 + row) 1) (64 + row) (0 + row) a 0 (λ e. omega arith)
      ∙ get_or-set_same m (0 + row) 1 0 (omega arith)

  took-name : number_at after 1 row ≡ a
  took-name =
      let hr = inside in
      tally-other (seat m row a) 2 row 1 n (64 * 1 + row) (λ e. omega arith) (λ e. omega arith)
      ∙ get_or-set_same (set m (0 + row) 1) (64 + row) a 0 (rw length-set (omega arith))

  took-other : (c i : ℕ) → i < 64 → (i ≡ row → ⊥) → number_at after c i ≡ number_at m c i
  took-other c i l other =
      let hr = inside in
      tally-other (seat m row a) 2 row 1 n (64 * c + i) (λ e. other (omega arith)) (λ e. other (omega arith))
      ∙ seat-other m row a (64 * c + i) (λ e. other (omega arith)) (λ e. other (omega arith))

  -- it was the association's own, or not used, and then the association had none
  found-own : (P : Type 0) → (row_of m a ≡ Some row → P) → (is_unused m row ≡ true → ((i : ℕ) → i < 64 → is_for m a i ≡ false) → P) → P
  found-own P own new = go (row_of m a) refl for
    where
      go : (r : Option ℕ) → row_of m a ≡ r → or_else r (unused_row m) ≡ Some row → P
      go (Some k) e f = own (e ∙ f)
      go None e f = new (first_passes (is_unused m) row_count row f).1 (λ i l. first-none (is_for m a) row_count i e (omega (arith, row_count_lem)))

  mine-for : row_of m a ≡ Some row → is_for m a row ≡ true
  mine-for own = (first_passes (is_for m a) row_count row own).1

  -- no other row is for it
  only : Rows m → (i : ℕ) → i < 64 → (i ≡ row → ⊥) → is_for m a i ≡ false
  only r i l other = found-own (is_for m a i ≡ false) (λ own. go (mine-for own) (is_for m a i) refl (ltb i row) refl) (λ u none. none i l)
    where
      clash : (x y : ℕ) → is_for m a x ≡ true → is_for m a y ≡ true → rows_apart m x y ≡ true → ⊥
      clash x y p q h =
          let fx = for-is m a x p in
          let fy = for-is m a y q in
          true≢false (sym h ∙ rw (fx.0, fy.0, fx.1, fy.1, eq-eqb a a refl))

      go : is_for m a row ≡ true → (b : Bool) → is_for m a i ≡ b → (c : Bool) → ltb i row ≡ c → b ≡ false
      go own true e true f = absurd (clash i row e own (r.apart i row (ltb-true i row f) inside))
      go own true e false f = let ge = ltb-false i row f in absurd (clash row i own e (r.apart row i (omega (arith, other)) l))
      go own false e c f = refl

  pub took-row-of : row_of after a ≡ Some row
  took-row-of =
      let hr = inside in
      first-is (is_for after a) row_count row (omega (arith, row_count_lem)) (rw (took-mark, took-name, eq-eqb a a refl))
      (λ k l. rw (took-other 0 k (omega arith) (λ e. omega arith), took-other 1 k (omega arith) (λ e. omega arith))
      (found-own (is_for m a k ≡ false) (λ own. first-before (is_for m a) row_count row own k l) (λ u none. none k (omega arith))))

  pub took-rows : a < 65536 → Rows m → Rows after
  took-rows small r = record { each = λ i l. go i l (eqb i row) refl; apart = λ i j l h. two i j l h (eqb i row) refl (eqb j row) refl }
    where
      go : (i : ℕ) → i < 64 → (b : Bool) → eqb i row ≡ b → row_sound after i ≡ true
      go i l true e =
          let here : i ≡ row = eqb-true i row e in
          rw here (used_sound after row took-mark (rw took-name (le-leb a 65535 (omega arith))))
      go i l false e = same_row m after i (λ c h. took-other c i l (eqb-false i row e)) ∙ r.each i l

      no-two : (u e : Bool) → (u && e) ≡ false → not (u && (true && e)) ≡ true
      no-two true e h = rw h
      no-two false e h = refl

      two : (i j : ℕ) → i < j → j < 64 → (b : Bool) → eqb i row ≡ b → (c : Bool) → eqb j row ≡ c → rows_apart after i j ≡ true
      two i j l h true e c f =
          let here : i ≡ row = eqb-true i row e in
          let other : j ≡ row → ⊥ = λ q. omega arith in
          rw (here, took-mark, took-name, took-other 0 j h other, took-other 1 j h other, eqb-turned a (number_at m 1 j)) (no-two (is_used m j) (eqb (number_at m 1 j) a) (only r j h other))
      two i j l h false e true f =
          let here : j ≡ row = eqb-true j row f in
          let other = eqb-false i row e in
          rw (here, took-mark, took-name, took-other 0 i (omega arith) other, took-other 1 i (omega arith) other, only r i (omega arith) other)
      two i j l h false e false f =
          let p = eqb-false i row e in
          let q = eqb-false j row f in
          same-apart m after i j (took-other 0 i (omega arith) p) (took-other 1 i (omega arith) p) (took-other 0 j h q) (took-other 1 j h q) ∙ r.apart i j l h

  -- who had a row has it
  pub took-keeps : (b : ℕ) → is_at (row_of m b) ≡ true → is_at (row_of after b) ≡ true
  took-keeps b e = go (row_of m b) refl e
    where
      mine : is_for m b row ≡ true → is_for after b row ≡ true
      mine h =
          let f = for-is m b row h in
          let same : a ≡ b = found-own (a ≡ b) (λ own. sym (for-is m a row (mine-for own)).1 ∙ f.1) (λ u none. absurd (let z = eqb-true (number_at m 0 row) 0 u in omega (arith, f.0))) in
          rw (took-mark, took-name, eq-eqb a b same)

      at : (i : ℕ) → i < 64 → is_for m b i ≡ true → (x : Bool) → eqb i row ≡ x → is_for after b i ≡ true
      at i l h true q = let here : i ≡ row = eqb-true i row q in rw here (mine (rw here at h))
      at i l h false q = rw (took-other 0 i l (eqb-false i row q), took-other 1 i l (eqb-false i row q)) h

      go : (f : Option ℕ) → row_of m b ≡ f → is_at f ≡ true → is_at (row_of after b) ≡ true
      go (Some i) q t =
          let p = first_passes (is_for m b) row_count i q in
          is_found (is_for after b) row_count i p.0 (at i (omega (arith, row_count_lem, p.0)) p.1 (eqb i row) refl)
      go None q t = absurd (true≢false (sym t))

seated-as : (m m' : List ℕ) → ((b : ℕ) → is_at (row_of m b) ≡ true → is_at (row_of m' b) ≡ true) → (p : Place) → is_seated m p ≡ true → is_seated m' p ≡ true
seated-as m m' h p e = go (is_open p) e
  where
    go : (b : Bool) → (not b || is_at (row_of m p.key.association)) ≡ true → (not b || is_at (row_of m' p.key.association)) ≡ true
    go true f = h p.key.association f
    go false f = refl

-- WHAT A CALL COUNTS
pub took-sound : (m : List ℕ) (ps : List Place) (a n : ℕ) → length m ≡ 512 → a < 65536 → is_at (row_for m a) ≡ true → summary_sound m ps ≡ true
    → (summary_sound (took m a n) ps ≡ true) × (is_at (row_of (took m a n) a) ≡ true)
took-sound m ps a n long small row s = go (row_for m a) refl row
  where
    go : (f : Option ℕ) → row_for m a ≡ f → is_at f ≡ true → (summary_sound (took_at m f a n) ps ≡ true) × (is_at (row_of (took_at m f a n) a) ≡ true)
    go (Some i) e t =
        let r = sound-rows m ps s in (
          rows-sound (took_at m (Some i) a n) ps (took-rows m long a i n e small r.0)
              (every_more (is_seated m) (is_seated (took_at m (Some i) a n)) (seated-as m (took_at m (Some i) a n) (took-keeps m long a i n e)) ps r.1),
          rw (took-row-of m long a i n e),
        )
    go None e t = absurd (true≢false (sym t))

bill-rows : (m : List ℕ) (r : Record) → Rows m → Rows (bill m r) × ((a : ℕ) → row_of (bill m r) a ≡ row_of m a)
bill-rows m r rows = go (row_of m r.key.association) refl
  where
    go : (f : Option ℕ) → row_of m r.key.association ≡ f → Rows (bill_at m f r) × ((a : ℕ) → row_of (bill_at m f r) a ≡ row_of m a)
    go (Some i) e =
        let c = column-within r.kind in
        let used = (for-is m r.key.association i (first_passes (is_for m r.key.association) row_count i e).1).0 in
        let within = row-of-within m r.key.association i e in
        (tally-rows m (column_of r.kind) i r.segments r.octets c.0 c.1 within used rows, tally-row-of m (column_of r.kind) i r.segments r.octets c.0 c.1 within)
    go None e = (rows, λ a. refl)

pub billed-rows : (m : List ℕ) (rs : List Record) → Rows m → Rows (billed m rs) × ((a : ℕ) → row_of (billed m rs) a ≡ row_of m a)
billed-rows m [] rows = (rows, λ a. refl)
billed-rows m (r ∷ rs) rows =
    let one = bill-rows m r rows in
    let more = billed-rows (bill m r) rs one.0 in
    (more.0, λ a. more.1 a ∙ one.1 a)

pub billed-sound : (m : List ℕ) (rs : List Record) (ps : List Place) → summary_sound m ps ≡ true → summary_sound (billed m rs) ps ≡ true
billed-sound m rs ps s =
    let r = sound-rows m ps s in
    let b = billed-rows m rs r.0 in
    rows-sound (billed m rs) ps b.0 (every_more (is_seated m) (is_seated (billed m rs)) (seated-as m (billed m rs) (λ a e. rw (b.1 a) e)) ps r.1)

pub billed-keeps : (m : List ℕ) (rs : List Record) (ps : List Place) → summary_sound m ps ≡ true → (a : ℕ) → is_at (row_of m a) ≡ true → is_at (row_of (billed m rs) a) ≡ true
billed-keeps m rs ps s a e = rw ((billed-rows m rs (sound-rows m ps s).0).1 a) e

-- other places that have their rows
pub sound-beside : (m : List ℕ) (ps ps' : List Place) → summary_sound m ps ≡ true → every (is_seated m) ps' ≡ true → summary_sound m ps' ≡ true
sound-beside m ps ps' s e = rows-sound m ps' (sound-rows m ps s).0 e

pub seats-of : (m : List ℕ) (ps : List Place) → summary_sound m ps ≡ true → every (is_seated m) ps ≡ true
seats-of m ps s = (sound-rows m ps s).1

-- what a sweep leaves: a place that it frees needs no row
pub freed-seats : (m : List ℕ) (test : Place → Bool) (ps : List Place) → every (is_seated m) ps ≡ true → every (is_seated m) (map (freed_by test) ps) ≡ true
freed-seats m test [] h = refl
freed-seats m test (p ∷ ps) h =
    let both = (and-eq-true_iff (is_seated m p) (every (is_seated m) ps)).0 h in
    rw (go (test p) both.0, freed-seats m test ps both.1)
  where
    go : (b : Bool) → is_seated m p ≡ true → is_seated m (if b then free_place else p) ≡ true
    go true e = refl
    go false e = e

pub swept-seats : (m : List ℕ) (rs : List Record) (test : Place → Bool) (ps : List Place) → summary_sound m ps ≡ true → summary_sound (billed m rs) (map (freed_by test) ps) ≡ true
swept-seats m rs test ps s =
    let sums = billed-sound m rs ps s in
    sound-beside (billed m rs) ps _ sums (freed-seats (billed m rs) test ps (seats-of (billed m rs) ps sums))
