-- What a sending that is accepted says of its segments: how many there are, what each carries and that each fits its room.
use Rattle.std.specs.Prelude.{if◌then◌else◌}
use Prim.Native.Nat.{ℕ, zero, suc, ◌+◌, ◌-◌, ◌*◌, ◌/◌, ◌≤◌, ◌<◌}
use mathlib.Core.Path.{◌≡◌, refl, ap, ◌∙◌}
use mathlib.Core.Bool.{Bool, true, false, not, ◌&&◌, ◌||◌, and-eq-true_iff}
use mathlib.Core.List.{List, [], ◌∷◌, ◌++◌}
use native.Mathlib.Nat.{lt-div-mul-add, le-div_iff_mul-le, div-lt_iff_lt-mul, suc-mul, one-mul}
use native.Mathlib.Numerals.{add-one}
use native.Mathlib.Omega.{arith}
use borrow.Author.Tests.{ltb-false, leb-true, leb-false, eqb-true, eqb-false, not-true, not-false, eq-eqb, ne_eqb}
use lib.Dec.{eqb, ltb}
use lib.ListN.{length, take, length-append, length-take}
use lib.Seq.{take_all, take-add}
use Rattle.octets.proofs.Number.{empty}
use Rattle.rules.specs.General.{every}
use Rattle.rules.specs.Refusals.{accepted}
use Rattle.rules.specs.Registry.{kind_of, is_usable}
use Rattle.rules.specs.Layout.{is_unsegmented, sequence_octets, context_octets, addresses_octets, parameter_octets}
use Rattle.rules.specs.Soundness.{sound}
use Rattle.rules.specs.Sending.{header_length, is_segmented, first_carries, later_carries, count_of, piece_of, heading_for, carried, segment_octets, sending_checks}
use Rattle.rules.specs.declared.Entry.{Entry}
use Rattle.rules.specs.declared.Table.{Table}
use Rattle.rules.specs.declared.Heading.{Heading}
use Rattle.rules.specs.declared.Request.{Request}

-- the kind that a sending finds and its header's length
abbrev pub kind_for : Table → Request → ℕ
kind_for t q = kind_of t.registry q.context.0

abbrev pub header_for : Table → Request → List ℕ → List ℕ → ℕ
header_for t q o d = header_length (kind_for t q) q.context.0 o d

-- what the checks of a sending leave
pub record Cuttable (t : Table) (q : Request) (o d whole area : List ℕ) : Type 0 where
  pub table : sound t ≡ true
  pub registered : 1 ≤ kind_for t q
  pub known : kind_for t q ≤ 2
  pub context_least : 1 ≤ q.context.0
  pub context_most : q.context.0 ≤ 16383
  pub size : length whole ≤ 2048
  pub origin : length o ≤ 20
  pub destination : length d ≤ 20
  pub unaddressed : kind_for t q ≡ 1 → length o + length d ≡ 0
  pub instruction : q.instruction ≤ 3
  pub reference : q.reference.0 ≤ 127
  pub room1 : q.room1 ≤ 255
  pub room : q.room ≤ 255
  pub segmented : is_segmented (header_for t q o d) q (length whole) ≡ true
      → (header_for t q o d + 1 ≤ q.room1) × (header_for t q o d + 2 ≤ q.room) × (count_of (header_for t q o d) q (length whole) ≤ 10)
  pub number : q.number < count_of (header_for t q o d) q (length whole)
  pub fits : length (segment_octets (kind_for t q) q o d whole) ≤ length area

-- a registered context of a sound registry is in range, and so is its kind
abbrev pub Known : ℕ → ℕ → Type 0
Known kind x = (kind ≤ 2) × (1 ≤ x) × (x ≤ 16383)

pub neither : (a b : Bool) → (a || b) ≡ false → (a ≡ false) × (b ≡ false)
neither true b e = (e, cc)
neither false b e = (refl, e)

kind-most : (k : ℕ) → (eqb k 1 || eqb k 2) ≡ true → k ≤ 2
kind-most k e = go (eqb k 1) refl
  where
    go : (b : Bool) → eqb k 1 ≡ b → k ≤ 2
    go true t = let h = eqb-true k 1 t in omega arith
    go false t = let h = eqb-true k 2 (simp t at e) in omega arith

entry_known : (e : Entry) → is_usable e ≡ true → (e.kind ≡ 0 → ⊥) → Known e.kind e.context.0
entry_known e u k =
    let all = simp and-eq-true_iff at (simp (ne_eqb _ _ k) at u) in
    (kind-most e.kind all.0, leb-true 1 e.context.0 all.1.0, leb-true e.context.0 16383 all.1.1)

pub kind-known : (es : List Entry) (x : ℕ) → every is_usable es ≡ true → (kind_of es x ≡ 0 → ⊥) → Known (kind_of es x) x
kind-known [] x u k = absurd (k refl)
kind-known (e ∷ es) x u k = go (eqb e.context.0 x) refl k (kind-known es x both.1)
  where
    both : (is_usable e ≡ true) × (every is_usable es ≡ true)
    both = (and-eq-true_iff (is_usable e) (every is_usable es)).0 u

    go : (b : Bool) → eqb e.context.0 x ≡ b
        → ((if b then e.kind else kind_of es x) ≡ 0 → ⊥) → ((kind_of es x ≡ 0 → ⊥) → Known (kind_of es x) x) → Known (if b then e.kind else kind_of es x) x
    go true c k later = rw (eqb-true e.context.0 x c) at (entry_known e both.0 k)
    go false c k later = later k

-- check 15 and check 18, each over the test that it turns on
none-given : (b : Bool) (m : ℕ) → not (b && ltb 0 m) ≡ true → b ≡ true → m ≡ 0
none-given b m e h = let none = ltb-false 0 m (not-true (ltb 0 m) (simp h at e)) in omega arith

rooms : (h room1 room count : ℕ) (segmented : Bool) →
    not (ltb 255 room1 || ltb 255 room || (segmented && (ltb room1 (h + 1) || ltb room (h + 2) || ltb 10 count))) ≡ true →
    (room1 ≤ 255) × (room ≤ 255) × (segmented ≡ true → (h + 1 ≤ room1) × (h + 2 ≤ room) × (count ≤ 10))
rooms h room1 room count segmented e =
    let outer = neither _ _ (not-true _ e) in
    let most = neither _ _ outer.0 in (
      ltb-false 255 room1 most.0,
      ltb-false 255 room most.1,
      λ g.
          let inner = neither _ _ (simp g at outer.1) in
          let least = neither _ _ inner.0 in
          (ltb-false room1 (h + 1) least.0, ltb-false room (h + 2) least.1, ltb-false 10 count inner.1),
    )

module _ (t : Table) (q : Request) (o d whole area : List ℕ) (ok : accepted (sending_checks t q o d whole area) ≡ true) where
  pub cuttable : Cuttable t q o d whole area
  unfolding sending_checks sound
  cuttable =
      let all = simp and-eq-true_iff at ok in
      let table = not-false (sound t) (not-true _ all.0) in
      let kind = eqb-false (kind_for t q) 0 (not-true _ all.1.0) in
      let registered : 1 ≤ kind_for t q = omega (arith, kind) in
      let known = kind-known t.registry q.context.0 (simp and-eq-true_iff at table).0.0.1.0 kind in
      let addresses = neither _ _ (not-true _ all.1.1.1.0) in
      let room = rooms (header_for t q o d) q.room1 q.room _ _ all.1.1.1.1.1.1.1.0 in
      record {
        table = table;
        registered = registered;
        known = known.0;
        context_least = known.1;
        context_most = known.2;
        size = ltb-false 2048 (length whole) (not-true _ all.1.1.0);
        origin = ltb-false 20 (length o) addresses.0;
        destination = ltb-false 20 (length d) addresses.1;
        unaddressed = λ e. none-given (eqb (kind_for t q) 1) (length o + length d) all.1.1.1.1.0 (eq-eqb _ _ e);
        instruction = ltb-false 3 q.instruction (not-true _ all.1.1.1.1.1.0);
        reference = ltb-false 127 q.reference.0 (not-true _ all.1.1.1.1.1.1.0);
        room1 = room.0;
        room = room.1;
        segmented = room.2;
        number = leb-false _ _ (not-true _ all.1.1.1.1.1.1.1.1.0);
        fits = ltb-false _ _ (not-true _ all.1.1.1.1.1.1.1.1.1.0);
      }

-- where segmented, with room for an octet in each later segment and not for all in the first, the count is the least that holds the data
module _ (h : ℕ) (q : Request) (n : ℕ) (segmented : is_segmented h q n ≡ true) (some : 1 ≤ later_carries h q) (more : first_carries h q < n) where
  parts : count_of h q n ≡ 1 + (n - first_carries h q + (later_carries h q - 1)) / later_carries h q
  parts = simp segmented

  pub count-holds : n ≤ first_carries h q + (count_of h q n - 1) * later_carries h q
  count-holds =
      let p : count_of h q n - 1 ≡ (n - first_carries h q + (later_carries h q - 1)) / later_carries h q = omega (arith, parts) in
      let most = lt-div-mul-add {a = n - first_carries h q + (later_carries h q - 1)} {b = later_carries h q} some in
      rw p (omega arith)

  pub count-least : (m : ℕ) → 1 ≤ m → n ≤ first_carries h q + (m - 1) * later_carries h q → count_of h q n ≤ m
  count-least m one holds =
      let e = suc-mul (m - 1) (later_carries h q) in
      let least = (div-lt_iff_lt-mul {k = later_carries h q} {x = n - first_carries h q + (later_carries h q - 1)} {y = suc (m - 1)} some).1 (omega arith) in
      omega (arith, parts)

  pub count-two : 2 ≤ count_of h q n
  count-two =
      let e = one-mul (later_carries h q) in
      let one = (le-div_iff_mul-le {k = later_carries h q} {x = 1} {y = n - first_carries h q + (later_carries h q - 1)} some).1 (omega arith) in
      omega (arith, parts)

-- the first count pieces joined
abbrev pub pieces : ℕ → ℕ → List ℕ → ℕ → List ℕ
pieces a b whole zero = []
pieces a b whole (suc k) = pieces a b whole k ++ piece_of a b whole k

pub pieces_step : (a b : ℕ) (whole : List ℕ) (k : ℕ) → pieces a b whole (k + 1) ≡ take (a + k * b) whole
pieces_step a b whole k = rw add-one (go k)
  where
    go : (k : ℕ) → pieces a b whole (suc k) ≡ take (a + k * b) whole
    go zero = let e : a + 0 * b ≡ a = omega arith in rw e
    go (suc k) =
        let e : a + suc k * b ≡ a + k * b + b = omega (arith, suc-mul k b) in
        rw (e, take-add (a + k * b) b whole, go k)

pub pieces-join : (a b : ℕ) (whole : List ℕ) (count : ℕ) → 1 ≤ count → length whole ≤ a + (count - 1) * b → pieces a b whole count ≡ whole
pieces-join a b whole count one h =
    let e : count ≡ count - 1 + 1 = omega arith in
    rw e (pieces_step a b whole (count - 1) ∙ take_all (a + (count - 1) * b) whole h)

piece-first : (a b : ℕ) (whole : List ℕ) (k : ℕ) → k ≡ 0 → length (piece_of a b whole k) ≤ a
piece-first a b whole k e = rw (e, length-take) (omega arith)

piece-later : (a b : ℕ) (whole : List ℕ) (k : ℕ) → (k ≡ 0 → ⊥) → length (piece_of a b whole k) ≤ b
piece-later a b whole zero e = absurd (e refl)
piece-later a b whole (suc k) e = rw length-take (omega arith)

pub parameter-length : (g : Heading) (o d information : List ℕ) → length (parameter_octets g o d information)
    ≡ length (context_octets g.context.0) + 1 + length (sequence_octets g) + length (addresses_octets g.kind o d) + length information
unfolding parameter_octets
parameter-length g o d information = simp length-append

sequence-length : (g : Heading) (b : Bool) → is_unsegmented g.new g.remaining.0 ≡ b → length (sequence_octets g) ≡ (if b then 1 else 2)
sequence-length g true e = simp e
sequence-length g false e = simp e

pub record WithinRoom (q : Request) (m : ℕ) (s : List ℕ) : Type 0 where
  pub first : q.number ≡ 0 → length s ≤ q.room1
  pub later : (q.number ≡ 0 → ⊥) → length s ≤ q.room
  pub parameter : length s ≤ 255
  pub count : m ≤ 10

module _ (t : Table) (q : Request) (o d whole area : List ℕ) (ok : accepted (sending_checks t q o d whole area) ≡ true) where
  abbrev all : Cuttable t q o d whole area
  all = cuttable t q o d whole area ok

  abbrev h : ℕ
  h = header_for t q o d

  pub unaddressed-empty : kind_for t q ≡ 1 → (o ≡ []) × (d ≡ [])
  unaddressed-empty e =
      let none = all.unaddressed e in
      (empty o (omega arith), empty d (omega arith))

  module _ (segmented : is_segmented h q (length whole) ≡ true) where
    pub later-carries : 1 ≤ later_carries h q
    later-carries = let rooms = all.segmented segmented in omega arith

    pub first-leaves : first_carries h q < length whole
    first-leaves =
        let rooms = all.segmented segmented in
        let over = leb-false (h + length whole) q.room1 (not-true _ segmented) in
        omega arith

    -- all segments of a sending together carry the data
    pub cut-joins : pieces (first_carries h q) (later_carries h q) whole (count_of h q (length whole)) ≡ whole
    cut-joins =
        let one = all.number in
        pieces-join (first_carries h q) (later_carries h q) whole (count_of h q (length whole)) (omega arith)
        (count-holds h q (length whole) segmented later-carries first-leaves)

    counts-two : 2 ≤ count_of h q (length whole)
    counts-two = count-two h q (length whole) segmented later-carries first-leaves

  unsegmented-one : is_segmented h q (length whole) ≡ false → (count_of h q (length whole) ≡ 1) × (q.number ≡ 0)
  unsegmented-one e =
      let one : count_of h q (length whole) ≡ 1 = simp e in
      (one, omega (arith, all.number))

  -- alone exactly where it is not segmented
  pub alone-is : is_unsegmented (eqb q.number 0) (count_of h q (length whole) - 1 - q.number) ≡ not (is_segmented h q (length whole))
  alone-is = go (is_segmented h q (length whole)) refl
    where
      later : (b : Bool) → eqb q.number 0 ≡ b → 2 ≤ count_of h q (length whole) → (b && eqb (count_of h q (length whole) - 1 - q.number) 0) ≡ false
      later true e two = let k = eqb-true q.number 0 e in ne_eqb (count_of h q (length whole) - 1 - q.number) 0 (λ z. omega arith)
      later false e two = refl

      go : (b : Bool) → is_segmented h q (length whole) ≡ b → is_unsegmented (eqb q.number 0) (count_of h q (length whole) - 1 - q.number) ≡ not b
      go true e = later (eqb q.number 0) refl (counts-two e)
      go false e =
          let one = unsegmented-one e in
          let left : count_of h q (length whole) - 1 - q.number ≡ 0 = omega arith in
          rw (eq-eqb _ _ one.1, eq-eqb _ _ left)

  abbrev g : Heading
  g = heading_for (kind_for t q) h q (length whole)

  abbrev s : List ℕ
  s = segment_octets (kind_for t q) q o d whole

  segment-length : (b : Bool) → is_segmented h q (length whole) ≡ b → length s + 1 ≡ h + (if not b then 1 else 2) + length (carried h q whole)
  unfolding segment_octets
  segment-length b e = omega (arith, parameter-length g o d (carried h q whole), sequence-length g (not b) (alone-is ∙ ap not e))

  pub within-room : WithinRoom q (count_of h q (length whole)) s
  within-room = go (is_segmented h q (length whole)) refl (eqb q.number 0) refl
    where
      go : (b : Bool) → is_segmented h q (length whole) ≡ b → (c : Bool) → eqb q.number 0 ≡ c → WithinRoom q (count_of h q (length whole)) s
      go true e true z =
          let k = eqb-true q.number 0 z in
          let rooms = all.segmented e in
          let most = piece-first (first_carries h q) (later_carries h q) whole q.number k in
          let c : length (carried h q whole) ≡ length (piece_of (first_carries h q) (later_carries h q) whole q.number) = simp e in
          let l = segment-length true e in
          let r = all.room1 in
          record { first = λ y. omega arith; later = λ y. absurd (y k); parameter = omega arith; count = rooms.2 }
      go true e false z =
          let k = eqb-false q.number 0 z in
          let rooms = all.segmented e in
          let most = piece-later (first_carries h q) (later_carries h q) whole q.number k in
          let c : length (carried h q whole) ≡ length (piece_of (first_carries h q) (later_carries h q) whole q.number) = simp e in
          let l = segment-length true e in
          let r = all.room in
          record { first = λ y. absurd (k y); later = λ y. omega arith; parameter = omega arith; count = rooms.2 }
      go false e c z =
          let one = unsegmented-one e in
          let c : length (carried h q whole) ≡ length whole = simp e in
          let l = segment-length false e in
          let within = leb-true (h + length whole) q.room1 (not-false _ e) in
          let r = all.room1 in
          record { first = λ y. omega arith; later = λ y. absurd (y one.1); parameter = omega arith; count = omega arith }
