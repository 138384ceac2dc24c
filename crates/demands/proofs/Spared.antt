-- A call that spares a key leaves the key's place, and what was saved there.
use Rattle.std.specs.Prelude.{if◌then◌else◌, Option, Some, None}
use Prim.Native.Nat.{ℕ, zero, suc, ◌+◌, ◌≤◌, ◌<◌}
use mathlib.Core.Path.{◌≡◌, refl, sym, ap, ◌∙◌, subst}
use mathlib.Core.Bool.{Bool, true, false, not, ◌&&◌, and-eq-true_iff}
use mathlib.Core.List.{List, [], ◌∷◌, map}
use native.Mathlib.Omega.{arith}
use borrow.Author.Tests.{ltb-true, ltb-false, eqb-true, eqb-false}
use lib.Dec.{eqb, ltb}
use lib.ListN.{length, length-map, get_or-map, get_or, set, take, drop, length-set, length-drop}
use lib.Seq.{get_or-set_same, get_or-set_other}
use Rattle.octets.proofs.Splice.{splice-length, splice-below, splice-above}
use Rattle.rules.specs.General.{those}
use Rattle.rules.specs.Numbers.{data_most, place_start}
use Rattle.rules.specs.Refusals.{Check, accepted, fault}
use Rattle.rules.specs.Layout.{is_unsegmented, fields_of, reading_checks}
use Rattle.rules.specs.Places.{no_place, free_place, is_open, is_free, holds, first_from, place_of, lowest_free, number_of, put_place, place_at, is_at}
use Rattle.rules.specs.Sweep.{loss_of, freed_by}
use Rattle.rules.specs.Receiving.{key_of, information_of, line_of, effect_of, save_at, begun, longer, received_at, Reception, unreceived}
use Rattle.rules.specs.Summary.{segment_checks_with, segment_with}
use Rattle.rules.specs.declared.Key.{Key}
use Rattle.rules.specs.declared.Place.{Place}
use Rattle.rules.specs.declared.Table.{Table}
use Rattle.rules.specs.declared.Heading.{Heading}
use Rattle.rules.specs.declared.Fields.{Fields}
use Rattle.rules.specs.declared.Line.{Line}
use Rattle.rules.specs.declared.Line.TheVariants.{Unsegmented, Broken, Restart, Start, Final, Next}
use Rattle.rules.specs.declared.Record.{Record}
use Rattle.demands.specs.Machine.{All}
use Rattle.rules.proofs.Places.{IsFirst, first-is, place_is, free-is}
use Rattle.rules.proofs.Keys.{same-equal}
use Rattle.rules.proofs.Answers.{segment-accepted}
use Rattle.rules.proofs.Arrived.{arrived}
use Rattle.rules.proofs.Reading.{parameter-short}

-- a key's place, with a place there and octets at the front of its stretch of the store
pub record Kept (k : Key) (i : ℕ) (p : Place) (saved : List ℕ) (ps : List Place) (store : List ℕ) : Type 0 where
  pub first : IsFirst (holds k) ps (Some i)
  pub there : get_or ps i no_place ≡ p
  pub stretch : take (length saved) (drop (place_start i) store) ≡ saved

pub clash : {b : Bool} → b ≡ true → b ≡ false → ⊥
clash e f =
    let z : true ≡ false = sym e ∙ f in
    let n : ◌≡◌ {A = ℕ} 0 1 = cc in
    omega arith

-- only one place is the first
pub first-at : (test : Place → Bool) (ps : List Place) (i : ℕ) → IsFirst test ps (Some i) → first_from test ps 0 ≡ Some i
first-at test ps i h = go (first_from test ps 0) (first-is test ps)
  where
    go : (f : Option ℕ) → IsFirst test ps f → f ≡ Some i
    go (Some m) g = by (ltb m i) refl (ltb i m) refl
      where
        by : (a : Bool) → ltb m i ≡ a → (b : Bool) → ltb i m ≡ b → Some m ≡ Some i
        by true e b f = absurd (clash g.1 (h.2 m (ltb-true m i e)))
        by false e true f = absurd (clash h.1 (g.2 i (ltb-true i m f)))
        by false e false f =
            let x = ltb-false m i e in
            let y = ltb-false i m f in
            let z : m ≡ i = omega arith in
            ap Some z
    go None g = absurd (clash h.1 (g i h.0))

-- a place that holds a key has it, and one of another key does not hold it
pub held-key : (k : Key) (q : Place) → holds k q ≡ true → q.key ≡ k
held-key k q e = same-equal q.key k ((and-eq-true_iff (is_open q) _).0 e).1

pub not-held : (k : Key) (q : Place) → (q.key ≡ k → ⊥) → holds k q ≡ false
not-held k q ne = go (holds k q) refl
  where
    go : (b : Bool) → holds k q ≡ b → b ≡ false
    go true e = absurd (ne (held-key k q e))
    go false e = refl

put-there : (ps : List Place) (i : ℕ) (f : Option ℕ) (q : Place) → (number_of f ≡ i → ⊥) → get_or (put_place ps f q) i no_place ≡ get_or ps i no_place
put-there ps i (Some m) q apart = get_or-set_other ps m i q no_place (λ e. apart (sym e))
put-there ps i None q apart = refl

put_first : (k : Key) (ps : List Place) (i : ℕ) (f : Option ℕ) (q : Place) → (number_of f ≡ i → ⊥) → holds k q ≡ false → IsFirst (holds k) ps (Some i)
    → IsFirst (holds k) (put_place ps f q) (Some i)
put_first k ps i (Some m) q apart none h =
    (simp length-set h.0, ap (holds k) (put-there ps i (Some m) q apart) ∙ h.1, before)
  where
    before : (j : ℕ) → j < i → holds k (get_or (set ps m q) j no_place) ≡ false
    before j l = go (eqb j m) refl
      where
        go : (b : Bool) → eqb j m ≡ b → holds k (get_or (set ps m q) j no_place) ≡ false
        go true e =
            let z = eqb-true j m e in
            let inside = h.0 in
            rw z (ap (holds k) (get_or-set_same ps m q no_place (omega arith)) ∙ none)
        go false e = ap (holds k) (get_or-set_other ps m j q no_place (eqb-false j m e)) ∙ h.2 j l
put_first k ps i None q apart none h = h

save-kept : (store : List ℕ) (i m at n : ℕ) (octets : List ℕ) → (m ≡ i → ⊥) → at + length octets ≤ 2048 → n ≤ 2048
    → take n (drop (place_start i) (save_at store m at octets)) ≡ take n (drop (place_start i) store)
save-kept store i m at n octets apart fits size = go (ltb m i) refl
  where
    go : (b : Bool) → ltb m i ≡ b → take n (drop (place_start i) (save_at store m at octets)) ≡ take n (drop (place_start i) store)
    go true e = let l = ltb-true m i e in splice-above (place_start i) n store (place_start m + at) octets (omega arith)
    go false e = let l = ltb-false m i e in splice-below (place_start i) n store (place_start m + at) octets (omega (arith, apart))

-- a line that adds to a sequence does so within its stretch
abbrev Fitting : Line → ℕ → Type 0
Fitting Unsegmented n = Unit {0}
Fitting (Broken cause) n = Unit {0}
Fitting Restart n = Unit {0}
Fitting Start n = Unit {0}
Fitting Final n = n ≤ 2048
Fitting Next n = n ≤ 2048

broken-fits : (n : ℕ) (a b c d e f : Bool) (l : Line) → Fitting l n
    → Fitting (if a then Unsegmented else if b then Broken 4 else if c then Restart else if d then Start else if e then Broken 1 else if f then Broken 2 else l) n
broken-fits n true b c d e f l h = tt
broken-fits n false true c d e f l h = tt
broken-fits n false false true d e f l h = tt
broken-fits n false false false true e f l h = tt
broken-fits n false false false false true f l h = tt
broken-fits n false false false false false true l h = tt
broken-fits n false false false false false false l h = h

line-fits : (is_open : Bool) (before saved : ℕ) (g : Heading) (n : ℕ) → Fitting (line_of is_open before saved g n) (saved + n)
unfolding line_of
line-fits is_open before saved g n =
    broken-fits (saved + n) (is_unsegmented g.new g.remaining.0) (ltb 9 g.remaining.0) (g.new && is_open) g.new (not is_open) (not (eqb (g.remaining.0 + 1) before)) _
    (go (ltb data_most (saved + n)) refl (eqb g.remaining.0 0))
  where
    go : (b : Bool) → ltb data_most (saved + n) ≡ b → (c : Bool) → Fitting (if b then Broken 5 else if c then Final else Next) (saved + n)
    go true e c = tt
    go false e true = ltb-false data_most (saved + n) e
    go false e false = ltb-false data_most (saved + n) e

module _ (k : Key) (i : ℕ) (p : Place) (saved : List ℕ) (size : length saved ≤ 2048) where
  put-kept : (ps : List Place) (store : List ℕ) (f : Option ℕ) (q : Place) → (number_of f ≡ i → ⊥) → holds k q ≡ false
      → Kept k i p saved ps store → Kept k i p saved (put_place ps f q) store
  put-kept ps store f q apart none kept =
      record { first = put_first k ps i f q apart none kept.first; there = put-there ps i f q apart ∙ kept.there; stretch = kept.stretch }

  stored-kept : (ps : List Place) (store : List ℕ) (m at : ℕ) (octets : List ℕ) → (m ≡ i → ⊥) → at + length octets ≤ 2048
      → Kept k i p saved ps store → Kept k i p saved ps (save_at store m at octets)
  stored-kept ps store m at octets apart fits kept =
      record { first = kept.first; there = kept.there; stretch = save-kept store i m at (length saved) octets apart fits size ∙ kept.stretch }

  module _ (t : Table) (store : List ℕ) (key : Key) (f : Fields) (octets : List ℕ) (place : Option ℕ) (q : Place) (vacant : Option ℕ)
      (kept : Kept k i p saved t.places store) (other : key ≡ k → ⊥) (apart : number_of place ≡ i → ⊥) (away : number_of vacant ≡ i → ⊥)
      (short : length octets ≤ 2048) where
    effect-kept : (l : Line) → Fitting l (q.octets + length octets)
        → Kept k i p saved (effect_of l t store key f octets place q vacant).places (effect_of l t store key f octets place q vacant).store
    unfolding effect_of
    effect-kept Unsegmented fits = kept
    effect-kept (Broken cause) fits = put-kept t.places store place free_place apart refl kept
    effect-kept Restart fits =
        let new : Place = begun t.clock key f.heading (length octets) in
        stored-kept _ store (number_of place) 0 octets apart (omega arith) (put-kept t.places store place new apart (not-held k new other) kept)
    effect-kept Start fits =
        let new : Place = begun t.clock key f.heading (length octets) in
        stored-kept _ store (number_of vacant) 0 octets away (omega arith) (put-kept t.places store vacant new away (not-held k new other) kept)
    effect-kept Final fits =
        stored-kept _ store (number_of place) q.octets octets apart fits (put-kept t.places store place free_place apart refl kept)
    effect-kept Next fits =
        let new : Place = longer q key f.heading (length octets) in
        stored-kept _ store (number_of place) q.octets octets apart fits (put-kept t.places store place new apart (not-held k new other) kept)

effect-length : (t : Table) (store : List ℕ) (key : Key) (f : Fields) (octets : List ℕ) (place : Option ℕ) (q : Place) (vacant : Option ℕ) (l : Line)
    → length (effect_of l t store key f octets place q vacant).store ≡ length store
unfolding effect_of
effect-length t store key f octets place q vacant Unsegmented = refl
effect-length t store key f octets place q vacant (Broken cause) = refl
effect-length t store key f octets place q vacant Restart = splice-length store _ octets
effect-length t store key f octets place q vacant Start = splice-length store _ octets
effect-length t store key f octets place q vacant Final = splice-length store _ octets
effect-length t store key f octets place q vacant Next = splice-length store _ octets

module _ (t : Table) (m store report : List ℕ) (association : ℕ) (s : List ℕ) where
  abbrev checks : List Check
  checks = segment_checks_with t m store report association s

  pub segment-is : accepted checks ≡ true → (segment_with t m store report association s).call ≡ received_at t store report association s
  unfolding segment_with
  segment-is e = rw e

  pub segment-refused : accepted checks ≡ false → (segment_with t m store report association s).call ≡ unreceived t store report (fault checks)
  unfolding segment_with
  segment-refused e = rw e

  reading-accepted : accepted checks ≡ true → accepted (reading_checks t.registry s) ≡ true
  reading-accepted e = (arrived t store report association s (segment-accepted t m store report association s e).0.own).reading

  abbrev f : Fields
  f = fields_of t.registry s

  abbrev key : Key
  key = key_of association s f

  -- an accepted segment of another key
  module _ (k : Key) (i : ℕ) (p : Place) (saved : List ℕ) (size : length saved ≤ 2048) (kept : Kept k i p saved t.places store) (count : length t.places ≡ 16)
      (ok : accepted checks ≡ true) (other : key ≡ k → ⊥) where
    inside : i < 16
    inside = let h = kept.first.0 in omega arith

    apart : number_of (place_of key t.places) ≡ i → ⊥
    apart = go (place_of key t.places) (place_is key t.places)
      where
        go : (m : Option ℕ) → IsFirst (holds key) t.places m → number_of m ≡ i → ⊥
        go (Some m) h e =
            let same = ap (λ (n : ℕ). (get_or t.places n no_place).key) e in
            other (sym (held-key key (get_or t.places m no_place) h.1) ∙ same ∙ held-key k (get_or t.places i no_place) kept.first.1)
        go None h e = let l = inside in omega arith

    away : number_of (lowest_free t.places) ≡ i → ⊥
    away = go (lowest_free t.places) (free-is t.places)
      where
        go : (m : Option ℕ) → IsFirst is_free t.places m → number_of m ≡ i → ⊥
        go (Some m) h e =
            let free = eqb-true (get_or t.places m no_place).mark 0 h.1 in
            let same = ap (λ (n : ℕ). (get_or t.places n no_place).mark) e in
            let taken = eqb-true (get_or t.places i no_place).mark 1 ((and-eq-true_iff (is_open (get_or t.places i no_place)) _).0 kept.first.1).0 in
            omega arith
        go None h e = let l = inside in omega arith

    short : length (information_of s f) ≤ 2048
    short =
        let l = parameter-short t.registry s (reading-accepted ok) in
        rw (length-drop f.information s) (omega arith)

    pub segment-kept : Kept k i p saved (segment_with t m store report association s).call.answer.table.places (segment_with t m store report association s).call.store
    segment-kept =
        let place : Option ℕ = place_of key t.places in
        let q : Place = place_at t.places place in
        subst (λ (o : Reception). Kept k i p saved o.answer.table.places o.store) (sym (segment-is ok))
        (effect-kept k i p saved size t store key f (information_of s f) place q (lowest_free t.places) kept other apart away short _
        (line-fits (is_at place) q.remaining.0 q.octets f.heading (length (information_of s f))))

  -- what no segment changes
  pub segment-registry : (segment_with t m store report association s).call.answer.table.registry ≡ t.registry
  segment-registry = go (accepted checks) refl
    where
      go : (b : Bool) → accepted checks ≡ b → (segment_with t m store report association s).call.answer.table.registry ≡ t.registry
      go true e = ap (λ (o : Reception). o.answer.table.registry) (segment-is e)
      go false e = ap (λ (o : Reception). o.answer.table.registry) (segment-refused e)

  pub segment-length : length (segment_with t m store report association s).call.store ≡ length store
  segment-length = go (accepted checks) refl
    where
      go : (b : Bool) → accepted checks ≡ b → length (segment_with t m store report association s).call.store ≡ length store
      go true e = ap (λ (o : Reception). length o.store) (segment-is e) ∙ effect-length t store key f (information_of s f) _ _ _ _
      go false e = ap (λ (o : Reception). length o.store) (segment-refused e)

-- a sweep: every place that the test is for has its record
swept-out : (k : Key) (test : Place → Bool) (cause : ℕ) (ps : List Place) (i : ℕ) → All (λ (r : Record). r.key ≡ k → ⊥) (map (loss_of cause) (those test ps))
    → i < length ps → (get_or ps i no_place).key ≡ k → test (get_or ps i no_place) ≡ false
swept-out k test cause [] i none h e = let z : ⊥ = omega arith in absurd z
swept-out k test cause (p ∷ ps) zero none h e = go (test p) refl none
  where
    go : (b : Bool) → test p ≡ b → All (λ (r : Record). r.key ≡ k → ⊥) (map (loss_of cause) (if b then p ∷ those test ps else those test ps)) → b ≡ false
    go true t none = absurd (none.0 e)
    go false t none = refl
swept-out k test cause (p ∷ ps) (suc i) none h e = swept-out k test cause ps i (go (test p) none) (omega arith) e
  where
    go : (b : Bool) → All (λ (r : Record). r.key ≡ k → ⊥) (map (loss_of cause) (if b then p ∷ those test ps else those test ps))
        → All (λ (r : Record). r.key ≡ k → ⊥) (map (loss_of cause) (those test ps))
    go true none = none.1
    go false none = none

freed-none : (k : Key) (test : Place → Bool) (p : Place) → holds k p ≡ false → holds k (freed_by test p) ≡ false
freed-none k test p e = go (test p)
  where
    go : (b : Bool) → holds k (if b then free_place else p) ≡ false
    go true = refl
    go false = e

pub freed-at : (test : Place → Bool) → test no_place ≡ false → (ps : List Place) (i : ℕ) → get_or (map (freed_by test) ps) i no_place ≡ freed_by test (get_or ps i no_place)
freed-at test e ps i =
    let z : freed_by test no_place ≡ no_place = rw e in
    rw z at (get_or-map (freed_by test) ps i no_place)

pub sweep-kept : (k : Key) (i : ℕ) (p : Place) (saved store : List ℕ) (test : Place → Bool) (cause : ℕ) (ps : List Place) → test no_place ≡ false
    → All (λ (r : Record). r.key ≡ k → ⊥) (map (loss_of cause) (those test ps)) → Kept k i p saved ps store → Kept k i p saved (map (freed_by test) ps) store
sweep-kept k i p saved store test cause ps empty none kept =
    let stays = swept-out k test cause ps i none kept.first.0 (held-key k (get_or ps i no_place) kept.first.1) in
    let same : get_or (map (freed_by test) ps) i no_place ≡ get_or ps i no_place = freed-at test empty ps i ∙ rw stays in
    record {
      first = (
        rw (length-map ps (freed_by test)) kept.first.0,
        ap (holds k) same ∙ kept.first.1,
        λ j l. ap (holds k) (freed-at test empty ps j) ∙ freed-none k test (get_or ps j no_place) (kept.first.2 j l),
      );
      there = same ∙ kept.there;
      stretch = kept.stretch;
    }
