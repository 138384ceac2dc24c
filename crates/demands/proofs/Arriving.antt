-- What a segment does that reads as a heading, an address and information.
use Rattle.std.specs.Prelude.{if◌then◌else◌, Option, Some}
use Prim.Native.Nat.{ℕ, ◌+◌, ◌≤◌, ◌<◌}
use mathlib.Core.Path.{◌≡◌, ap, ◌∙◌}
use mathlib.Core.Bool.{Bool, true, false, not, ◌&&◌}
use mathlib.Core.List.{List, [], ◌∷◌, ◌++◌, append-nil}
use native.Mathlib.Omega.{arith}
use borrow.Author.Tests.{le-ltb, lt-ltb, le-leb, eq-eqb}
use lib.Dec.{eqb}
use lib.ListN.{length, get_or, set, take, drop, length-set, length-append}
use lib.Seq.{get_or-set_same, get_or-set_other, take-add, drop-drop}
use Rattle.octets.specs.Splice.{splice}
use Rattle.octets.proofs.Splice.{splice-back, splice-below}
use Rattle.rules.specs.Numbers.{store_least, place_start}
use Rattle.rules.specs.Refusals.{Check, accepted}
use Rattle.rules.specs.Layout.{is_unsegmented, fields_of, reading_checks}
use Rattle.rules.specs.Records.{record_length, address_of, FilledKey, record_octets, records_octets}
use Rattle.rules.specs.Places.{no_place, holds, place_of, lowest_free, is_at, place_at}
use Rattle.rules.specs.Soundness.{sound}
use Rattle.rules.specs.Receiving.{key_of, line_of, line_at, is_start, effect_of, save_at, reception_of, received_at, Reception, lent_checks, own_checks, segment_checks}
use Rattle.rules.specs.Summary.{summary_sound, summary_checks, row_checks, total_checks, segment_sums, segment_checks_with, segment_with}
use Rattle.rules.specs.Delivery.{part_of_place}
use Rattle.rules.specs.declared.Key.{Key}
use Rattle.rules.specs.declared.Place.{Place}
use Rattle.rules.specs.declared.Table.{Table}
use Rattle.rules.specs.declared.Heading.{Heading}
use Rattle.rules.specs.declared.Fields.{Fields}
use Rattle.rules.specs.declared.Record.{Record}
use Rattle.rules.specs.declared.Line.{Line}
use Rattle.rules.specs.declared.Line.TheVariants.{Unsegmented, Restart, Start, Final, Next}
use Rattle.rules.proofs.Places.{IsFirst}
use Rattle.rules.proofs.Refusals.{accepted-append, both-accepted}
use Rattle.rules.proofs.Records.{record-length}
use Rattle.rules.proofs.ReadBack.{ReadsBack}
use Rattle.demands.proofs.Spared.{Kept, segment-is}

-- Which line

pub line-alone : (b : Bool) (before saved : ℕ) (g : Heading) (n : ℕ) → is_unsegmented g.new g.remaining.0 ≡ true → line_of b before saved g n ≡ Unsegmented
unfolding line_of
line-alone b before saved g n alone = rw alone

pub line-new : (b : Bool) (before saved : ℕ) (g : Heading) (n : ℕ) → is_unsegmented g.new g.remaining.0 ≡ false → g.remaining.0 ≤ 9 → g.new ≡ true
    → line_of b before saved g n ≡ (if b then Restart else Start)
unfolding line_of
line-new true before saved g n alone nine new = rw (alone, le-ltb 9 g.remaining.0 nine, new)
line-new false before saved g n alone nine new = rw (alone, le-ltb 9 g.remaining.0 nine, new)

pub line-later : (before saved : ℕ) (g : Heading) (n : ℕ) → g.remaining.0 ≤ 9 → g.new ≡ false → g.remaining.0 + 1 ≡ before → saved + n ≤ 2048
    → line_of true before saved g n ≡ (if eqb g.remaining.0 0 then Final else Next)
unfolding line_of
line-later before saved g n nine new follows fits =
    rw (new, le-ltb 9 g.remaining.0 nine, eq-eqb (g.remaining.0 + 1) before follows, le-ltb 2048 (saved + n) fits)

-- What it does

abbrev pub key_for : ℕ → Heading → List ℕ → List ℕ → Key
key_for association g o d =
    record { association = association; context = g.context; origin = address_of o; destination = address_of d; reference = g.reference }

module _ (t : Table) (store report : List ℕ) (association : ℕ) (s : List ℕ) (g : Heading) (o d info : List ℕ) (read : ReadsBack t.registry s g o d info)
    (good : sound t ≡ true) (long : store_least ≤ length store) (ample : record_length ≤ length report) where
  abbrev pub fields : Fields
  fields =
      record { heading = g; origin = (fields_of t.registry s).origin; destination = (fields_of t.registry s).destination; information = (fields_of t.registry s).information }

  key-is : key_of association s (fields_of t.registry s) ≡ key_for association g o d
  key-is =
      λ i. record {
        association = association;
        context = (read.heading i).context;
        origin = read.origin i;
        destination = read.destination i;
        reference = (read.heading i).reference;
      }

  abbrev at : Key → Heading → List ℕ → Line
  at k h l = line_at t k h (length l)

  abbrev did : Key → Heading → List ℕ → Reception
  did k h l =
      reception_of t report
      (effect_of (at k h l) t store k
      (record { heading = h; origin = (fields_of t.registry s).origin; destination = (fields_of t.registry s).destination; information = (fields_of t.registry s).information })
      l (place_of k t.places) (place_at t.places (place_of k t.places)) (lowest_free t.places))

  received_is : received_at t store report association s ≡ did (key_for association g o d) g info
  received_is = λ i. did (key-is i) (read.heading i) (read.information i)

  accepts : (is_start (at (key_for association g o d) g info) && not (is_at (lowest_free t.places))) ≡ false
      → accepted (segment_checks t store report association s) ≡ true
  unfolding segment_checks
  accepts e =
      let front : List Check = lent_checks record_length (sound t) (length store) (length report) in
      let one : accepted front ≡ true = rw (good, le-ltb (length store) store_least long, le-ltb (length report) record_length ample) in
      let same : at (key_of association s (fields_of t.registry s)) (fields_of t.registry s).heading (drop (fields_of t.registry s).information s)
      ≡ at (key_for association g o d) g info = λ i. at (key-is i) (read.heading i) (read.information i) in
      both-accepted front (own_checks t association s) one (accepted-append (reading_checks t.registry s) _ ∙ rw (read.accepted, same, e))

  -- neither the summary's soundness nor its room refuses it
  module _ (m : List ℕ) (sums : summary_sound m t.places ≡ true)
      (counts : accepted (row_checks m association ++ total_checks m (segment_sums t m store report association s)) ≡ true) where
    accepts-with : accepted (segment_checks t store report association s) ≡ true → accepted (segment_checks_with t m store report association s) ≡ true
    unfolding segment_checks_with
    accepts-with e =
        let last : List Check = row_checks m association ++ total_checks m (segment_sums t m store report association s) in
        accepted-append (summary_checks m t.places) (segment_checks t store report association s ++ last)
        ∙ rw (sums, accepted-append (segment_checks t store report association s) last, e) counts

    pub arrives : (place free : Option ℕ) → place_of (key_for association g o d) t.places ≡ place → lowest_free t.places ≡ free → (l : Line)
        → line_of (is_at place) (place_at t.places place).remaining.0 (place_at t.places place).octets g (length info) ≡ l → (is_start l && not (is_at free)) ≡ false
        → (segment_with t m store report association s).call
        ≡ reception_of t report (effect_of l t store (key_for association g o d) fields info place (place_at t.places place) free)
    arrives place free there open_is l line starts =
        let by : Option ℕ → Line = λ f. line_of (is_at f) (place_at t.places f).remaining.0 (place_at t.places f).octets g (length info) in
        let same : at (key_for association g o d) g info ≡ l = ap by there ∙ line in
        segment-is t m store report association s (accepts-with (accepts (rw (same, open_is) starts))) ∙ received_is
        ∙ (λ i. reception_of t report (effect_of (same i) t store (key_for association g o d) fields info (there i) (place_at t.places (there i)) (open_is i)))

-- Its own place after it, and what is saved there

pub joined_back : (store : List ℕ) (m at : ℕ) (saved info : List ℕ) → at ≡ length saved → take (length saved) (drop (place_start m) store) ≡ saved
    → place_start m + length saved + length info ≤ length store
    → take (length (saved ++ info)) (drop (place_start m) (save_at store m at info)) ≡ saved ++ info
joined_back store m at saved info e held fits =
    rw (
      e,
      length-append saved info,
      take-add (length saved) (length info) (drop (place_start m) (splice store (place_start m + length saved) info)),
      splice-below (place_start m) (length saved) store (place_start m + length saved) info (omega arith),
      held,
      drop-drop (length saved) (place_start m) (splice store (place_start m + length saved) info),
      splice-back store (place_start m + length saved) info (omega arith),
    )

pub mine-first : (k : Key) (ps : List Place) (m : ℕ) (q : Place) → m < length ps → ((j : ℕ) → j < m → holds k (get_or ps j no_place) ≡ false) → holds k q ≡ true
    → IsFirst (holds k) (set ps m q) (Some m)
mine-first k ps m q inside before yours = (
  simp length-set inside,
  ap (holds k) (get_or-set_same ps m q no_place inside) ∙ yours,
  λ j l. ap (holds k) (get_or-set_other ps m j q no_place (λ e. omega arith)) ∙ before j l,
)

pub mine-kept : (k : Key) (ps : List Place) (m : ℕ) (q : Place) (store : List ℕ) (at : ℕ) (saved info : List ℕ) → m < length ps
    → ((j : ℕ) → j < m → holds k (get_or ps j no_place) ≡ false) → holds k q ≡ true
    → at ≡ length saved → take (length saved) (drop (place_start m) store) ≡ saved → place_start m + length saved + length info ≤ length store
    → Kept k m q (saved ++ info) (set ps m q) (save_at store m at info)
mine-kept k ps m q store at saved info inside before yours e held fits =
    record {
      first = mine-first k ps m q inside before yours;
      there = get_or-set_same ps m q no_place inside;
      stretch = joined_back store m at saved info e held fits;
    }

-- its record is read in the report area, and what it delivers in the store

pub one-reported : (r : Record) (report : List ℕ) → FilledKey r.key → record_length ≤ length report
    → take record_length (splice report 0 (records_octets (r ∷ []))) ≡ record_octets r
one-reported r report filled ample =
    let l = record-length r filled in
    let same : records_octets (r ∷ []) ≡ record_octets r = append-nil (record_octets r) in
    rw same (rw l at (splice-back report 0 (record_octets r) (omega arith)))

pub place-delivers : (store : List ℕ) (m n : ℕ) → m < 16 → n ≤ 2048 → 32768 ≤ length store → part_of_place store m n ≡ take n (drop (place_start m) store)
place-delivers store m n inside fits long =
    let whole : place_start m + n ≤ length store = omega arith in
    rw (lt-ltb m 16 inside, le-leb n 2048 fits, le-leb (place_start m + n) (length store) whole)
