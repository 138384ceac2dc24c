-- A segment changes at most its own place's entry in the table, and of the store only the octets of the newly saved information.
use Rattle.std.specs.Prelude.{if◌then◌else◌, Option, Some, None}
use Prim.Native.Nat.{ℕ, suc, ◌+◌, ◌≤◌, ◌<◌}
use mathlib.Core.Path.{◌≡◌, refl, sym, ◌∙◌}
use mathlib.Core.Bool.{Bool, true, false}
use mathlib.Core.List.{List, [], ◌∷◌}
use native.Mathlib.Omega.{arith}
use lib.ListN.{length, get_or, set, length-set, length-drop}
use lib.Seq.{get_or-set_other}
use Rattle.octets.specs.Splice.{splice}
use Rattle.octets.proofs.Splice.{splice-length}
use Rattle.rules.specs.Numbers.{parameter_most, stretch_length, place_start}
use Rattle.rules.specs.Refusals.{accepted}
use Rattle.rules.specs.Layout.{fields_of}
use Rattle.rules.specs.Places.{no_place, place_of, lowest_free, is_at, number_of, place_at, put_place}
use Rattle.rules.specs.Receiving.{key_of, information_of, line_of, Effect, effect_of, Reception, received_at}
use Rattle.rules.specs.Summary.{segment_checks_with, segment_with}
use Rattle.rules.specs.declared.Key.{Key}
use Rattle.rules.specs.declared.Place.{Place}
use Rattle.rules.specs.declared.Table.{Table}
use Rattle.rules.specs.declared.Heading.{Heading}
use Rattle.rules.specs.declared.Fields.{Fields}
use Rattle.rules.specs.declared.Line.{Line}
use Rattle.rules.specs.declared.Line.TheVariants.{Unsegmented, Broken, Restart, Start, Final, Next}
use Rattle.rules.proofs.Answers.{segment-by, segment-accepted}
use Rattle.rules.proofs.Arrived.{line_for, arrived}
use Rattle.rules.proofs.Reading.{parameter-short}
use Rattle.rules.proofs.Lines.{line-cases}

-- the place that is a segment's own: its key's where the key is open, else the lowest free one
abbrev pub own_of : Option ℕ → Option ℕ → Option ℕ
own_of place vacant = if is_at place then place else vacant

abbrev pub own_place : Table → ℕ → List ℕ → Option ℕ
own_place t association s = own_of (place_of (key_of association s (fields_of t.registry s)) t.places) (lowest_free t.places)

-- of the table no other place's entry changes, and nothing beside the places
pub record OwnPlace (own : Option ℕ) (before after : Table) : Type 0 where
  pub others : (j : ℕ) → (own ≡ Some j → ⊥) → get_or after.places j no_place ≡ get_or before.places j no_place
  pub count : length after.places ≡ length before.places
  pub registry : after.registry ≡ before.registry
  pub timer : after.timer ≡ before.timer
  pub clock : after.clock ≡ before.clock

-- the lines that save the segment's information
abbrev pub saves : Line → Bool
saves Unsegmented = false
saves (Broken cause) = false
saves Restart = true
saves Start = true
saves Final = true
saves Next = true

-- how many octets of the sequence stand before it in the place's stretch: none where it begins one
abbrev pub saved_before : Line → Place → ℕ
saved_before Unsegmented p = 0
saved_before (Broken cause) p = 0
saved_before Restart p = 0
saved_before Start p = 0
saved_before Final p = p.octets
saved_before Next p = p.octets

-- where the information goes
abbrev pub from_of : Line → List Place → Option ℕ → ℕ
from_of line ps own = place_start (number_of own) + saved_before line (place_at ps own)

abbrev pub saved_from : Table → ℕ → List ℕ → ℕ
saved_from t association s = from_of (line_for t association s) t.places (own_place t association s)

-- index j is in the newly saved information: the segment is accepted, its line saves, and j is from there on among as many octets as the information has
pub record NewlySaved (t : Table) (m store report : List ℕ) (association : ℕ) (s : List ℕ) (j : ℕ) : Type 0 where
  pub carried : accepted (segment_checks_with t m store report association s) ≡ true
  pub saving : saves (line_for t association s) ≡ true
  pub from : saved_from t association s ≤ j
  pub until : j < saved_from t association s + length (information_of s (fields_of t.registry s))

-- of the store no octet outside changes
pub record OwnOctets (inside : ℕ → Type 0) (before after : List ℕ) : Type 0 where
  pub length : length after ≡ length before
  pub others : (j : ℕ) → (inside j → ⊥) → get_or after j 0 ≡ get_or before j 0

-- what stays of the places and of the store
record KeptPlaces (own : Option ℕ) (ps ps' : List Place) : Type 0 where
  others : (j : ℕ) → (own ≡ Some j → ⊥) → get_or ps' j no_place ≡ get_or ps j no_place
  count : length ps' ≡ length ps

record KeptOctets (saving : Bool) (from n : ℕ) (store store' : List ℕ) : Type 0 where
  count : length store' ≡ length store
  others : (j : ℕ) → (saving ≡ true → from ≤ j → j < from + n → ⊥) → get_or store' j 0 ≡ get_or store j 0

same-places : (own : Option ℕ) (ps : List Place) → KeptPlaces own ps ps
same-places own ps = record { others = λ j e. refl; count = refl }

put-places : (own : Option ℕ) (ps : List Place) (p : Place) → KeptPlaces own ps (put_place ps own p)
put-places (Some i) ps p = record { others = λ j e. get_or-set_other ps i j p no_place (λ q. e (rw q)); count = length-set ps i p }
put-places None ps p = same-places None ps

same-octets : (saving : Bool) (from n : ℕ) (store : List ℕ) → KeptOctets saving from n store store
same-octets saving from n store = record { count = refl; others = λ j h. refl }

splice-other : (xs : List ℕ) (at : ℕ) (ys : List ℕ) (j : ℕ) → (at ≤ j → j < at + length ys → ⊥) → get_or (splice xs at ys) j 0 ≡ get_or xs j 0
unfolding splice
splice-other xs at [] j h = refl
splice-other xs at (y ∷ ys) j h =
    splice-other (set xs at y) (suc at) ys j (λ a b. h (omega arith) (omega arith)) ∙ get_or-set_other xs at j y 0 (λ e. h (omega arith) (omega arith))

saved-octets : (from : ℕ) (octets store : List ℕ) → KeptOctets true from (length octets) store (splice store from octets)
saved-octets from octets store = record { count = splice-length store from octets; others = λ j h. splice-other store from octets j (h refl) }

never : {A : Type 0} → true ≡ false → A
never e = absurd (let z : ◌≡◌ {A = ℕ} 0 1 = cc in omega arith)

-- what stays where a line has this effect
abbrev Kept : List Place → List ℕ → List ℕ → Option ℕ → Line → Effect → Type 0
Kept ps store octets own line e = KeptPlaces own ps e.places × KeptOctets (saves line) (from_of line ps own) (length octets) store e.store

-- every line, at a key's place or where it has none
module _ (t : Table) (store : List ℕ) (key : Key) (f : Fields) (octets : List ℕ) (vacant : Option ℕ) where
  abbrev ps : List Place
  ps = t.places

  abbrev For : Option ℕ → Line → Type 0
  For place line = Kept ps store octets (own_of place vacant) line (effect_of line t store key f octets place (place_at ps place) vacant)

  alone : (place : Option ℕ) → For place Unsegmented
  unfolding effect_of
  alone place = (same-places _ ps, same-octets _ _ _ store)

  broken : (cause : ℕ) (place : Option ℕ) → For place (Broken cause)
  unfolding effect_of
  broken cause (Some i) = (put-places (Some i) ps _, same-octets _ _ _ store)
  broken cause None = (same-places _ ps, same-octets _ _ _ store)

  each_line : (place : Option ℕ) → For place (line_of (is_at place) (place_at ps place).remaining.0 (place_at ps place).octets f.heading (length octets))
  unfolding effect_of
  each_line (Some i) =
      line-cases (For (Some i)) true _ _ f.heading (length octets)
      record {
        unsegmented = λ n r. alone (Some i);
        beyond = λ r. broken 4 (Some i);
        restart = λ n o r m. (put-places (Some i) ps _, saved-octets _ octets store);
        start = λ n o r m. never o;
        stray = λ n o m. never o;
        gap = λ n o m e. broken 2 (Some i);
        over = λ n o m e l. broken 5 (Some i);
        final = λ n o r e l. (put-places (Some i) ps _, saved-octets _ octets store);
        next = λ n o r m e l. (put-places (Some i) ps _, saved-octets _ octets store);
      }
  each_line None =
      line-cases (For None) false _ _ f.heading (length octets)
      record {
        unsegmented = λ n r. alone None;
        beyond = λ r. broken 4 None;
        restart = λ n o r m. never (sym o);
        start = λ n o r m. (put-places vacant ps _, saved-octets _ octets store);
        stray = λ n o m. broken 1 None;
        gap = λ n o m e. never (sym o);
        over = λ n o m e l. never (sym o);
        final = λ n o r e l. never (sym o);
        next = λ n o r m e l. never (sym o);
      }

-- what is saved ends in the place's stretch
fits : (is_open : Bool) (before saved : ℕ) (g : Heading) (n : ℕ) (p : Place) → n ≤ parameter_most → (is_open ≡ true → p.octets ≡ saved)
    → saves (line_of is_open before saved g n) ≡ true → saved_before (line_of is_open before saved g n) p + n ≤ stretch_length
fits is_open before saved g n p short same =
    line-cases (λ (line : Line). saves line ≡ true → saved_before line p + n ≤ stretch_length) is_open before saved g n
    record {
      unsegmented = λ a r e. never (sym e);
      beyond = λ r e. never (sym e);
      restart = λ a o r m e. omega arith;
      start = λ a o r m e. omega arith;
      stray = λ a o m e. never (sym e);
      gap = λ a o m q e. never (sym e);
      over = λ a o m q l e. never (sym e);
      final = λ a o r q l e. let z = same o in omega arith;
      next = λ a o r m q l e. let z = same o in omega arith;
    }

own_open : (ps : List Place) (place vacant : Option ℕ) → is_at place ≡ true → (place_at ps (own_of place vacant)).octets ≡ (place_at ps place).octets
own_open ps (Some i) vacant e = refl
own_open ps None vacant e = never (sym e)

module _ (t : Table) (m store report : List ℕ) (association : ℕ) (s : List ℕ) where
  abbrev f : Fields
  f = fields_of t.registry s

  kept : let r : Reception = received_at t store report association s in
      KeptPlaces (own_place t association s) t.places r.answer.table.places
      × KeptOctets (saves (line_for t association s)) (saved_from t association s) (length (information_of s f)) store r.store
  kept = each_line t store (key_of association s f) f (information_of s f) (lowest_free t.places) (place_of (key_of association s f) t.places)

  pub own-place : OwnPlace (own_place t association s) t (segment_with t m store report association s).call.answer.table
  own-place =
      segment-by t m store report association s (λ (r : Reception). OwnPlace (own_place t association s) t r.answer.table)
      (λ e. record { others = kept.0.others; count = kept.0.count; registry = refl; timer = refl; clock = refl })
      (λ e. record { others = λ j h. refl; count = refl; registry = refl; timer = refl; clock = refl })

  pub own-octets : OwnOctets (NewlySaved t m store report association s) store (segment_with t m store report association s).call.store
  own-octets =
      segment-by t m store report association s (λ (r : Reception). OwnOctets (NewlySaved t m store report association s) store r.store)
      (λ e. record { length = kept.1.count; others = λ j h. kept.1.others j (λ a b c. h (record { carried = e; saving = a; from = b; until = c })) })
      (λ e. record { length = refl; others = λ j h. refl })

  -- the newly saved information is in the own place's stretch of the store
  pub own-stretch : (j : ℕ) → NewlySaved t m store report association s j
      → (place_start (number_of (own_place t association s)) ≤ j) × (j < place_start (number_of (own_place t association s)) + stretch_length)
  own-stretch j w =
      let place : Option ℕ = place_of (key_of association s f) t.places in
      let there : Place = place_at t.places place in
      let own : Place = place_at t.places (own_place t association s) in
      let short = parameter-short t.registry s (arrived t store report association s (segment-accepted t m store report association s w.carried).0.own).reading in
      let few = length-drop f.information s in
      let end : saved_before (line_for t association s) own + length (information_of s f) ≤ stretch_length =
      fits (is_at place) there.remaining.0 there.octets f.heading (length (information_of s f)) own (omega arith)
      (own_open t.places place (lowest_free t.places)) w.saving in
      (omega arith, omega arith)
