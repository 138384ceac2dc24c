-- What follows: of any machine that meets demand 3 all is delivered in order, and of any machine nothing accepted is forgotten.
use Rattle.std.specs.Prelude.{if◌then◌else◌}
use Prim.Native.Nat.{ℕ, ◌+◌, ◌≤◌, ◌<◌}
use mathlib.Core.Path.{◌≡◌, refl, sym, ap, ◌∙◌}
use mathlib.Core.Bool.{Bool, true, false, not, and-false}
use mathlib.Core.List.{List, [], ◌∷◌, ◌++◌, map, append-nil, append_assoc}
use native.Mathlib.Omega.{arith}
use borrow.Author.Tests.{ne_eqb}
use lib.Dec.{eqb}
use lib.ListN.{length, length-append}
use Rattle.rules.specs.Refusals.{accepted}
use Rattle.rules.specs.Layout.{is_unsegmented, fields_of, reading_checks}
use Rattle.rules.specs.Records.{delivered, lost}
use Rattle.rules.specs.Places.{same_key}
use Rattle.rules.specs.Receiving.{information_of}
use Rattle.rules.specs.Lines.{octets_of}
use Rattle.rules.specs.Calls.{Call, Opens, Arrives, Ticks, Releases, Sends}
use Rattle.rules.specs.declared.Entry.{Entry}
use Rattle.rules.specs.declared.Key.{Key}
use Rattle.rules.specs.declared.Heading.{Heading}
use Rattle.rules.specs.declared.Record.{Record}
use Rattle.rules.specs.declared.Line.{Line}
use Rattle.rules.specs.declared.Line.TheVariants.{Unsegmented, Broken}
use Rattle.rules.proofs.Keys.{same-equal}
use Rattle.rules.proofs.Lines.{line-cases}
use Rattle.rules.proofs.Reading.{reference-short}
use Rattle.demands.specs.Machine.{Machine, All}
use Rattle.demands.specs.Seen.{Seen, run_of}
use Rattle.demands.specs.History.{Segment, Taken, Told, Cover, Deed, Begins, Takes, Passes, Ends, joined, is_none, last_remaining, remaining_of, filed, settled, covers_of, key_in, segment_in, line_in, is_restart, arrived, covers_in, left_in, cover_of, did, did_all, covers_by, records_in, records_of, records_by, EachDeed, counted, deeds_of, after, covers, EachIn, silence, Along}
use Rattle.demands.specs.Demand3.{Ending, ended, ending_of, endings_of, IsLost, Ruled, Counted, Fair, owed, Accounted, Demand3}
use Rattle.demands.specs.Follows.{Down, CountsDown, InOrder, Orderly, Billed, taken_of, covered_of, Rising, Complete, Unforgetting}
use Rattle.demands.proofs.Running.{either, arrival-either}
use Rattle.demands.proofs.Holding.{last_more, filed-same, filed-again}
use Rattle.demands.proofs.Accepting.{alone-reference}

-- NOTHING IS FORGOTTEN

-- one segment more of a key, for every key
abbrev more : Key → Segment → Key → List Segment
more k x k' = if same_key k k' then x ∷ [] else []

arrived-is : (u : Key → List Segment) (k : Key) (x : Segment) (k' : Key) → arrived u k x k' ≡ u k' ++ more k x k'
arrived-is u k x k' = go (same_key k k') refl
  where
    go : (b : Bool) → same_key k k' ≡ b → (if b then u k ++ (x ∷ []) else u k') ≡ u k' ++ (if b then x ∷ [] else [])
    go true e = rw (same-equal k k' e)
    go false e = sym (append-nil (u k'))

taken-append : (k : Key) (a b : List Taken) → taken_of k (a ++ b) ≡ taken_of k a ++ taken_of k b
taken-append k [] b = refl
taken-append k (x ∷ a) b = go (same_key x.key k) (taken-append k a b)
  where
    go : (c : Bool) → taken_of k (a ++ b) ≡ taken_of k a ++ taken_of k b
        → (if c then x.segment ∷ taken_of k (a ++ b) else taken_of k (a ++ b)) ≡ (if c then x.segment ∷ taken_of k a else taken_of k a) ++ taken_of k b
    go true e = rw e
    go false e = e

covered-append : (k : Key) (a b : List Cover) → covered_of k (a ++ b) ≡ covered_of k a ++ covered_of k b
covered-append k [] b = refl
covered-append k (c ∷ a) b = go (same_key c.made.key k) (covered-append k a b)
  where
    go : (same : Bool) → covered_of k (a ++ b) ≡ covered_of k a ++ covered_of k b
        → (if same then c.segments ++ covered_of k (a ++ b) else covered_of k (a ++ b)) ≡ (if same then c.segments ++ covered_of k a else covered_of k a) ++ covered_of k b
    go true e = rw e (sym (append_assoc c.segments (covered_of k a) (covered_of k b)))
    go false e = e

-- records take what they cover from what is uncovered, and no more
settled-all : (u : Key → List Segment) (rs : List Record) (k : Key) → covered_of k (covers_of u rs) ++ settled u rs k ≡ u k
settled-all u [] k = refl
settled-all u (r ∷ rs) k = go (same_key r.key k) refl (settled-all (filed u r.key []) rs k)
  where
    go : (b : Bool) → same_key r.key k ≡ b
        → covered_of k (covers_of (filed u r.key []) rs) ++ settled (filed u r.key []) rs k ≡ (if b then [] else u k)
        → (if b then u r.key ++ covered_of k (covers_of (filed u r.key []) rs) else covered_of k (covers_of (filed u r.key []) rs))
        ++ settled (filed u r.key []) rs k ≡ u k
    go true e q =
        append_assoc (u r.key) (covered_of k (covers_of (filed u r.key []) rs)) (settled (filed u r.key []) rs k)
        ∙ rw (q, append-nil) (ap u (same-equal r.key k e))
    go false e q = q

-- a segment that arrives is covered or uncovered, and so is all that was uncovered before it
left-all : (restart : Bool) (u : Key → List Segment) (k : Key) (x : Segment) (rs : List Record) (k' : Key)
    → covered_of k' (covers_in restart u k x rs) ++ left_in restart u k x rs k' ≡ u k' ++ more k x k'
left-all true u k x rs k' =
    rw (arrived-is (settled u rs) k x k')
    (sym (append_assoc (covered_of k' (covers_of u rs)) (settled u rs k') (more k x k')) ∙ rw (settled-all u rs k'))
left-all false u k x rs k' = settled-all (arrived u k x) rs k' ∙ arrived-is u k x k'

-- what is covered and uncovered after a deed is what was uncovered before it and what it took
abbrev Whole : Told → Type 0
Whole h = (k : Key) → taken_of k h.taken ≡ covered_of k h.covered ++ h.uncovered k

module _ (h : Told) (whole : Whole h) (k : Key) (taken : List Taken) (cs : List Cover) (l : List Segment) where
  goes_on : covered_of k cs ++ l ≡ h.uncovered k ++ taken_of k taken → taken_of k (h.taken ++ taken) ≡ covered_of k (h.covered ++ cs) ++ l
  goes_on e =
      taken-append k h.taken taken
      ∙ rw (whole k, covered-append k h.covered cs) (append_assoc (covered_of k h.covered) (h.uncovered k) (taken_of k taken)
      ∙ ap (λ (m : List Segment). covered_of k h.covered ++ m) (sym e)
      ∙ sym (append_assoc (covered_of k h.covered) (covered_of k cs) l))

did-whole : (h : Told) (d : Deed) → Whole h → Whole (did h d)
did-whole h (Begins o good) whole k = refl
did-whole h (Takes association s rs) whole k =
    goes_on h whole k _ _ _ (left-all (is_restart (line_in h association s)) h.uncovered (key_in h association s) (segment_in h s) rs k)
did-whole h (Passes time rs) whole k = goes_on h whole k [] _ _ (settled-all h.uncovered rs k ∙ sym (append-nil (h.uncovered k)))
did-whole h (Ends association rs) whole k = goes_on h whole k [] _ _ (settled-all h.uncovered rs k ∙ sym (append-nil (h.uncovered k)))

all_whole : (h : Told) (ds : List Deed) → Whole h → Whole (did_all h ds)
all_whole h [] whole = whole
all_whole h (d ∷ ds) whole = all_whole (did h d) ds (did-whole h d whole)

-- the number of the last segment; each call has a higher one
abbrev last_number : ℕ → List Taken → ℕ
last_number n [] = n
last_number n (x ∷ l) = last_number x.segment.number l

rising-more : (n : ℕ) (l : List Taken) (x : Taken) → Rising n l → last_number n l < x.segment.number → Rising n (l ++ (x ∷ []))
rising-more n [] x r b = (b, tt)
rising-more n (y ∷ l) x r b = (r.0, rising-more y.segment.number l x r.1 b)

number_more : (n : ℕ) (l : List Taken) (x : Taken) → last_number n (l ++ (x ∷ [])) ≡ x.segment.number
number_more n [] x = refl
number_more n (y ∷ l) x = number_more y.segment.number l x

record Numbered (n : ℕ) (l : List Taken) : Type 0 where
  rising : Rising 0 l
  last : last_number 0 l ≤ n

still-numbered : (n : ℕ) (l : List Taken) → Numbered n l → Numbered (n + 1) (l ++ [])
still-numbered n l h = rw append-nil (record { rising = h.rising; last = let b = h.last in omega arith })

after-numbered : (h : Told) (x : Seen) → Numbered h.number h.taken → Numbered (after h x).number (after h x).taken
unfolding after deeds_of
after-numbered h x n = go x.call
  where
    By : List Deed → Type 0
    By ds = Numbered (did_all (counted h) ds).number (did_all (counted h) ds).taken

    none : Numbered (h.number + 1) h.taken
    none = record { rising = n.rising; last = let b = n.last in omega arith }

    one : (t : Taken) → t.segment.number ≡ h.number + 1 → Numbered (h.number + 1) (h.taken ++ (t ∷ []))
    one t e =
        let b = n.last in
        record { rising = rising-more 0 h.taken t n.rising (omega arith); last = let q = number_more 0 h.taken t in omega arith }

    go : (c : Call) → Numbered (did_all (counted h) (deeds_of c x.answer)).number (did_all (counted h) (deeds_of c x.answer)).taken
    go (Opens y) = record { rising = tt; last = omega arith }
    go (Arrives y) =
        arrival-either By y x.answer (λ e. rw append-nil (one _ refl)) (λ e f. still-numbered h.number h.taken n) none
    go (Ticks y) = either By (eqb x.answer.refusal 0) _ (λ e. still-numbered h.number h.taken n) none
    go (Releases y) = either By (eqb x.answer.refusal 0) _ (λ e. still-numbered h.number h.taken n) none
    go (Sends y) = none

after-whole : (h : Told) (x : Seen) → Whole h → Whole (after h x)
unfolding after
after-whole h x whole = all_whole (counted h) (deeds_of x.call x.answer) whole

run-complete : (h : Told) (xs : List Seen) → Whole h → Numbered h.number h.taken → Along (λ (h : Told) (x : Seen). Complete (after h x)) h xs
run-complete h [] whole n = tt
run-complete h (x ∷ xs) whole n =
    let w = after-whole h x whole in
    let m = after-numbered h x n in
    (record { whole = w; rising = m.rising }, run-complete (after h x) xs w m)

pub unforgetting : (m : Machine) → Unforgetting m
unforgetting m = record { along = λ st o cs r. run-complete silence (run_of m st (Opens o ∷ cs)) (λ k. refl) (record { rising = tt; last = omega arith }) }

-- ALL IS DELIVERED IN ORDER

-- what no record covers of a sequence: it begins with a new segment, counts down by one, and more is to come
abbrev Falls : Segment → List Segment → Type 0
Falls x [] = Unit {0}
Falls x (y ∷ l) = (y.new ≡ false) × (y.remaining + 1 ≡ x.remaining) × Falls y l

abbrev Going : List Segment → Type 0
Going [] = Unit {0}
Going (x ∷ l) = (x.new ≡ true) × (1 ≤ last_remaining x l) × Falls x l

falls-more : (x : Segment) (l : List Segment) (y : Segment) → Falls x l → y.new ≡ false → y.remaining + 1 ≡ last_remaining x l → Falls x (l ++ (y ∷ []))
falls-more x [] y f n e = (n, e, tt)
falls-more x (z ∷ l) y f n e = (f.0, f.1, falls-more z l y f.2 n e)

falls_down : (x : Segment) (l : List Segment) → Falls x l → last_remaining x l ≡ 0 → Down x.remaining l
falls_down x [] f e = e
falls_down x (y ∷ l) f e = (f.0, f.1, falls_down y l f.2 e)

never : {A : Type 0} → ◌≡◌ {A = ℕ} 0 1 → A
never e = absurd (omega arith)

-- the segment that follows the last one
module _ (y : Segment) (new : y.new ≡ false) where
  next-going : (l : List Segment) → not (is_none l) ≡ true → y.remaining + 1 ≡ remaining_of l → 1 ≤ y.remaining → Going l → Going (l ++ (y ∷ []))
  next-going [] some e r g = never (cc)
  next-going (x ∷ l) some e r g = (g.0, rw (last_more x l y) r, falls-more x l y g.2 new e)

  final-down : (l : List Segment) → not (is_none l) ≡ true → y.remaining + 1 ≡ remaining_of l → y.remaining ≡ 0 → Going l → CountsDown (l ++ (y ∷ []))
  final-down [] some e r g = never (cc)
  final-down (x ∷ l) some e r g = (g.0, falls_down x (l ++ (y ∷ [])) (falls-more x l y g.2 new e) (last_more x l y ∙ r))

-- what no record covers of a key; of reference 255, nothing
record Tidy (k : Key) (l : List Segment) : Type 0 where
  going : Going l
  alone : k.reference.0 ≡ 255 → l ≡ []

abbrev AllTidy : (Key → List Segment) → Type 0
AllTidy u = (k : Key) → Tidy k (u k)

tidy-none : (k : Key) → Tidy k []
tidy-none k = record { going = tt; alone = λ e. refl }

tidy-filed : (u : Key → List Segment) (k : Key) (l : List Segment) → AllTidy u → Tidy k l → AllTidy (filed u k l)
tidy-filed u k l tidy new k' = go (same_key k k') refl
  where
    go : (b : Bool) → same_key k k' ≡ b → Tidy k' (if b then l else u k')
    go true e = rw (← same-equal k k' e) new
    go false e = tidy k'

tidy-settled : (u : Key → List Segment) (rs : List Record) → AllTidy u → AllTidy (settled u rs)
tidy-settled u [] tidy = tidy
tidy-settled u (r ∷ rs) tidy = tidy-settled (filed u r.key []) rs (tidy-filed u r.key [] tidy (tidy-none r.key))

fair-some : (c : Cover) (l : List Segment) → Counted c l → l ≡ [] → ⊥
fair-some c [] f e = f
fair-some c (x ∷ l) f e = never (cc)

-- a loss covers something, and so nothing of reference 255
lost-order : (u : Key → List Segment) (cause : ℕ) (rs : List Record) → AllTidy u → All (IsLost cause) rs → All Fair (covers_of u rs) → All InOrder (covers_of u rs)
lost-order u cause [] tidy l f = tt
lost-order u cause (r ∷ rs) tidy l f = (
  record { delivered = λ e. let q = l.0.kind in absurd (omega arith); alone = λ e. absurd (fair-some (record { made = r; segments = u r.key }) (u r.key) f.0 ((tidy r.key).alone e)) },
  lost-order (filed u r.key []) cause rs (tidy-filed u r.key [] tidy (tidy-none r.key)) l.1 f.1,
)

-- one record, and what it says
record One (k : Key) (kind : ℕ) (rs : List Record) : Type 0 where
  made : Record
  only : rs ≡ made ∷ []
  key : made.key ≡ k
  kinds : made.kind ≡ kind

one-record : (k : Key) (kind cause : ℕ) (rs : List Record) → map ending_of rs ≡ ended k kind cause ∷ [] → One k kind rs
one-record k kind cause [] e = never (cc)
one-record k kind cause (r ∷ []) e =
    let said : ending_of r ≡ ended k kind cause = cc in
    record { made = r; only = refl; key = ap (λ (x : Ending). x.key) said; kinds = ap (λ (x : Ending). x.kind) said }
one-record k kind cause (r ∷ r' ∷ rs) e = never (cc)

in_order : (r : Record) (kind : ℕ) (l : List Segment) → r.kind ≡ kind → (kind ≡ delivered → CountsDown l) → (r.key.reference.0 ≡ 255 → length l ≡ 1)
    → InOrder (record { made = r; segments = l })
in_order r kind l e down alone = record { delivered = λ d. down (sym e ∙ d); alone = alone }

-- of an accepted segment: what its records cover, and what none covers after it
record InPlace (u : Key → List Segment) (k : Key) (x : Segment) (restart : Bool) (rs : List Record) : Type 0 where
  covers : All InOrder (covers_in restart u k x rs)
  left : AllTidy (left_in restart u k x rs)

module _ (u : Key → List Segment) (tidy : AllTidy u) (k : Key) (x : Segment) where
  -- no record
  saved : (rs : List Record) → map ending_of rs ≡ [] → Tidy k (u k ++ (x ∷ [])) → InPlace u k x false rs
  saved [] e new = record { covers = tt; left = tidy-filed u k (u k ++ (x ∷ [])) tidy new }
  saved (r ∷ rs) e new = never (cc)

  -- a record of all of the key
  closed : (rs : List Record) (kind : ℕ) → One k kind rs
      → (kind ≡ delivered → CountsDown (u k ++ (x ∷ []))) → (k.reference.0 ≡ 255 → length (u k ++ (x ∷ [])) ≡ 1) → InPlace u k x false rs
  closed rs kind one down alone =
      rw one.only
      record {
        covers = (rw (one.key, filed-same u k (u k ++ (x ∷ []))) (in_order _ kind _ one.kinds down alone), tt);
        left = λ k'. rw (one.key, filed-again u k (u k ++ (x ∷ [])) [] k') (tidy-filed u k [] tidy (tidy-none k) k');
      }

  -- a record of what came before, and the segment after it
  renewed : (rs : List Record) → One k lost rs → (k.reference.0 ≡ 255 → ⊥) → Going (x ∷ []) → InPlace u k x true rs
  renewed rs one part new =
      rw one.only
      record {
        covers = (rw one.key (in_order _ lost _ one.kinds (λ e. absurd (omega arith)) (λ e. absurd (part e))), tt);
        left = λ k'.
            rw (one.key, filed-same u k [], filed-again u k [] (x ∷ []) k')
            (tidy-filed u k (x ∷ []) tidy (record { going = new; alone = λ e. absurd (part e) }) k');
      }

-- a parameter that is read and is not unsegmented has another reference than 255
module _ (registry : List Entry) (s : List ℕ) (e : accepted (reading_checks registry s) ≡ true) where
  abbrev g : Heading
  g = (fields_of registry s).heading

  part-reference : is_unsegmented g.new g.remaining.0 ≡ false → g.reference.0 ≡ 255 → ⊥
  unfolding fields_of
  part-reference a r = let short = reference-short registry s e a in omega arith

none_open : (l : List Segment) → not (is_none l) ≡ false → l ≡ []
none_open [] e = refl
none_open (y ∷ l) e = never (cc)

-- every line
module _ (h : Told) (tidy : AllTidy h.uncovered) (association : ℕ) (s : List ℕ) (rs : List Record) (read : accepted (reading_checks h.registry s) ≡ true) where
  abbrev u : Key → List Segment
  u = h.uncovered

  abbrev k : Key
  k = key_in h association s

  abbrev x : Segment
  x = segment_in h s

  abbrev For : Line → Type 0
  For line = map ending_of rs ≡ endings_of k line → InPlace u k x (is_restart line) rs

  not_first : x.new ≡ false → is_unsegmented x.new x.remaining ≡ false
  not_first e = rw e

  not_last : 1 ≤ x.remaining → is_unsegmented x.new x.remaining ≡ false
  not_last r = rw (ne_eqb x.remaining 0 (omega arith)) (and-false x.new)

  apart : is_unsegmented x.new x.remaining ≡ false → k.reference.0 ≡ 255 → ⊥
  apart = part-reference h.registry s read

  unsegmented : x.new ≡ true → x.remaining ≡ 0 → For Unsegmented
  unsegmented n r e =
      let none : u k ≡ [] = (tidy k).alone (alone-reference h.registry s read (rw (n, r))) in
      closed u tidy k x rs delivered (one-record k delivered 0 rs e) (λ d. rw none (n, r)) (λ d. rw none)

  broken : (cause : ℕ) → is_unsegmented x.new x.remaining ≡ false → For (Broken cause)
  broken cause a e = closed u tidy k x rs lost (one-record k lost cause rs e) (λ d. absurd (omega arith)) (λ r. absurd (apart a r))

  saves : is_unsegmented x.new x.remaining ≡ false → Going (u k ++ (x ∷ [])) → map ending_of rs ≡ [] → InPlace u k x false rs
  saves a new e = saved u tidy k x rs e (record { going = new; alone = λ r. absurd (apart a r) })

  each_line : For (line_in h association s)
  each_line =
      line-cases For (not (is_none (u k))) (remaining_of (u k)) (length (joined (u k))) (fields_of h.registry s).heading (length (information_of s (fields_of h.registry s)))
      record {
        unsegmented = unsegmented;
        beyond = λ r. broken 4 (not_last (omega arith));
        restart = λ n o r m e. renewed u tidy k x rs (one-record k lost 3 rs e) (apart (not_last r)) (n, r, tt);
        start = λ n o r m. saves (not_last r) (rw (none_open (u k) o) (n, r, tt));
        stray = λ n o m. broken 1 (not_first n);
        gap = λ n o m f. broken 2 (not_first n);
        over = λ n o m f l. broken 5 (not_first n);
        final = λ n o r f l e.
            closed u tidy k x rs delivered (one-record k delivered 0 rs e) (λ d. final-down x n (u k) o f r (tidy k).going) (λ d. absurd (apart (not_first n) d));
        next = λ n o r m f l. saves (not_first n) (next-going x n (u k) o f r (tidy k).going);
      }

-- every deed, and the deeds of a call
did-tidy : (h : Told) (d : Deed) → AllTidy h.uncovered → Ruled h d → AllTidy (did h d).uncovered
did-tidy h (Begins o good) tidy r = tidy-none
did-tidy h (Takes association s rs) tidy r = (each_line h tidy association s rs r.read r.ends).left
did-tidy h (Passes time rs) tidy r = tidy-settled h.uncovered rs tidy
did-tidy h (Ends association rs) tidy r = tidy-settled h.uncovered rs tidy

did-order : (h : Told) (d : Deed) → AllTidy h.uncovered → Ruled h d → All Fair (cover_of h d) → All InOrder (cover_of h d)
did-order h (Begins o good) tidy r f = tt
did-order h (Takes association s rs) tidy r f = (each_line h tidy association s rs r.read r.ends).covers
did-order h (Passes time rs) tidy r f = lost-order h.uncovered 6 rs tidy r f
did-order h (Ends association rs) tidy r f = lost-order h.uncovered 7 rs tidy r f

all_both : {A : Type 0} (P : A → Type 0) (a b : List A) → All P (a ++ b) → All P a × All P b
all_both P [] b h = (tt, h)
all_both P (x ∷ a) b h = let r = all_both P a b h.1 in ((h.0, r.0), r.1)

all_append : {A : Type 0} (P : A → Type 0) (a b : List A) → All P a → All P b → All P (a ++ b)
all_append P [] b h g = g
all_append P (x ∷ a) b h g = (h.0, all_append P a b h.1 g)

record Ordered (h : Told) (ds : List Deed) : Type 0 where
  covers : All InOrder (covers_by h ds)
  left : AllTidy (did_all h ds).uncovered

deeds-order : (h : Told) (ds : List Deed) → AllTidy h.uncovered → EachDeed Ruled h ds → All Fair (covers_by h ds) → Ordered h ds
deeds-order h [] tidy r f = record { covers = tt; left = tidy }
deeds-order h (d ∷ ds) tidy r f =
    let fair = all_both Fair (cover_of h d) (covers_by (did h d) ds) f in
    let later = deeds-order (did h d) ds (did-tidy h d tidy r.0) r.1 fair.1 in
    record { covers = all_append InOrder (cover_of h d) (covers_by (did h d) ds) (did-order h d tidy r.0 fair.0) later.covers; left = later.left }

call-order : (h : Told) (x : Seen) → AllTidy h.uncovered → Accounted h x → All InOrder (covers h x) × AllTidy (after h x).uncovered
unfolding covers after EachIn
call-order h x tidy a = let r = deeds-order (counted h) (deeds_of x.call x.answer) tidy a.ruled a.fair in (r.covers, r.left)

run-order : (h : Told) (xs : List Seen) → AllTidy h.uncovered → Along Accounted h xs → Along (λ (h : Told) (x : Seen). All InOrder (covers h x)) h xs
run-order h [] tidy a = tt
run-order h (x ∷ xs) tidy a = let r = call-order h x tidy a.0 in (r.0, run-order (after h x) xs r.1 a.1)

pub orderly : (m : Machine) → Demand3 m → Orderly m
orderly m d = record { along = λ st o cs r. run-order silence (run_of m st (Opens o ∷ cs)) tidy-none (d.along st o cs r) }

-- WHAT IS BILLED IS WHAT WAS HANDED OVER

abbrev made : Cover → Record
made c = c.made

made-covers : (u : Key → List Segment) (rs : List Record) → map made (covers_of u rs) ≡ rs
made-covers u [] = refl
made-covers u (r ∷ rs) = rw (made-covers (filed u r.key []) rs)

made_in : (restart : Bool) (u : Key → List Segment) (k : Key) (x : Segment) (rs : List Record) → map made (covers_in restart u k x rs) ≡ rs
made_in true u k x rs = made-covers u rs
made_in false u k x rs = made-covers (arrived u k x) rs

made-deed : (h : Told) (d : Deed) → map made (cover_of h d) ≡ records_of d
made-deed h (Begins o good) = refl
made-deed h (Takes association s rs) = made_in (is_restart (line_in h association s)) h.uncovered (key_in h association s) (segment_in h s) rs
made-deed h (Passes time rs) = made-covers h.uncovered rs
made-deed h (Ends association rs) = made-covers h.uncovered rs

made-append : (a b : List Cover) → map made (a ++ b) ≡ map made a ++ map made b
made-append [] b = refl
made-append (c ∷ a) b = rw (made-append a b)

made-deeds : (h : Told) (ds : List Deed) → map made (covers_by h ds) ≡ records_by ds
made-deeds h [] = refl
made-deeds h (d ∷ ds) = made-append (cover_of h d) (covers_by (did h d) ds) ∙ rw (made-deed h d, made-deeds (did h d) ds)

counted-octets : (c : Cover) (l : List Segment) → Counted c l → c.made.octets ≡ length (joined l)
counted-octets c [] f = absurd f
counted-octets c (x ∷ l) f = f.1

-- fair covers: as many octets as are owed
fair-owed : (cs : List Cover) → All Fair cs → octets_of delivered (map made cs) ≡ length (owed cs)
fair-owed [] f = refl
fair-owed (c ∷ cs) f = go (eqb c.made.kind delivered) (fair-owed cs f.1)
  where
    go : (b : Bool) → octets_of delivered (map made cs) ≡ length (owed cs)
        → (if b then c.made.octets else 0) + octets_of delivered (map made cs) ≡ length (if b then joined c.segments ++ owed cs else owed cs)
    go true e = let o = counted-octets c c.segments f.0 in let l = length-append (joined c.segments) (owed cs) in omega arith
    go false e = omega arith

call-billed : (h : Told) (x : Seen) → Accounted h x → octets_of delivered (records_in x.answer) ≡ length x.handed
unfolding covers
call-billed h x a =
    rw (a.recorded, a.handed, ← made-deeds (counted h) (deeds_of x.call x.answer)) (fair-owed (covers_by (counted h) (deeds_of x.call x.answer)) a.fair)

run-billed : (h : Told) (xs : List Seen) → Along Accounted h xs → Along (λ (h : Told) (x : Seen). octets_of delivered (records_in x.answer) ≡ length x.handed) h xs
run-billed h [] a = tt
run-billed h (x ∷ xs) a = (call-billed h x a.0, run-billed (after h x) xs a.1)

pub billed : (m : Machine) → Demand3 m → Billed m
billed m d = record { along = λ st o cs r. run-billed silence (run_of m st (Opens o ∷ cs)) (d.along st o cs r) }
