-- The steps of the segment call, one after the other, are its rule.
use Rattle.std.specs.Prelude.{Option, Some, Result, Ok, Err}
use Prim.Native.Nat.{ℕ, zero, suc, ◌≤◌}
use Rattle.rules.specs.Numbers.{data_most}
use mathlib.Core.Path.{◌≡◌, refl, sym, ap, ◌∙◌}
use mathlib.Core.Bool.{Bool, true, false, not, ◌&&◌, and-eq-true_iff, true≢false}
use mathlib.Core.List.{List, [], ◌∷◌, ◌++◌}
use native.Mathlib.Omega.{arith}
use lib.ListN.{length, get_or}
use Rattle.rules.specs.General.{every}
use Rattle.rules.specs.Refusals.{Check, unplaced, judged_at}
use Rattle.rules.specs.Layout.{is_unsegmented, fields_of, reading_checks}
use Rattle.rules.specs.Records.{record_length}
use Rattle.rules.specs.Places.{no_place, free_place, is_open, place_of, lowest_free, is_at, place_at}
use Rattle.rules.specs.Soundness.{free_sound, place_sound, sound}
use Rattle.rules.proofs.Held.{open_is, places-sound}
use Rattle.rules.proofs.Soundness.{open-parts, free-holds}
use Rattle.rules.specs.Receiving.{key_of, information_of, line_of, line_at, is_start, effect_of, Reception, reception_of, lent_checks, taking_checks, segment_checks, segment, unreceived}
use Rattle.rules.proofs.Refusals.{fault-append, fault-then}
use Rattle.param_read.specs.Reading.{reading}
use Rattle.rules.specs.declared.Key.{Key}
use Rattle.rules.specs.declared.Place.{Place}
use Rattle.rules.specs.declared.Table.{Table}
use Rattle.rules.specs.declared.Heading.{Heading}
use Rattle.rules.specs.declared.Fields.{Fields}
use Rattle.rules.specs.declared.Fault.{Fault}
use Rattle.rules.specs.declared.Line.{Line}
use Rattle.rules.specs.declared.Line.TheVariants.{Unsegmented, Broken, Restart, Start, Final, Next}
use Rattle.receive_lines.specs.Telling.{Tells}
use Rattle.octets.proofs.Splice.{splice-nil}
use Rattle.receive_perform.specs.Performing.{refused_with, records_in, saved_by, told_by, Fits, answer_of, Leads}
use Rattle.receive_perform.specs.declared.Verdict.{Verdict}
use Rattle.receive_carry.specs.Carried.{held_if, carried_at, Fit}
use Rattle.receive_carry.proofs.Stepping.{kept}
use Rattle.receive_carry.specs.declared.judged.Judged.{Judged}
use Rattle.table.specs.declared.Search.{Search}
use Rattle.table.specs.declared.Search.TheVariants.{Open, Vacant, Nowhere}
use Rattle.table.specs.Seeking.{place_in, is_found, open_in, is_nowhere, vacant_in}
use Rattle.receive_seek.specs.Seeking.{Seeks}
use Rattle.receive_seek.specs.declared.Sought.{Sought}
use Rattle.receive_segment.specs.Arrival.{arrival, OfVerdict}

pub leads-as : {o o' : Reception} {t : Table} {at : ℕ} {k : Key} {v : Verdict} {octets st rp : List ℕ} → o ≡ o' → Leads o t at k v octets st rp → Leads o' t at k v octets st rp
leads-as {o} {o'} {t} {at} {k} {v} {octets} {st} {rp} e l =
    record {
      answered = l.answered ∙ ap (λ (x : Reception). x.answer) e;
      stored = l.stored ∙ ap (λ (x : Reception). x.store) e;
      reported = l.reported ∙ ap (λ (x : Reception). x.report) e;
      made = l.made ∙ ap (λ (x : Reception). x.made) e;
    }

-- .. of octets that are the same
pub leads-of : {o : Reception} {t : Table} {at : ℕ} {k : Key} {v : Verdict} {octets octets' st rp : List ℕ} → octets ≡ octets' → Leads o t at k v octets st rp → Leads o t at k v octets' st rp
leads-of {o} {t} {at} {k} {v} {octets} {octets'} {st} {rp} e l =
    record { answered = l.answered; stored = ap (λ (x : List ℕ). saved_by v at x st) (sym e) ∙ l.stored; reported = l.reported; made = l.made }

-- a refusal writes back what the place holds, and nothing else
module _ (t : Table) (at : ℕ) (x : Fault) (k : Key) (held : Place) (v : Verdict) (there : held ≡ get_or t.places at no_place) (e : v ≡ refused_with x held) where
  pub refuses : (octets store report : List ℕ) → Leads (unreceived t store report x) t at k v octets store report
  refuses octets store report =
      record {
        answered = ap (answer_of t at) e ∙ rw (kept t.places at held there);
        stored = ap (λ (w : Verdict). saved_by w at octets store) e;
        reported = ap (λ (w : Verdict). told_by w k report) e ∙ splice-nil report 0;
        made = ap (λ (w : Verdict). records_in w k) e;
      }

  pub refused-fits : (store m : ℕ) → Fits v store m
  refused-fits store m = rw e tt

  pub refused-verdict : (store report association : ℕ) (s : List ℕ) → (x.number ≡ 0 → ⊥)
      → ((st rp : List ℕ) → length st ≡ store → length rp ≡ report → segment t st rp association s ≡ unreceived t st rp x)
      → OfVerdict t store report association s at k v
  refused-verdict store report association s real is =
      let why : v.refused ≡ Some x = rw e in
      record {
        leads = λ st rp a b. leads-as (sym (is st rp a b)) (refuses _ st rp);
        fits = refused-fits _ _;
        taken = λ z. cc;
        own = λ z. cc;
        some = λ y f z. let same : x ≡ y = cc in real (rw same z);
      }

-- where no sequence is open, what it would hold does not matter to the line
line-closed : (a b x y : ℕ) (g : Heading) (n : ℕ) → line_of false a x g n ≡ line_of false b y g n
unfolding line_of
line-closed a b x y g n = refl

line-alone : (is_open : Bool) (a x : ℕ) (g : Heading) (n : ℕ) → is_unsegmented g.new g.remaining.0 ≡ true → line_of is_open a x g n ≡ Unsegmented
unfolding line_of
line-alone is_open a x g n e = simp e

-- a line that touches places does the same by the one place that a segment is about
module _ (t : Table) (store : List ℕ) (key : Key) (f : Fields) (octets : List ℕ) (q : Search) (held : Place) (place vacant : Option ℕ) (p : Place)
    (ep : place ≡ open_in q) (eh : p ≡ held_if (is_found q) held) where
  effect_is : (line : Line) → (is_start line ≡ true → vacant ≡ Some (place_in q))
      → effect_of line t store key f octets (open_in q) (held_if (is_found q) held) (Some (place_in q)) ≡ effect_of line t store key f octets place p vacant
  unfolding effect_of
  effect_is Unsegmented free = refl
  effect_is (Broken cause) free = rw (ep, eh)
  effect_is Restart free = rw (ep, eh)
  effect_is Start free = rw (free refl)
  effect_is Final free = rw (ep, eh)
  effect_is Next free = rw (ep, eh)

saved-is : (ps : List Place) (q : Search) (held : Place) (place : Option ℕ) → place ≡ open_in q → held ≡ get_or ps (place_in q) no_place → place_at ps place ≡ held_if (is_found q) held
saved-is ps (Open at) held place e h = rw e (sym h)
saved-is ps (Vacant at) held place e h = rw e
saved-is ps Nowhere held place e h = rw e

-- what a search says of a key that is not open
nowhere-is : (q : Search) (vacant : Option ℕ) → vacant ≡ vacant_in q → is_found q ≡ false → is_nowhere q ≡ not (is_at vacant)
nowhere-is (Open at) vacant e h = absurd (true≢false h)
nowhere-is (Vacant at) vacant e h = rw e
nowhere-is Nowhere vacant e h = rw e

vacant-is : (q : Search) (vacant : Option ℕ) → vacant ≡ vacant_in q → is_found q ≡ false → is_nowhere q ≡ false → vacant ≡ Some (place_in q)
vacant-is (Open at) vacant e h n = absurd (true≢false h)
vacant-is (Vacant at) vacant e h n = e
vacant-is Nowhere vacant e h n = absurd (true≢false n)

-- a segment as its line is carried out
abbrev pub judged_of : Table → Fields → Sought → (held : Place) → ℕ → held.octets ≤ data_most → held.segments ≤ 9 → Judged
judged_of t f q held n a b =
    record { key = q.key; fields = f; held = held; clock = t.clock; search = q.search; length = n; octets_fit = a; segments_fit = b }

-- what the steps find of a segment
module _ (t : Table) (store report : List ℕ) (f : Fields) (octets : List ℕ) (q : Sought) (held : Place) (line : Line)
    (seeks : Seeks t q.key f.heading q) (there : held ≡ get_or t.places (place_in q.search) no_place)
    (el : line ≡ line_of (is_found q.search) held.remaining.0 held.octets f.heading (length octets)) (tells : Tells (is_found q.search) held.octets (length octets) line) where
  line-at : is_unsegmented f.heading.new f.heading.remaining.0 ≡ false → line ≡ line_at t q.key f.heading (length octets)
  line-at a = el ∙ go q.search (seeks.points a).open_at there
    where
      go : (r : Search) → place_of q.key t.places ≡ open_in r → held ≡ get_or t.places (place_in r) no_place
          → line_of (is_found r) held.remaining.0 held.octets f.heading (length octets) ≡ line_at t q.key f.heading (length octets)
      go (Open at) e h = rw (e, h)
      go (Vacant at) e h = rw e (line-closed held.remaining.0 free_place.remaining.0 held.octets free_place.octets f.heading (length octets))
      go Nowhere e h = rw e (line-closed held.remaining.0 free_place.remaining.0 held.octets free_place.octets f.heading (length octets))

  alone-line : is_unsegmented f.heading.new f.heading.remaining.0 ≡ true → line ≡ Unsegmented
  alone-line a = el ∙ line-alone (is_found q.search) held.remaining.0 held.octets f.heading (length octets) a

  -- a line that needs vacant is that of a key that is not open
  start-closed : is_start line ≡ true → is_found q.search ≡ false
  start-closed start = go line tells start
    where
      go : (l : Line) → Tells (is_found q.search) held.octets (length octets) l → is_start l ≡ true → is_found q.search ≡ false
      go Unsegmented z h = absurd (true≢false (sym h))
      go (Broken cause) z h = absurd (true≢false (sym h))
      go Restart z h = absurd (true≢false (sym h))
      go Start z h = z
      go Final z h = absurd (true≢false (sym h))
      go Next z h = absurd (true≢false (sym h))

  same-room : is_unsegmented f.heading.new f.heading.remaining.0 ≡ false → (is_start line && is_nowhere q.search) ≡ (is_start line && not (is_at (lowest_free t.places)))
  same-room a = go (is_start line) refl
    where
      go : (b : Bool) → is_start line ≡ b → (b && is_nowhere q.search) ≡ (b && not (is_at (lowest_free t.places)))
      go true start = let closed = start-closed start in nowhere-is q.search _ ((seeks.points a).free-at closed) closed
      go false start = refl

  free-at : is_unsegmented f.heading.new f.heading.remaining.0 ≡ false → (is_start line && is_nowhere q.search) ≡ false → is_start line ≡ true → lowest_free t.places ≡ Some (place_in q.search)
  free-at a e start = let closed = start-closed start in vacant-is q.search _ ((seeks.points a).free-at closed) closed (simp start at e)

  pub is-full : (is_start line && is_nowhere q.search) ≡ true → unreceived t store report (unplaced 10) ≡ arrival t store report q.key f octets
  unfolding arrival
  is-full e = go (is_unsegmented f.heading.new f.heading.remaining.0) refl
    where
      go : (b : Bool) → is_unsegmented f.heading.new f.heading.remaining.0 ≡ b → unreceived t store report (unplaced 10) ≡ arrival t store report q.key f octets
      go true a = absurd (true≢false (sym (simp (alone-line a) at e)))
      go false a = simp (rw (line-at a) at (sym (same-room a) ∙ e))

  pub is_carried : (n : ℕ) (fits : held.octets ≤ data_most) (few : held.segments ≤ 9) → (is_start line && is_nowhere q.search) ≡ false → carried_at line t store report (judged_of t f q held n fits few) octets ≡ arrival t store report q.key f octets
  unfolding carried_at arrival effect_of
  is_carried n fits few e = go (is_unsegmented f.heading.new f.heading.remaining.0) refl
    where
      go : (b : Bool) → is_unsegmented f.heading.new f.heading.remaining.0 ≡ b
          → carried_at line t store report (judged_of t f q held n fits few) octets ≡ arrival t store report q.key f octets
      go true a = rw (alone-line a, line-alone (is_at (place_of q.key t.places)) (place_at t.places (place_of q.key t.places)).remaining.0 (place_at t.places (place_of q.key t.places)).octets f.heading (length octets) a)
      go false a =
          let place : Option ℕ = place_of q.key t.places in
          let same = effect_is t store q.key f octets q.search held place (lowest_free t.places) (place_at t.places place)
          (seeks.points a).open_at (saved-is t.places q.search held place (seeks.points a).open_at there) line (free-at a e) in
          ap (reception_of t report) same ∙ rw (← line-at a) (simp (sym (same-room a) ∙ e))

every_get : {A : Type 0} (f : A → Bool) (l : List A) (d : A) (i : ℕ) → every f l ≡ true → f d ≡ true → f (get_or l i d) ≡ true
every_get f [] d i e h = h
every_get f (x ∷ l) d zero e h = ((and-eq-true_iff (f x) (every f l)).0 e).0
every_get f (x ∷ l) d (suc i) e h = every_get f l d i ((and-eq-true_iff (f x) (every f l)).0 e).1 h

-- what a place of a sound table holds
pub fit : (t : Table) (i : ℕ) → sound t ≡ true → Fit (get_or t.places i no_place)
unfolding free_sound
fit t i s =
    go (get_or t.places i no_place) (every_get (place_sound t.registry t.timer t.clock) t.places no_place i (places-sound t s) refl) (is_open (get_or t.places i no_place)) refl
  where
    go : (p : Place) → place_sound t.registry t.timer t.clock p ≡ true → (b : Bool) → is_open p ≡ b → Fit p
    go p ok true o =
        let all = open-parts t.registry t.timer t.clock p (open_is t.registry t.timer t.clock p ok o) in
        let count = all.count in
        let left = all.left in
        record { octets = all.octets; segments = omega arith }
    go p ok false o = let z = free-holds t.registry t.timer t.clock p ok o in record { octets = omega (arith, z.0); segments = omega (arith, z.1) }

-- after the first checks, reading; after reading, the arrival
abbrev pub after_reading : Table → List ℕ → List ℕ → ℕ → List ℕ → Result Fields Fault → Reception
after_reading t store report association s (Err x) = unreceived t store report x
after_reading t store report association s (Ok f) = arrival t store report (key_of association s f) f (information_of s f)

pub segment-is : (t : Table) (store report : List ℕ) (association : ℕ) (s : List ℕ) (n m : ℕ) → length store ≡ n → length report ≡ m → segment t store report association s
    ≡ judged_at (lent_checks record_length (sound t) n m) (unreceived t store report) (after_reading t store report association s (reading t.registry s))
unfolding segment segment_checks reading arrival
segment-is t store report association s n m a b =
    let f : Fields = fields_of t.registry s in
    let key : Key = key_of association s f in
    let line : Line = line_at t key f.heading (length (information_of s f)) in
    let areas : List Check = lent_checks record_length (sound t) (length store) (length report) in
    let reads : List Check = reading_checks t.registry s in
    let full : List Check = taking_checks line t.places in
    fault-append areas (reads ++ full) (unreceived t store report) _
    ∙ ap (λ (r : Reception). judged_at areas (unreceived t store report) r) (fault-append reads full (unreceived t store report) _ ∙ sym (fault-then (after_reading t store report association s) reads Err (Ok f)))
    ∙ rw (a, b)

-- .. of what reading answers where the first checks let a parameter be looked at
pub segment-read : (t : Table) (store report : List ℕ) (association : ℕ) (s : List ℕ) (n m : ℕ) → length store ≡ n → length report ≡ m → segment t store report association s
    ≡ after_reading t store report association s (judged_at (lent_checks record_length (sound t) n m) Err (reading t.registry s))
segment-read t store report association s n m a b =
    segment-is t store report association s n m a b
    ∙ sym (fault-then (after_reading t store report association s) (lent_checks record_length (sound t) n m) Err (reading t.registry s))
