-- TOTALS of the machine that the rules are: every call leaves the numbers that the log gives.
use Rattle.std.specs.Prelude.{if◌then◌else◌, Option, Some, None}
use Prim.Native.Nat.{ℕ, suc, ◌+◌, ◌*◌, ◌<◌}
use mathlib.Core.Path.{◌≡◌, refl, sym, ap, ◌∙◌}
use mathlib.Core.Bool.{Bool, true, false, not, ◌&&◌, ◌||◌, and-eq-true_iff, true≢false}
use mathlib.Core.List.{List, [], ◌∷◌, ◌++◌, map, append-nil, append_assoc}
use native.Mathlib.Omega.{arith}
use lib.Dec.{eqb}
use lib.ListN.{length}
use Rattle.rules.specs.General.{every, those}
use Rattle.rules.specs.Layout.{fields_of}
use Rattle.rules.specs.Records.{delivered, lost}
use Rattle.rules.specs.Places.{is_open, is_at}
use Rattle.rules.specs.Receiving.{information_of}
use Rattle.rules.specs.Sweep.{loss_of, losses_by}
use Rattle.rules.specs.Summary.{row_of, row_for, is_seated, took_at, took, column_of, bill_at, bill, billed, segment_sums, empty_summary}
use Rattle.rules.specs.Calls.{State, Call, Opens, Opening, step}
use Rattle.rules.specs.declared.Key.{Key}
use Rattle.rules.specs.declared.Place.{Place}
use Rattle.rules.specs.declared.Record.{Record}
use Rattle.rules.specs.declared.Line.{Line}
use Rattle.rules.specs.declared.Line.TheVariants.{Unsegmented, Broken, Restart, Start, Final, Next}
use Rattle.rules.proofs.Fitting.{column-within}
use Rattle.rules.proofs.Seats.{seats-of}
use Rattle.rules.proofs.Answers.{segment-accepted}
use Rattle.demands.specs.Machine.{ours, is_opening, All, InRange, SoundSummary}
use Rattle.demands.specs.Seen.{Seen, seen_by}
use Rattle.demands.specs.History.{Segment, Taken, Cover, Told, Takes, joined, filed, covers_of, key_in, segment_in, line_in, is_restart, arrived, covers_in, cover_of, did, deeds_of, after}
use Rattle.demands.specs.Demand3.{Ending, ending_of, endings_of, Ruled, Counted, Fair}
use Rattle.demands.specs.Totals.{is_among, with_one, associations_from, segments_taken, octets_taken, is_billed, segments_covered, octets_covered, totals_of, Totals}
use Rattle.demands.proofs.Columns.{each-column, zeros-at, are-columns}
use Rattle.demands.proofs.Rowed.{sums, sum, Rowed, row-found, row-there, seat-among, seat-rowed, extra, tally-rowed}
use Rattle.demands.proofs.Counted.{summary-emptied, summary-kept}
use Rattle.demands.proofs.Kept.{Inv, effect, inv-opened, inv-call}
use Rattle.demands.proofs.Doing.{Took, Swept, call_by}
use Rattle.demands.proofs.Running.{meets}

-- THE LOG GROWS by one segment or cover

pub segments-taken : (b : ℕ) (l : List Taken) (x : Taken) → segments_taken b (l ++ (x ∷ [])) ≡ segments_taken b l + (if eqb x.key.association b then 1 else 0)
segments-taken b [] x = omega arith
segments-taken b (y ∷ l) x = let e = segments-taken b l x in omega arith

pub octets-taken : (b : ℕ) (l : List Taken) (x : Taken) → octets_taken b (l ++ (x ∷ [])) ≡ octets_taken b l + (if eqb x.key.association b then length x.segment.octets else 0)
octets-taken b [] x = omega arith
octets-taken b (y ∷ l) x = let e = octets-taken b l x in omega arith

pub segments-covered : (kind b : ℕ) (l : List Cover) (k : Cover) → segments_covered kind b (l ++ (k ∷ [])) ≡ segments_covered kind b l + (if is_billed kind b k then length k.segments else 0)
segments-covered kind b [] k = omega arith
segments-covered kind b (c ∷ l) k = let e = segments-covered kind b l k in omega arith

pub octets-covered : (kind b : ℕ) (l : List Cover) (k : Cover)
    → octets_covered kind b (l ++ (k ∷ [])) ≡ octets_covered kind b l + (if is_billed kind b k then length (joined k.segments) else 0)
octets-covered kind b [] k = omega arith
octets-covered kind b (c ∷ l) k = let e = octets-covered kind b l k in omega arith

none_more : (x : ℕ) (b : Bool) → x ≡ x + (if b then 0 else 0)
none_more x true = omega arith
none_more x false = omega arith

taken-adds : (l : List Taken) (cs : List Cover) (x : Taken) (c b : ℕ) → c < 8
    → sum (l ++ (x ∷ [])) cs c b ≡ sum l cs c b + (if eqb x.key.association b then extra 2 1 (length x.segment.octets) c else 0)
taken-adds l cs x c b h =
    let own : Bool = eqb x.key.association b in
    each-column (λ c. sum (l ++ (x ∷ [])) cs c b ≡ sum l cs c b + (if own then extra 2 1 (length x.segment.octets) c else 0))
    (none_more _ own) (none_more _ own) (segments-taken b l x) (octets-taken b l x) (none_more _ own) (none_more _ own) (none_more _ own) (none_more _ own) c h

-- a record's kind is one of two
abbrev pub Kind : ℕ → Type 0
Kind n = n ≡ (if eqb n delivered then delivered else lost)

pub by_kind : (k : Cover) (b kind n : ℕ) → k.made.kind ≡ n → is_billed kind b k ≡ (eqb n kind && eqb k.made.key.association b)
by_kind k b kind n e = ap (λ (n : ℕ). eqb n kind && eqb k.made.key.association b) e

module _ (l : List Taken) (cs : List Cover) (k : Cover) (b : ℕ) where
  abbrev own : Bool
  own = eqb k.made.key.association b

  abbrev Adds : ℕ → ℕ → Type 0
  Adds column c = sum l (cs ++ (k ∷ [])) c b ≡ sum l cs c b + (if own then extra column (length k.segments) (length (joined k.segments)) c else 0)

  covered-adds : (d : Bool) → k.made.kind ≡ (if d then delivered else lost) → (c : ℕ) → c < 8 → Adds (if d then 4 else 6) c
  covered-adds true e =
      each-column (Adds 4) (none_more _ own) (none_more _ own) (none_more _ own) (none_more _ own)
      (rw (by_kind k b delivered _ e) at (segments-covered delivered b cs k))
      (rw (by_kind k b delivered _ e) at (octets-covered delivered b cs k))
      (omega (arith, rw (by_kind k b lost _ e) at (segments-covered lost b cs k), none_more 0 own))
      (omega (arith, rw (by_kind k b lost _ e) at (octets-covered lost b cs k), none_more 0 own))
  covered-adds false e =
      each-column (Adds 6) (none_more _ own) (none_more _ own) (none_more _ own) (none_more _ own)
      (omega (arith, rw (by_kind k b delivered _ e) at (segments-covered delivered b cs k), none_more 0 own))
      (omega (arith, rw (by_kind k b delivered _ e) at (octets-covered delivered b cs k), none_more 0 own))
      (rw (by_kind k b lost _ e) at (segments-covered lost b cs k))
      (rw (by_kind k b lost _ e) at (octets-covered lost b cs k))

-- a segment that is taken
module _ (m l : List ℕ) (taken : List Taken) (covered : List Cover) (r : Rowed m l taken covered) (x : Taken) where
  abbrev a : ℕ
  a = x.key.association

  pub took-rowed : is_at (row_for m a) ≡ true → Rowed (took m a (length x.segment.octets)) (with_one l a) (taken ++ (x ∷ [])) covered × (is_among a (with_one l a) ≡ true)
  took-rowed row = go (row_for m a) refl row
    where
      go : (f : Option ℕ) → row_for m a ≡ f → is_at f ≡ true
          → Rowed (took_at m f a (length x.segment.octets)) (with_one l a) (taken ++ (x ∷ [])) covered × (is_among a (with_one l a) ≡ true)
      go (Some i) e t =
          let s = seat-rowed m l taken covered r a i e in (
            tally-rowed _ (with_one l a) taken covered s.rows 2 a i 1 (length x.segment.octets) (omega arith) (omega arith) s.place (taken ++ (x ∷ [])) covered (taken-adds taken covered x),
            seat-among a (with_one l a) i s.place,
          )
      go None e t = absurd (true≢false (sym t))

-- records that are billed
abbrev pub Billable : List ℕ → Record → Type 0
Billable l r = Kind r.kind × (is_among r.key.association l ≡ true)

pub counts_of : (k : Cover) (l : List Segment) → Counted k l → (k.made.segments ≡ length l) × (k.made.octets ≡ length (joined l))
counts_of k [] f = absurd f
counts_of k (x ∷ l) f = (f.0, f.1)

module _ (l : List ℕ) (taken : List Taken) where
  bill-rowed : (m : List ℕ) (covered : List Cover) (k : Cover) → Rowed m l taken covered → Fair k → Billable l k.made → Rowed (bill m k.made) l taken (covered ++ (k ∷ []))
  bill-rowed m covered k r f b = go (row_of m k.made.key.association) refl
    where
      n : (k.made.segments ≡ length k.segments) × (k.made.octets ≡ length (joined k.segments))
      n = counts_of k k.segments f

      go : (f : Option ℕ) → row_of m k.made.key.association ≡ f → Rowed (bill_at m f k.made) l taken (covered ++ (k ∷ []))
      go (Some i) e =
          let c = column-within k.made.kind in
          tally-rowed m l taken covered r (column_of k.made.kind) k.made.key.association i k.made.segments k.made.octets c.0 c.1
          (row-found m l taken covered r k.made.key.association i e) taken (covered ++ (k ∷ []))
          (λ c j h. rw (n.0, n.1) (covered-adds taken covered k j (eqb k.made.kind delivered) b.0 c h))
      go None e = absurd (row-there m l taken covered r k.made.key.association b.1 e)

  pub billed-rowed : (m : List ℕ) (covered : List Cover) (u : Key → List Segment) (rs : List Record) → Rowed m l taken covered → All Fair (covers_of u rs) → All (Billable l) rs
      → Rowed (billed m rs) l taken (covered ++ covers_of u rs)
  billed-rowed m covered u [] r f b = rw append-nil r
  billed-rowed m covered u (x ∷ rs) r f b =
      rw append_assoc at
      (billed-rowed (bill m x) (covered ++ (record { made = x; segments = u x.key } ∷ [])) (filed u x.key []) rs (bill-rowed m covered (record { made = x; segments = u x.key }) r f.0 b.0) f.1 b.1)

-- DEEDS

associations-more : (l : List ℕ) (xs : List Taken) (x : Taken) → associations_from l (xs ++ (x ∷ [])) ≡ with_one (associations_from l xs) x.key.association
associations-more l [] x = refl
associations-more l (y ∷ xs) x = associations-more (with_one l y.key.association) xs x

-- a summary has what a history tells
abbrev pub Counts : List ℕ → Told → Type 0
Counts m h = Rowed m (associations_from [] h.taken) h.taken h.covered

pub counts_all : (m : List ℕ) (h : Told) → Counts m h → m ≡ totals_of h
unfolding totals_of
counts_all m h r = are-columns (associations_from [] h.taken) r.few (sums h.taken h.covered) m r.size r.used r.bare ∙ simp append-nil

-- the records of a line are of its key
abbrev pub Proper : Key → Ending → Type 0
Proper k e = Kind e.kind × (e.key ≡ k)

pub line-proper : (k : Key) (line : Line) → All (Proper k) (endings_of k line)
line-proper k Unsegmented = ((refl, refl), tt)
line-proper k (Broken cause) = ((refl, refl), tt)
line-proper k Restart = ((refl, refl), tt)
line-proper k Start = tt
line-proper k Final = ((refl, refl), tt)
line-proper k Next = tt

proper-billable : (k : Key) (l : List ℕ) → is_among k.association l ≡ true → (rs : List Record) → All (Proper k) (map ending_of rs) → All (Billable l) rs
proper-billable k l e [] p = tt
proper-billable k l e (r ∷ rs) p = ((p.0.0, rw p.0.1 e), proper-billable k l e rs p.1)

module _ (m : List ℕ) (h : Told) (r : Counts m h) where
  takes-counts : (association : ℕ) (s : List ℕ) (rs : List Record) (n : ℕ) → n ≡ length (information_of s (fields_of h.registry s)) → is_at (row_for m association) ≡ true
      → Ruled h (Takes association s rs) → All Fair (cover_of h (Takes association s rs)) → Counts (billed (took m association n) rs) (did h (Takes association s rs))
  takes-counts association s rs n e row ruled fair =
      let x : Taken = record { key = key_in h association s; segment = segment_in h s } in
      let t = took-rowed m (associations_from [] h.taken) h.taken h.covered r x row in
      let good = proper-billable (key_in h association s) (with_one (associations_from [] h.taken) association) t.1 rs (rw ruled.ends (line-proper (key_in h association s) (line_in h association s))) in
      rw (e, associations-more [] h.taken x) (go (is_restart (line_in h association s)) fair t.0 good)
    where
      go : {m' l : List ℕ} {taken : List Taken} (restart : Bool) → All Fair (covers_in restart h.uncovered (key_in h association s) (segment_in h s) rs) → Rowed m' l taken h.covered
          → All (Billable l) rs → Rowed (billed m' rs) l taken (h.covered ++ covers_in restart h.uncovered (key_in h association s) (segment_in h s) rs)
      go true f t b = billed-rowed _ _ _ h.covered h.uncovered rs t f b
      go false f t b = billed-rowed _ _ _ h.covered (arrived h.uncovered (key_in h association s) (segment_in h s)) rs t f b

  swept-counts : (rs : List Record) → All Fair (covers_of h.uncovered rs) → All (Billable (associations_from [] h.taken)) rs
      → Rowed (billed m rs) (associations_from [] (h.taken ++ [])) (h.taken ++ []) (h.covered ++ covers_of h.uncovered rs)
  swept-counts rs f b = rw append-nil (billed-rowed _ _ m h.covered h.uncovered rs r f b)

  -- an open place's association has its row
  losses-billable : (test : Place → Bool) → ((p : Place) → test p ≡ true → is_open p ≡ true) → (cause : ℕ) (ps : List Place) → every (is_seated m) ps ≡ true
      → All (Billable (associations_from [] h.taken)) (losses_by test cause ps)
  losses-billable test opens cause [] e = tt
  losses-billable test opens cause (p ∷ ps) e = go (test p) refl (losses-billable test opens cause ps both.1)
    where
      both : (is_seated m p ≡ true) × (every (is_seated m) ps ≡ true)
      both = (and-eq-true_iff (is_seated m p) (every (is_seated m) ps)).0 e

      among : (f : Option ℕ) → row_of m p.key.association ≡ f → (not true || is_at f) ≡ true → is_among p.key.association (associations_from [] h.taken) ≡ true
      among (Some i) q s = seat-among _ _ i (row-found m _ h.taken h.covered r p.key.association i q)
      among None q s = absurd (true≢false (sym s))

      go : (b : Bool) → test p ≡ b → All (Billable (associations_from [] h.taken)) (losses_by test cause ps)
          → All (Billable (associations_from [] h.taken)) (map (loss_of cause) (if b then p ∷ those test ps else those test ps))
      go true q rest = ((refl, among (row_of m p.key.association) refl (rw (opens p q) at both.0)), rest)
      go false q rest = rest

-- CALLS

pub record Counting (st : State) (h : Told) : Type 0 where
  pub inv : Inv st h
  pub sound : SoundSummary st
  pub counts : Counts st.summary h

abbrev CountsIn : State → Told → Type 0
CountsIn st h = Counts st.summary h

takes : Took CountsIn
unfolding segment_sums
takes st h inv sums c x e ruled fair =
    takes-counts st.summary h c x.association x.parameter (effect st h inv x).records _ (rw inv.agrees.registry)
    (segment-accepted st.table st.summary st.store x.report x.association x.parameter e).1.row ruled fair

sweeps : Swept CountsIn
sweeps st h inv sums c test opens cause clock time ticks fair =
    swept-counts st.summary h c (losses_by test cause st.table.places) fair
    (losses-billable st.summary h c test opens cause st.table.places (seats-of st.summary st.table.places sums.sound))

pub counting-call : (st : State) (h : Told) → Counting st h → (c : Call) → InRange c → is_opening c ≡ false → Counting (step st c).state (after h (seen_by ours st c))
counting-call st h w c r o =
    record {
      inv = inv-call st h w.inv c r o;
      sound = summary-kept st c o r w.sound;
      counts = call_by CountsIn takes sweeps (λ st h c. c) st h w.inv w.sound w.counts c r o;
    }

empty-rowed : Rowed empty_summary [] [] []
unfolding empty_summary
empty-rowed =
    record {
      size = refl;
      few = omega arith;
      once = λ i j h. absurd (omega arith);
      used = λ c i h g. absurd (omega arith);
      bare = λ c i h g k. zeros-at 512 (64 * c + i);
      none = λ c a h g. each-column (λ c. sum [] [] (suc (suc c)) a ≡ 0) refl refl refl refl refl refl refl refl c (omega arith);
    }

pub counting-opened : (st : State) (h : Told) (x : Opening) → Counting (step st (Opens x)).state (after h (seen_by ours st (Opens x)))
unfolding step after deeds_of
counting-opened st h x = record { inv = inv-opened st h x; sound = summary-emptied st x; counts = empty-rowed }

pub totals : Totals ours
totals =
    meets (λ (h : Told) (x : Seen). x.left.summary ≡ totals_of (after h x)) Counting
    (λ st h x r. let n = counting-opened st h x in (counts_all _ _ n.counts, n))
    (λ st h w c r o. let n = counting-call st h w c r o in (counts_all _ _ n.counts, n))
