-- Laws of a sweep: which places are done at turn i, and what those left still give.
use Rattle.std.specs.Prelude.{if◌then◌else◌, Some}
use Prim.Native.Nat.{ℕ, zero, suc, ◌+◌, ◌*◌, ◌≤◌, ◌<◌}
use mathlib.Core.Path.{◌≡◌, refl, sym, ap, ◌∙◌}
use mathlib.Core.Bool.{Bool, true, false, ◌||◌}
use mathlib.Core.List.{List, [], ◌∷◌, map, append-nil}
use native.Mathlib.Nat.{le_of_suc-le-suc, not-suc-le-zero}
use native.Mathlib.Numerals.{add-one}
use native.Mathlib.Omega.{arith}
use lib.ListN.{length, drop, get_or, set, length-append, drop_of_length-le}
use lib.Seq.{set-get_or}
use Rattle.std.specs.List.{list_any}
use Rattle.octets.specs.Splice.{splice, Wrote}
use Rattle.octets.proofs.Splice.{splice-append, splice-length, splice-nil}
use Rattle.rules.specs.General.{those}
use Rattle.rules.specs.Numbers.{place_count}
use Rattle.rules.specs.Places.{no_place, free_place, first_from, is_at}
use Rattle.rules.specs.Records.{record_length, records_octets}
use Rattle.rules.specs.Sweep.{loss_of, freed_by, sweep}
use Rattle.rules.proofs.Lists.{left}
use Rattle.rules.specs.declared.Place.{Place}
use Rattle.rules.specs.declared.Swept.{Swept}
use Rattle.rules.specs.declared.Table.{Table}
use Rattle.receive_sweep.specs.Sweeping.{Test, test_of, cause_of, losses, swept_by}

-- where no place passes a test
pub none-those : (test : Place → Bool) (ps : List Place) (i : ℕ) → is_at (first_from test ps i) ≡ false → (those test ps ≡ []) × (map (freed_by test) ps ≡ ps)
none-those test [] i e = (refl, refl)
none-those test (p ∷ ps) i e = go (test p) refl e (none-those test ps (i + 1))
  where
    go : (b : Bool) → test p ≡ b → is_at (if b then Some i else first_from test ps (i + 1)) ≡ false
        → (is_at (first_from test ps (i + 1)) ≡ false → (those test ps ≡ []) × (map (freed_by test) ps ≡ ps))
        → (those test (p ∷ ps) ≡ []) × (map (freed_by test) (p ∷ ps) ≡ p ∷ ps)
    go true t f more = let z : ◌≡◌ {A = ℕ} 0 1 = cc in absurd (omega arith)
    go false t f more = (rw (t, (more f).0), rw (t, (more f).1))

-- whether any passes is whether the first that does is at a place
pub any_placed : (test : Place → Bool) (ps : List Place) (i : ℕ) → list_any test ps ≡ is_at (first_from test ps i)
any_placed test [] i = refl
any_placed test (p ∷ ps) i = go (test p) (any_placed test ps (i + 1))
  where
    go : (b : Bool) → list_any test ps ≡ is_at (first_from test ps (i + 1)) → (b || list_any test ps) ≡ is_at (if b then Some i else first_from test ps (i + 1))
    go true e = refl
    go false e = e

-- l with f done to its first i elements
abbrev done : {A : Type 0} → (A → A) → ℕ → List A → List A
done f zero l = l
done f (suc i) [] = []
done f (suc i) (x ∷ l) = f x ∷ done f i l

done-suc : {A : Type 0} (f : A → A) (i : ℕ) (l : List A) (d : A) → i < length l → set (done f i l) i (f (get_or l i d)) ≡ done f (suc i) l
done-suc f i [] d h = absurd (not-suc-le-zero h)
done-suc f zero (x ∷ l) d h = refl
done-suc f (suc i) (x ∷ l) d h = ap (λ (t : List _). f x ∷ t) (done-suc f i l d (le_of_suc-le-suc h))

done_at : {A : Type 0} (f : A → A) (i : ℕ) (l : List A) (d : A) → get_or (done f i l) i d ≡ get_or l i d
done_at f zero l d = refl
done_at f (suc i) [] d = refl
done_at f (suc i) (x ∷ l) d = done_at f i l d

done-turn : {A : Type 0} (f : A → A) (i : ℕ) (l : List A) (d q : A) → i < length l → q ≡ f (get_or l i d) → set (done f i l) i q ≡ done f (i + 1) l
done-turn f i l d q h e = rw (e, add-one) (done-suc f i l d h)

-- nothing is stored where f leaves the element
done-same : {A : Type 0} (f : A → A) (i : ℕ) (l : List A) (d : A) → i < length l → get_or l i d ≡ f (get_or l i d) → done f i l ≡ done f (i + 1) l
done-same f i l d h e = sym (set-get_or (done f i l) i d) ∙ done-turn f i l d _ h (done_at f i l d ∙ e)

done_all : {A : Type 0} (f : A → A) (i : ℕ) (l : List A) → length l ≤ i → done f i l ≡ map f l
done_all f zero [] h = refl
done_all f (suc i) [] h = refl
done_all f zero (x ∷ l) h = absurd (not-suc-le-zero h)
done_all f (suc i) (x ∷ l) h = ap (λ (t : List _). f x ∷ t) (done_all f i l (le_of_suc-le-suc h))

-- a sweep of the places ps at turn i: those before i are done, and what those from i on give is still to be counted and written
pub record Sofar (which : Test) (ps : List Place) (whole : List ℕ) (i n : ℕ) (now : List Place) (report : List ℕ) : Type 0 where
  pub size : length ps ≡ place_count
  pub inside : i ≤ place_count
  pub few : n ≤ i
  pub area : length report ≡ length whole
  pub places : now ≡ done (freed_by (test_of which)) i ps
  pub counted : n + length (losses which (drop i ps)) ≡ length (losses which ps)
  pub sized : record_length * n + length (records_octets (losses which (drop i ps))) ≡ length (records_octets (losses which ps))
  pub written : splice report (record_length * n) (records_octets (losses which (drop i ps))) ≡ splice whole 0 (records_octets (losses which ps))

module _ {which : Test} {ps : List Place} {whole : List ℕ} {i n : ℕ} {now : List Place} {report : List ℕ} (s : Sofar which ps whole i n now report) where
  abbrev place : Place
  place = get_or ps i no_place

  -- the place at i is still the table's own
  place_is : get_or now i no_place ≡ place
  place_is = rw s.places (done_at (freed_by (test_of which)) i ps no_place)

  module _ (h : i < place_count) where
    here : i < length ps
    here = omega arith

    left-due : test_of which place ≡ true → losses which (drop i ps) ≡ loss_of (cause_of which) place ∷ losses which (drop (i + 1) ps)
    unfolding losses
    left-due e = rw (left ps no_place i here) (simp e)

    left-kept : test_of which place ≡ false → losses which (drop i ps) ≡ losses which (drop (i + 1) ps)
    unfolding losses
    left-kept e = rw (left ps no_place i here) (simp e)

    -- a turn that loses a place
    pub turn-due : test_of which (get_or now i no_place) ≡ true → (free : Place) → free ≡ free_place → (after : List ℕ)
        → Wrote report (record_length * n) (records_octets (loss_of (cause_of which) (get_or now i no_place) ∷ [])) after (record_length * (n + 1))
        → Sofar which ps whole (i + 1) (n + 1) (set now i free) after
    turn-due due free e after w =
        let d : test_of which place ≡ true = rw place_is at due in
        let v = rw (place_is, append-nil) at w in
        record {
          size = s.size;
          inside = omega arith;
          few = omega arith;
          area = rw (w.stored, splice-length) s.area;
          places = rw (s.places, done-turn (freed_by (test_of which)) i ps no_place free here (e ∙ simp d));
          counted = omega (arith, ap length (left-due d));
          sized = omega (arith, v.place, simp length-append at (rw (left-due d) at s.sized));
          written = rw (v.stored, v.place, ← splice-append) (rw (left-due d) at s.written);
        }

    -- a turn that leaves it, and puts it back as it was
    pub turn-left : test_of which (get_or now i no_place) ≡ false → Sofar which ps whole (i + 1) n (set now i (get_or now i no_place)) report
    turn-left due =
        let d : test_of which place ≡ false = rw place_is at due in
        record {
          size = s.size;
          inside = omega arith;
          few = omega arith;
          area = s.area;
          places = set-get_or now i no_place ∙ s.places ∙ rw (done-same (freed_by (test_of which)) i ps no_place here (simp d));
          counted = rw (← left-kept d) s.counted;
          sized = rw (← left-kept d) s.sized;
          written = rw (← left-kept d) s.written;
        }

  module _ (h : place_count ≤ i) where
    end : drop i ps ≡ []
    end = drop_of_length-le ps {i = i} (omega arith)

    pub all-counted : n ≡ length (losses which ps)
    unfolding losses
    all-counted = omega (arith, rw end at s.counted)

    pub all-freed : now ≡ map (freed_by (test_of which)) ps
    all-freed = s.places ∙ done_all (freed_by (test_of which)) i ps (omega arith)

    pub all-reported : report ≡ splice whole 0 (records_octets (losses which ps))
    unfolding losses
    all-reported = sym (splice-nil _ _) ∙ rw end at s.written

    pub all-sized : length (records_octets (losses which ps)) ≡ record_length * n
    unfolding losses
    all-sized = omega (arith, rw end at s.sized)

-- after the last turn
module _ {which : Test} (t : Table) {whole : List ℕ} {i n : ℕ} {now : List Place} {report : List ℕ} (s : Sofar which t.places whole i n now report) (h : place_count ≤ i) where
  pub all-answered : (time : ℕ) → ◌≡◌ {A = Swept} (record { table = record { places = now; registry = t.registry; timer = t.timer; clock = time }; refusal = 0; records = n })
      (swept_by which time t whole).answer
  unfolding sweep losses
  all-answered time = rw (all-counted s h, all-freed s h)
