-- TWO EXCHANGES BEHIND ONE GATEWAY: each one's segments spare the other's key, and of two free places each takes one at most.
use Rattle.std.specs.Prelude.{if◌then◌else◌, Option, Some, None}
use Prim.Native.Nat.{ℕ, zero, suc, ◌≤◌, ◌<◌}
use mathlib.Core.Path.{◌≡◌, refl, sym, ap, ◌∙◌, subst}
use mathlib.Core.Bool.{Bool, true, false, ◌||◌, and-eq-true_iff}
use mathlib.Core.List.{List}
use native.Mathlib.Omega.{arith}
use borrow.Author.Tests.{eqb-true, eqb-false, not-true}
use lib.Dec.{eqb}
use lib.ListN.{length, get_or}
use Rattle.rules.specs.Layout.{fields_of}
use Rattle.rules.specs.Places.{no_place, free_place, is_free, holds, place_of, lowest_free, is_at, number_of}
use Rattle.rules.specs.Receiving.{key_of}
use Rattle.rules.specs.Sweep.{sweep, is_due}
use Rattle.rules.specs.Calls.{State, Arrival, Call, step}
use Rattle.rules.specs.declared.Key.{Key}
use Rattle.rules.specs.declared.Place.{Place}
use Rattle.rules.proofs.Places.{IsFirst, place_is, free-is}
use Rattle.rules.proofs.Own.{own_of, own_place, own-place}
use Rattle.demands.specs.Machine.{ours, clocked_by, InRange, Typed}
use Rattle.demands.specs.Seen.{seen_by}
use Rattle.demands.specs.Demand2.{Shipment, count_in, segmented_in, segment_of, key_in, SparesTime, Spares, Slot, arrival_in, arrival_of, Comes, Saves, Returns, Ready, CanTake}
use Rattle.demands.specs.Demanded.{Underway, CanBeSent, Arrives as Arriving}
use Rattle.demands.specs.Exchanges.{OtherDestination, FreeAt, TwoFree, TakesNone, Crossing, stop, of_one, of_two, other, Exchanges}
use Rattle.demands.proofs.Parts.{arrival-state}
use Rattle.demands.proofs.Spared.{clash, freed-at}
use Rattle.demands.proofs.Typed.{clocked-typed, typed-kept}
use Rattle.demands.proofs.Return.{not-opening, ready-kept, ready-came, underway-clocked, all-facts, carries-all}

-- FREE PLACES

record OneFree (st : State) : Type 0 where
  place : ℕ
  inside : place < length st.table.places
  free : FreeAt st place

-- an arrival's clock work takes none
clock-free : (st : State) (y : Arrival) (p : ℕ) → FreeAt st p → FreeAt (clocked_by st y) p
unfolding sweep
clock-free st y p free = ap is_free (freed-at test refl st.table.places p) ∙ go (test (get_or st.table.places p no_place))
  where
    test : Place → Bool
    test = is_due y.time st.table.timer

    go : (b : Bool) → is_free (if b then free_place else get_or st.table.places p no_place) ≡ true
    go true = refl
    go false = free

can-take : (x : Shipment) (st : State) (at : Slot) → Typed st.table → OneFree st → CanTake x st at
can-take x st at typed o = go (lowest_free ps) (free-is ps) (is_at (place_of (key_in x) ps))
  where
    ps : List Place
    ps = (clocked_by st (arrival_in x 0 at)).table.places

    inside : o.place < length ps
    inside =
        let a = (clocked-typed st (arrival_in x 0 at) typed).count in
        let b = typed.count in
        let c = o.inside in
        omega arith

    go : (f : Option ℕ) → IsFirst is_free ps f → (b : Bool) → (b || is_at f) ≡ true
    go f h true = refl
    go (Some m) h false = refl
    go None h false = absurd (clash (clock-free st (arrival_in x 0 at) o.place o.free) (h o.place inside))

-- one for each first segment that is to come
record Room (i j : ℕ) (st : State) : Type 0 where
  one : i ≡ 0 → OneFree st
  two : j ≡ 0 → OneFree st
  both : i ≡ 0 → j ≡ 0 → TwoFree st

turned : {i j : ℕ} {st : State} → Room i j st → Room j i st
turned r = record { one = r.two; two = r.one; both = λ e f. r.both f e }

roomy : (st : State) → TwoFree st → Room 0 0 st
roomy st t =
    let one : OneFree st = record { place = t.one; inside = t.inside.0; free = t.free.0 } in
    record { one = λ e. one; two = λ e. one; both = λ e f. t }

module _ (st : State) (c : Call) (range : InRange c) (typed : Typed st.table) where
  abbrev st' : State
  st' = (step st c).state

  count : length st'.table.places ≡ length st.table.places
  count = (typed-kept st c typed range).count ∙ sym typed.count

  one_kept : TakesNone st st' → OneFree st → OneFree st'
  one_kept none o = record { place = o.place; inside = rw count o.inside; free = none o.place o.free }

  two-kept : TakesNone st st' → TwoFree st → TwoFree st'
  two-kept none t =
      record {
        one = t.one;
        two = t.two;
        apart = t.apart;
        inside = rw count t.inside;
        free = (none t.one t.free.0, none t.two t.free.1);
      }

  room-kept : (i j : ℕ) → TakesNone st st' → Room i j st → Room i j st'
  room-kept i j none r = record { one = λ e. one_kept none (r.one e); two = λ e. one_kept none (r.two e); both = λ e f. two-kept none (r.both e f) }

  -- a call that takes one place at most leaves one of two
  one_left : (own : Option ℕ) → ((p : ℕ) → (own ≡ Some p → ⊥) → FreeAt st p → FreeAt st' p) → TwoFree st → OneFree st'
  one_left own others t = go (eqb (number_of own) t.one) refl
    where
      go : (b : Bool) → eqb (number_of own) t.one ≡ b → OneFree st'
      go true e =
          record {
            place = t.two;
            inside = rw count t.inside.1;
            free = others t.two (λ q. t.apart (sym (eqb-true (number_of own) t.one e) ∙ ap number_of q)) t.free.1;
          }
      go false e =
          record {
            place = t.one;
            inside = rw count t.inside.0;
            free = others t.one (λ q. eqb-false (number_of own) t.one e (ap number_of q)) t.free.0;
          }

-- WHAT CAN BE SENT: how many segments it has, and the key that each is read with

several : (x : Shipment) → 1 < count_in x → segmented_in x ≡ true
several x more = go (segmented_in x) refl
  where
    go : (b : Bool) → segmented_in x ≡ b → b ≡ true
    go true e = refl
    go false e = let one : count_in x ≡ 1 = simp e in absurd (omega arith)

module _ (x : Shipment) (can : CanBeSent x) where
  whole-one : 1 ≡ count_in x → segmented_in x ≡ false
  whole-one one = not-true _ (sym (all-facts x can 0 (omega arith)).alone ∙ rw (sym one))

  own_key : (st : State) → Ready x st → (k : ℕ) → k < count_in x
      → key_of x.association (segment_of x k) (fields_of st.table.registry (segment_of x k)) ≡ key_in x
  own_key st r k under =
      let read = (all-facts x can k under).reads st.table.registry r.kind in
      λ i. record {
        association = x.association;
        context = (read.heading i).context;
        origin = read.origin i;
        destination = read.destination i;
        reference = (read.heading i).reference;
      }

-- ALONG THE CALLS

-- i segments of it have arrived: what a state holds of it until the last
record Standing (x : Shipment) (i : ℕ) (st : State) : Type 0 where
  ready : Ready x st
  held : 1 ≤ i → i < count_in x → Underway x i st

module _ (x : Shipment) (can : CanBeSent x) (st : State) where
  spared : (i : ℕ) (c : Call) → InRange c → Spares st (key_in x) c → Standing x i st → Standing x i (step st c).state
  spared i c range spares s =
      record {
        ready = ready-kept x st c (not-opening st (key_in x) c spares) range s.ready;
        held = λ one more. (carries-all st c range).spares x can i (s.held one more) spares;
      }

  -- its segment i
  module _ (at : Slot) where
    abbrev y : ℕ → Arrival
    y i = arrival_in x i at

    abbrev call : ℕ → Call
    call i = arrival_of x i at

    abbrev left : ℕ → State
    left i = (step st (call i)).state

    came : (i : ℕ) → Ready x st → Comes x st i at → Arriving (seen_by ours st (call i)) x
    came i r comes = (carries-all st (call i) (comes.range, r.carrier)).arrives x can

    came-later : (i : ℕ) → 1 ≤ i → i < count_in x → Comes x st i at → Standing x i st
        → (suc i < count_in x → Saves (step st (call i)).answer × Underway x (suc i) (left i)) × (suc i ≡ count_in x → Returns x (seen_by ours st (call i)))
    came-later i one under comes s = (came i s.ready comes).later (several x (omega arith)) i one under (s.held one under) at comes refl

    returns : (i : ℕ) → suc i ≡ count_in x → Comes x st i at → Standing x i st → Returns x (seen_by ours st (call i))
    returns zero last comes s = (came 0 s.ready comes).alone (whole-one x can last) s.ready at comes refl
    returns (suc i) last comes s = (came-later (suc i) (omega arith) (omega arith) comes s).1 last

    on : (i : ℕ) → Comes x st i at → (i ≡ 0 → OneFree st) → Standing x i st → Standing x (suc i) (left i)
    on i comes vacant s = record { ready = ready-came x st i at comes s.ready; held = λ one more. go i comes vacant s more }
      where
        go : (i : ℕ) → Comes x st i at → (i ≡ 0 → OneFree st) → Standing x i st → suc i < count_in x → Underway x (suc i) (left i)
        go zero comes vacant s more = ((came 0 s.ready comes).first (several x more) s.ready at comes (can-take x st at s.ready.typed (vacant refl)) refl).1
        go (suc i) comes vacant s more = ((came-later (suc i) (omega arith) (omega arith) comes s).0 more).1

    -- the place that it takes, after its clock work
    abbrev own : ℕ → Option ℕ
    own i = own_place (clocked_by st (y i)).table x.association (segment_of x i)

    others-free : (i p : ℕ) → (own i ≡ Some p → ⊥) → FreeAt st p → FreeAt (left i) p
    others-free i p apart free =
        let later = clock-free st (y i) p free in
        arrival-state st (y i) (λ (s : State). FreeAt s p) free (λ e. later)
        (λ e f. ap is_free ((own-place (clocked_by st (y i)).table (clocked_by st (y i)).summary st.store at.report x.association (segment_of x i)).others p apart) ∙ later)

    -- a later one's own place is open
    takes_none : (i : ℕ) → i < count_in x → Comes x st i at → Underway x i st → TakesNone st (left i)
    takes_none i under comes was p free =
        let u = underway-clocked x (all-facts x can) st (y i) i was comes.spares in
        let ps : List Place = (clocked_by st (y i)).table.places in
        let mine : own i ≡ Some u.place =
        ap (λ (k : Key). own_of (place_of k ps) (lowest_free ps)) (own_key x can (clocked_by st (y i)) u.ready i under) ∙ ap (λ (f : Option ℕ). own_of f (lowest_free ps)) u.there in
        let first = subst (IsFirst (holds (key_in x)) ps) u.there (place_is (key_in x) ps) in
        let taken = eqb-true (get_or ps u.place no_place).mark 1 ((and-eq-true_iff _ _).0 first.1).0 in
        let untaken = eqb-true (get_or ps p no_place).mark 0 (clock-free st (y i) p free) in
        others-free i p (λ e. let same = ap (λ (f : Option ℕ). (get_or ps (number_of f) no_place).mark) (sym mine ∙ e) in omega arith) free

    room-on : (i j : ℕ) → i < count_in x → Comes x st i at → Standing x i st → Room i j st → Room (suc i) j (left i)
    room-on i j under comes s r = record { one = λ e. absurd (omega arith); two = go i under comes s r; both = λ e f. absurd (omega arith) }
      where
        go : (i : ℕ) → i < count_in x → Comes x st i at → Standing x i st → Room i j st → j ≡ 0 → OneFree (left i)
        go zero under comes s r e = one_left st (call 0) (comes.range, s.ready.carrier) s.ready.typed (own 0) (others-free 0) (r.both refl e)
        go (suc i) under comes s r e =
            one_kept st (call (suc i)) (comes.range, s.ready.carrier) s.ready.typed (takes_none (suc i) under comes (s.held (omega arith) under)) (r.two e)

-- a segment of x is none of y's, and its clock work makes no record of it
beside : (x y : Shipment) → CanBeSent x → CanBeSent y → (key_in x ≡ key_in y → ⊥) → (st : State) (i j : ℕ) (at : Slot) → i < count_in x → Comes x st i at → SparesTime st (key_in y) (arrival_in x i at)
    → Ready x st → Standing y j st → Standing y j (step st (arrival_of x i at)).state
beside x y canx cany apart st i j at under comes spares r s =
    spared y cany st j (arrival_of x i at) (comes.range, r.carrier) (λ e. spares, λ accepted e. apart (sym (own_key x canx st r i under) ∙ e)) s

module _ (x y : Shipment) (canx : CanBeSent x) (cany : CanBeSent y) (differ : OtherDestination (key_in x) (key_in y)) where
  apart : key_in x ≡ key_in y → ⊥
  apart e = differ.destination (ap (λ (k : Key). k.destination) e)

  along : {st st' : State} {i j i' j' : ℕ} → Crossing ours x y st i j st' i' j' → Standing x i st → Standing y j st → Room i j st
      → Standing x i' st' × Standing y j' st'
  along stop a b r = (a, b)
  along (of_one {st} {st'} {i} {j} at under comes spares rest) a b r =
      along rest (on x canx st at i comes r.one a) (beside x y canx cany apart st i j at under comes spares a.ready b) (room-on x canx st at i j under comes a r)
  along (of_two {st} {st'} {i} {j} at under comes spares rest) a b r =
      along rest (beside y x cany canx (λ e. apart (sym e)) st j i at under comes spares b.ready a) (on y cany st at j comes r.two b)
      (turned (room-on y cany st at j i under comes b (turned r)))
  along (other {st} {st'} {i} {j} c range one two none rest) a b r =
      along rest (spared x canx st i c range one a) (spared y cany st j c range two b) (room-kept st c range a.ready.typed i j none r)

fresh : (x : Shipment) (st : State) → Ready x st → Standing x 0 st
fresh x st r = record { ready = r; held = λ one more. absurd (omega arith) }

pub exchanges : Exchanges ours
exchanges =
    record {
      both = λ x y canx cany differ st rx ry two st' i j calls at.
          (let all = along x y canx cany differ calls (fresh x st rx) (fresh y st ry) (roomy st two) in
          (λ last comes. returns x canx st' at i last comes all.0, λ last comes. returns y cany st' at j last comes all.1));
    }
