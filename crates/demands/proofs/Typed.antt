-- The table after any call has what the types of its fields say.
use Rattle.std.specs.Prelude.{if◌then◌else◌, Option, Some, None}
use Prim.Native.Nat.{ℕ, zero, suc, ◌≤◌, ◌<◌, ◌^◌}
use mathlib.Core.Path.{◌≡◌, refl, ◌∙◌}
use mathlib.Core.Bool.{Bool, true, false}
use mathlib.Core.List.{List, [], ◌∷◌, map}
use native.Mathlib.Omega.{arith}
use lib.ListN.{length, set, replicate, length-set, length-map}
use Rattle.rules.specs.Numbers.{place_count, address_most}
use Rattle.rules.specs.Layout.{fields_of}
use Rattle.rules.specs.Places.{free_place, put_place}
use Rattle.rules.specs.Opening.{empty_table}
use Rattle.rules.specs.Registry.{entries_of}
use Rattle.rules.specs.Receiving.{key_of, effect_of, Reception}
use Rattle.rules.specs.Sweep.{freed_by, Sweeping, sweep, is_due}
use Rattle.rules.specs.Calls.{State, Arrival, Call, Opens, Arrives, Ticks, Releases, Sends, to_open, step}
use Rattle.rules.specs.declared.Entry.{Entry}
use Rattle.rules.specs.declared.Key.{Key}
use Rattle.rules.specs.declared.Place.{Place}
use Rattle.rules.specs.declared.Table.{Table}
use Rattle.rules.specs.declared.Fields.{Fields}
use Rattle.rules.specs.declared.Line.{Line}
use Rattle.rules.specs.declared.Line.TheVariants.{Unsegmented, Broken, Restart, Start, Final, Next}
use Rattle.rules.specs.declared.Opened.{Opened}
use Rattle.rules.proofs.Answers.{opened-by, segment-by, segment-accepted, clock-by, release-by}
use Rattle.rules.proofs.Reading.{origin-short, destination-short}
use Rattle.rules.proofs.Records.{filled-key}
use Rattle.rules.proofs.Arrived.{arrived}
use Rattle.demands.specs.Machine.{clocked_by, All, InRange, TypedPlace, Typed}
use Rattle.demands.proofs.Parts.{segmented, arrival-state}

-- places as their types say
abbrev TypedPlaces : List Place → Type 0
TypedPlaces ps = (length ps ≡ place_count) × All TypedPlace ps

free-typed : TypedPlace free_place
free-typed = record { addresses = record { origin = refl; destination = refl }; association = omega arith }

all_set : (ps : List Place) (i : ℕ) (p : Place) → TypedPlace p → All TypedPlace ps → All TypedPlace (set ps i p)
all_set [] i p h all = tt
all_set (q ∷ ps) zero p h all = (h, all.1)
all_set (q ∷ ps) (suc i) p h all = (all.0, all_set ps i p h all.1)

put_typed : (ps : List Place) (f : Option ℕ) (p : Place) → TypedPlace p → TypedPlaces ps → TypedPlaces (put_place ps f p)
put_typed ps (Some i) p h all = (length-set ps i p ∙ all.0, all_set ps i p h all.1)
put_typed ps None p h all = all

pub all-free : (n : ℕ) → All TypedPlace (replicate n free_place)
all-free zero = tt
all-free (suc n) = (free-typed, all-free n)

empty-typed : (entries : List Entry) (timer clock : ℕ) → Typed (empty_table entries timer clock)
empty-typed entries timer clock = record { count = refl; each = all-free place_count }

-- a place with the key of a segment whose addresses are within 20
key-typed : (association : ℕ) (s : List ℕ) (f : Fields) → association < 2 ^ 16 → f.origin.length ≤ address_most → f.destination.length ≤ address_most → (p : Place) → p.key ≡ key_of association s f → TypedPlace p
key-typed association s f a o d p e =
    record {
      addresses = rw e (filled-key association s f o d);
      association = rw e a;
    }

effect-typed : (line : Line) (t : Table) (store : List ℕ) (key : Key) (f : Fields) (octets : List ℕ) (place : Option ℕ) (p : Place) (vacant : Option ℕ)
    → ((q : Place) → q.key ≡ key → TypedPlace q) → TypedPlaces t.places → TypedPlaces (effect_of line t store key f octets place p vacant).places
unfolding effect_of
effect-typed Unsegmented t store key f octets place p vacant new h = h
effect-typed (Broken cause) t store key f octets place p vacant new h = put_typed t.places place _ free-typed h
effect-typed Restart t store key f octets place p vacant new h = put_typed t.places place _ (new _ refl) h
effect-typed Start t store key f octets place p vacant new h = put_typed t.places vacant _ (new _ refl) h
effect-typed Final t store key f octets place p vacant new h = put_typed t.places place _ free-typed h
effect-typed Next t store key f octets place p vacant new h = put_typed t.places place _ (new _ refl) h

freed-typed : (test : Place → Bool) (ps : List Place) → All TypedPlace ps → All TypedPlace (map (freed_by test) ps)
freed-typed test [] all = tt
freed-typed test (p ∷ ps) all = (go (test p), freed-typed test ps all.1)
  where
    go : (b : Bool) → TypedPlace (if b then free_place else p)
    go true = free-typed
    go false = all.0

sweep-typed : (test : Place → Bool) (cause time : ℕ) (t : Table) (report : List ℕ) → Typed t → Typed (sweep test cause time t report).answer.table
unfolding sweep
sweep-typed test cause time t report h = record { count = simp length-map h.count; each = freed-typed test t.places h.each }

pub typed-opened : (st : State) (registry : List ℕ) (timer time : ℕ) → Typed (step st (to_open registry timer time)).state.table
unfolding step
typed-opened st registry timer time =
    opened-by (λ (o : Opened). Typed o.table) registry timer time (λ e. empty-typed (entries_of registry) timer time) (λ e. empty-typed [] 0 0)

segment-typed : (st : State) (x : Arrival) → x.association < 2 ^ 16 → Typed st.table → Typed (segmented st x).state.table
segment-typed st x r h =
    let s : List ℕ = x.parameter in
    segment-by st.table st.summary st.store x.report x.association s (λ (o : Reception). Typed o.answer.table)
    (λ e.
    let own = (segment-accepted st.table st.summary st.store x.report x.association s e).0.own in
    let read = (arrived st.table st.store x.report x.association s own).reading in
    let new = key-typed x.association s (fields_of st.table.registry s) r (origin-short st.table.registry s read) (destination-short st.table.registry s read) in
    let all = effect-typed _ st.table st.store _ _ _ _ _ _ new (h.count, h.each) in
    record { count = all.0; each = all.1 })
    (λ e. h)

pub clocked-typed : (st : State) (x : Arrival) → Typed st.table → Typed (clocked_by st x).table
clocked-typed st x h = sweep-typed (is_due x.time st.table.timer) 6 x.time st.table x.report h

pub typed-kept : (st : State) (c : Call) → Typed st.table → InRange c → Typed (step st c).state.table
unfolding step
typed-kept st (Opens x) h r = typed-opened st x.registry x.timer x.time
typed-kept st (Arrives x) h r = arrival-state st x (λ (st : State). Typed st.table) h (λ e. clocked-typed st x h) (λ e f. segment-typed (clocked_by st x) x r.1 (clocked-typed st x h))
typed-kept st (Ticks x) h r =
    clock-by st.table st.summary x.report x.time (λ (o : Sweeping). Typed o.answer.table) (λ e. sweep-typed _ 6 x.time st.table x.report h) (λ e. h)
typed-kept st (Releases x) h r =
    release-by st.table st.summary x.report x.association (λ (o : Sweeping). Typed o.answer.table) (λ e. sweep-typed _ 7 st.table.clock st.table x.report h)
    (λ e. h)
typed-kept st (Sends x) h r = h
