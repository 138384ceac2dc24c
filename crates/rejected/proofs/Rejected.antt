-- Every wrong machine breaks a demand, at a small trace: registry 01 00 03, 02 00 04; T 100; clock 0; association 9. A name without a number refutes the demand that
-- the machine was made to break; one with a number refutes that demand too.
use Rattle.std.specs.Prelude.{if◌then◌else◌}
use Prim.Native.Nat.{ℕ, zero, suc, ◌<◌, ◌^◌}
use native.Mathlib.Omega.{arith}
use mathlib.Core.Path.{◌≡◌, refl, sym, ap}
use mathlib.Core.Bool.{Bool, true, false, true≢false}
use mathlib.Core.List.{List, [], ◌∷◌, ◌++◌}
use lib.ListN.{length, get_or, set, replicate, length-replicate}
use Rattle.octets.specs.Splice.{splice}
use Rattle.rules.specs.General.{every, those}
use Rattle.rules.specs.Numbers.{elapsed, store_least, place_count, address_most}
use Rattle.rules.specs.Refusals.{Check, accepted}
use Rattle.rules.specs.Layout.{fields_of, reading_checks, parameter_octets}
use Rattle.rules.specs.Registry.{kind_of}
use Rattle.rules.specs.Records.{delivered, lost, address_of, record_octets, record_from}
use Rattle.rules.specs.Places.{same_address, same_key, is_free, place_of, lowest_free, free_place}
use Rattle.rules.specs.Soundness.{address_sound, open_sound, free_sound, sound}
use Rattle.rules.specs.Receiving.{line_of, effect_of, open_place}
use Rattle.rules.specs.Sweep.{sweep, is_due, clock_checks, release_checks}
use Rattle.rules.specs.Summary.{total_most, summary_length, row_count, total_count, summary_sound, fits, segment_sums, clock_checks_with, clock_with, release_checks_with, release_with, empty_summary}
use Rattle.rules.specs.Arrival.{arrival_least, whole_checks, part_checks, both_checks, arrival_checks, arrival, both_with}
use Rattle.rules.specs.Delivery.{delivery}
use Rattle.rules.specs.Opening.{no_entry, opening}
use Rattle.rules.specs.Sending.{segment_octets, sending_checks, sending}
use Rattle.rules.specs.Examples.{fresh}
use Rattle.rules.specs.Calls.{State, state_of, Opening, Call, Opens, Arrives, Ticks, Releases, Sends, Arrival, to_arrive, to_tick, to_release, Decided, Undecided, As, Answer, Outcome, after_arrival, step}
use Rattle.rules.proofs.Refusals.{fault-by}
use Rattle.rules.specs.declared.Entry.{Entry}
use Rattle.rules.specs.declared.Address.{Address}
use Rattle.rules.specs.declared.Key.{Key}
use Rattle.rules.specs.declared.Place.{Place}
use Rattle.rules.specs.declared.Table.{Table}
use Rattle.rules.specs.declared.Part.TheVariants.{OfStore}
use Rattle.rules.specs.declared.Decision.TheVariants.{Refused, Saved, Delivered, Lost}
use Rattle.demands.specs.Machine.{Machine, checks_of, clock_of, whole_of, CanCount, All, InRange, TypedPlace}
use Rattle.demands.specs.Seen.{Seen, seen_by, run_of}
use Rattle.demands.specs.History.{Told, deeds_of, after, covers, EachIn, silence, Along, Meets}
use Rattle.demands.specs.Demand1.{refused_outcome, Demand1}
use Rattle.demands.specs.Demand2.{Demand2, Shipment, Sender, sending_of, Sendable, count_in, key_in, SparesTime, Slot, arrival_in, arrival_of, Comes, Ready, RoundTrip, stop, mine}
use Rattle.demands.specs.Demanded.{CanBeSent}
use Rattle.demands.specs.Exchanges.{OtherDestination, TwoFree, stop as neither, of_one, of_two, Exchanges}
use Rattle.demands.specs.Demand3.{Demand3, Ending, View, held}
use Rattle.demands.specs.Timer.{Timer}
use Rattle.demands.specs.Release.{Release}
use Rattle.demands.specs.Totals.{totals_of, Totals}
use Rattle.demands.specs.Exactly.{Exactly, Bits, OfAddress, OfPlace, OfEntry, OfState, OfCall}
use Rattle.rejected.specs.Wrong
use Rattle.rejected.specs.Wrong.{joining, unchanged, checking, all_made, blaming, as_blamed, parting, as_parted, sweeping, emptying, as_ruled, as_summed}
use Rattle.rejected.specs.Wrong.{segment_first, undoes_clock, keeps_at22, starts_old, judges_room_first, own_first, claims_all}
use Rattle.demands.proofs.Parts.{taken_by, arrival-done}
use Rattle.demands.proofs.Refused.{step-refused}
use Rattle.rejected.specs.Wrong.{refuses, loses_all, forgets, saves_first, invents, invents_octets, never_refuses, takes_padded, blames_next, blames_always, swallows, hands_out_early, hands_out_more}
use Rattle.rejected.specs.Wrong.{loses_nothing, releases_nothing, records_sending, clears_registry, moves_timer, moves_clock}
use Rattle.rejected.specs.Wrong.{leaves_out, sets_spare, cuts_past, cuts_by_clock, writes_nonsense}
use Rattle.rejected.specs.Wrong.{compares_numbers, compares_filled, compares_numbers_to, compares_filled_to, passes_over, records_origin_twice, takes_highest, loses_empty, joins_over_gap, exchanges_causes, calls_it_delivered}
use Rattle.rejected.specs.Wrong.{drops_restart, counts_saved, tells_last, starts_anew, subtracts_plainly}
use Rattle.rejected.specs.Wrong.{counts_refused, bills_restart, forgets_releases, keeps_rows, gives_second, takes_parameter, misses_strays}

-- THE FRAMES of the errors, with nothing changed, are ours: so each machine differs by its error alone
either : (b : Bool) {o o' : Outcome} → (b ≡ true → o' ≡ o) → (if b then o' else o) ≡ o
either true h = h refl
either false h = refl

as-ours : (st : State) (c : Call) {o : Outcome} → (accepted (checks_of st c) ≡ true → o ≡ step st c) → (if accepted (checks_of st c) then o else step st c) ≡ step st c
as-ours st c h = either (accepted (checks_of st c)) h

abbrev joined-as-ours : State → Arrival → Outcome
joined-as-ours st x = after_arrival (both_with (clock_of st x) (taken_by st x))

pub joining-ours : (st : State) (c : Call) → (joining place_of lowest_free line_of unchanged).step st c ≡ step st c
joining-ours st (Opens x) = as-ours st (Opens x) (λ e. refl)
joining-ours st (Arrives x) = as-ours st (Arrives x) (λ e. arrival-done st x (λ (o : Outcome). joined-as-ours st x ≡ o) e refl)
joining-ours st (Ticks x) = as-ours st (Ticks x) (λ e. refl)
joining-ours st (Releases x) = as-ours st (Releases x) (λ e. refl)
joining-ours st (Sends x) = as-ours st (Sends x) (λ e. refl)

all_made_lem : (cs : List Check) → those all_made cs ≡ cs
all_made_lem [] = refl
all_made_lem (c ∷ cs) = rw (all_made_lem cs)

pub checking-ours : (st : State) (c : Call) → (checking all_made).step st c ≡ step st c
checking-ours st (Opens x) = refl
checking-ours st (Arrives x) =
    rw (all_made_lem (checks_of st (Arrives x)))
    (fault-by (λ (o : Outcome). o ≡ step st (Arrives x)) (checks_of st (Arrives x)) (refused_outcome st (Arrives x)) _
    (λ e. arrival-done st x (λ (o : Outcome). joined-as-ours st x ≡ o) e refl) (λ e. sym (step-refused st (Arrives x) e)))
checking-ours st (Ticks x) = refl
checking-ours st (Releases x) = refl
checking-ours st (Sends x) = refl

pub blaming-ours : (st : State) (c : Call) → (blaming as_blamed).step st c ≡ step st c
blaming-ours st (Opens x) = refl
blaming-ours st (Arrives x) = refl
blaming-ours st (Ticks x) = refl
blaming-ours st (Releases x) = refl
blaming-ours st (Sends x) = refl

pub parting-ours : (st : State) (c : Call) → (parting as_parted).step st c ≡ step st c
parting-ours st (Opens x) = refl
parting-ours st (Arrives x) = refl
parting-ours st (Ticks x) = refl
parting-ours st (Releases x) = refl
parting-ours st (Sends x) = refl

pub sweeping-ours : (st : State) (c : Call) → (sweeping is_due).step st c ≡ step st c
unfolding step clock_with clock_checks_with
sweeping-ours st (Opens x) = as-ours st (Opens x) (λ e. refl)
sweeping-ours st (Arrives x) = as-ours st (Arrives x) (λ e. refl)
sweeping-ours st (Ticks x) = as-ours st (Ticks x) (λ e. rw e)
sweeping-ours st (Releases x) = as-ours st (Releases x) (λ e. refl)
sweeping-ours st (Sends x) = as-ours st (Sends x) (λ e. refl)

pub sending-ours : (st : State) (c : Call) → (Wrong.sending as_ruled).step st c ≡ step st c
unfolding step sending
sending-ours st (Opens x) = as-ours st (Opens x) (λ e. refl)
sending-ours st (Arrives x) = as-ours st (Arrives x) (λ e. refl)
sending-ours st (Ticks x) = as-ours st (Ticks x) (λ e. refl)
sending-ours st (Releases x) = as-ours st (Releases x) (λ e. refl)
sending-ours st (Sends x) = as-ours st (Sends x) (λ e. simp e)

pub emptying-ours : (st : State) (c : Call) → (emptying (λ t. t)).step st c ≡ step st c
emptying-ours st (Opens x) = as-ours st (Opens x) (λ e. refl)
emptying-ours st (Arrives x) = as-ours st (Arrives x) (λ e. refl)
emptying-ours st (Ticks x) = as-ours st (Ticks x) (λ e. refl)
emptying-ours st (Releases x) = as-ours st (Releases x) (λ e. either (every is_free (step st (Releases x)).state.table.places) (λ e'. refl))
emptying-ours st (Sends x) = as-ours st (Sends x) (λ e. refl)

pub summing-ours : (st : State) (c : Call) → (Wrong.summing as_summed).step st c ≡ step st c
summing-ours st c = refl

-- THE TRACES
abbrev registry : List ℕ
registry = 1 ∷ 0 ∷ 3 ∷ 2 ∷ 0 ∷ 4 ∷ []

abbrev before : State
before = state_of fresh empty_summary (replicate store_least 0)

abbrev opening_at : ℕ → Opening
opening_at time = record { registry = registry; timer = 100; time = time }

-- a report area for an arrival, and for the clock and a release
abbrev all : List ℕ
all = replicate arrival_least 0

-- a segment of association 9 arrives at a time
abbrev comes_at : ℕ → List ℕ → Call
comes_at time s = to_arrive time 9 s all

-- keys of context 3 at association 9
abbrev key_with : ℕ → Key
key_with reference = record { association = 9; context = record { 0 = 3 }; origin = address_of []; destination = address_of []; reference = record { 0 = reference } }

-- an unsegmented parameter with one octet
abbrev alone : List ℕ
alone = 0x83 ∷ 0x80 ∷ 0xC0 ∷ 0xAA ∷ []

-- M12: the same in context 3 padded to two octets
abbrev padded : List ℕ
padded = 0x03 ∷ 0x80 ∷ 0x80 ∷ 0xC0 ∷ 0xAA ∷ []

-- M3: two octets in two segments, the first with instruction 1
abbrev m3 : List ℕ
m3 = 0x83 ∷ 0x81 ∷ 0x41 ∷ 0x85 ∷ 0xAA ∷ []

abbrev m4 : List ℕ
m4 = 0x83 ∷ 0x80 ∷ 0x00 ∷ 0x85 ∷ 0xBB ∷ []

-- after m3, one that does not count on
abbrev breaking : List ℕ
breaking = 0x83 ∷ 0x80 ∷ 0x03 ∷ 0x85 ∷ 0xBB ∷ []

-- two of three segments
abbrev first3 : List ℕ
first3 = 0x83 ∷ 0x80 ∷ 0x42 ∷ 0x85 ∷ 0xAA ∷ []

abbrev second3 : List ℕ
second3 = 0x83 ∷ 0x80 ∷ 0x01 ∷ 0x85 ∷ 0xBB ∷ []

-- the same with no octets
abbrev empty1 : List ℕ
empty1 = 0x83 ∷ 0x80 ∷ 0x42 ∷ 0x85 ∷ []

abbrev empty2 : List ℕ
empty2 = 0x83 ∷ 0x80 ∷ 0x01 ∷ 0x85 ∷ []

-- after empty1, one of no octets that does not count on
abbrev empty3 : List ℕ
empty3 = 0x83 ∷ 0x80 ∷ 0x00 ∷ 0x85 ∷ []

-- as in M11: first segments of one reference, from one address to another, and their keys
abbrev between : List ℕ → List ℕ → List ℕ
between o d = (0x84 ∷ 0x80 ∷ 0x41 ∷ 0x85 ∷ []) ++ (length o ∷ o) ++ (length d ∷ d) ++ (0xAA ∷ [])

abbrev key_between : List ℕ → List ℕ → Key
key_between o d = record { association = 9; context = record { 0 = 4 }; origin = address_of o; destination = address_of d; reference = record { 0 = 5 } }

-- the addresses 00 07, 07 00 and 07
abbrev a0007 : List ℕ
a0007 = 0 ∷ 7 ∷ []

abbrev a0700 : List ℕ
a0700 = 7 ∷ 0 ∷ []

abbrev a07 : List ℕ
a07 = 7 ∷ []

-- what a demand says of calls after an opening at a time, after one at 0, and of segments that arrive after that one
abbrev told : Machine → ℕ → Told
told m time = after silence (seen_by m before (Opens (opening_at time)))

abbrev opened : Machine → ℕ → State
opened m time = (m.step before (Opens (opening_at time))).state

calling-at : {d : Told → Seen → Type 0} {m : Machine} → Meets d m → (time : ℕ) → InRange (Opens (opening_at time)) → (cs : List Call) → All InRange cs
    → Along d (told m time) (run_of m (opened m time) cs)
calling-at d time range cs ranges = (d.along before (opening_at time) cs (range, ranges)).1

calling : {d : Told → Seen → Type 0} {m : Machine} → Meets d m → (cs : List Call) → All InRange cs → Along d (told m 0) (run_of m (opened m 0) cs)
calling d cs ranges = calling-at d 0 (omega arith) cs ranges

abbrev arrivals : List (List ℕ) → List Call
arrivals [] = []
arrivals (s ∷ l) = comes_at 0 s ∷ arrivals l

in-range : (l : List (List ℕ)) → All InRange (arrivals l)
in-range [] = tt
in-range (s ∷ l) = ((omega arith, omega arith), in-range l)

arriving : {d : Told → Seen → Type 0} {m : Machine} → Meets d m → (l : List (List ℕ)) → Along d (told m 0) (run_of m (opened m 0) (arrivals l))
arriving d l = calling d (arrivals l) (in-range l)

-- what a trace computes with, to be named on an `unfolding` line: the rules of the calls, and what is told of them
ruling : Unit {0}
unfolding opening whole_checks part_checks both_checks arrival_checks segment_sums arrival clock_checks clock_checks_with clock_with release_checks release_checks_with release_with sweep sending_checks sending segment_octets parameter_octets delivery step
ruling = tt

summing : Unit {0}
unfolding row_count total_count empty_summary summary_sound fits
summing = tt

computing : Unit {0}
unfolding ruling summing sound open_sound free_sound reading_checks fields_of same_address same_key address_sound line_of effect_of elapsed splice record_octets record_from deeds_of after covers EachIn held
computing = tt

-- an octet of a list and of the area that was sent to, and a number of a list's first element
abbrev nth : ℕ → List ℕ → ℕ
nth i l = get_or l i 0

abbrev in_area : ℕ → Answer → ℕ
in_area i a = nth i a.lent.area

abbrev of_first : {A : Type 0} → (A → ℕ) → List A → ℕ
of_first f [] = 0
of_first f (x ∷ l) = f x

false≢true : false ≡ true → ⊥
false≢true e = true≢false (sym e)

all_replicate : {A : Type 0} (P : A → Type 0) (x : A) → P x → (n : ℕ) → All P (replicate n x)
all_replicate P x h zero = tt
all_replicate P x h (suc n) = (h, all_replicate P x h n)

-- WHAT IS SENT, by the context and its kind, both rooms, the destination and the data
abbrev cut : ℕ → ℕ → ℕ → List ℕ → List ℕ → Shipment
cut context kind room destination whole =
    record {
      request = record { context = record { 0 = context }; instruction = 1; reference = record { 0 = 5 }; room1 = room; room = room; number = 0 };
      origin = [];
      destination = destination;
      whole = whole;
      kind = kind;
      association = 9;
    }

-- rooms of 5 octets hold two octets of data in one segment, or one in each of several
abbrev two : Shipment
two = cut 3 1 5 [] (1 ∷ 2 ∷ [])

abbrev three : Shipment
three = cut 3 1 5 [] (1 ∷ 2 ∷ 3 ∷ [])

-- one octet to the destination 07
abbrev addressed : Shipment
addressed = cut 4 2 7 (7 ∷ []) (1 ∷ [])

-- from a table opened at a time, with an area of so many octets
abbrev sender : ℕ → ℕ → Sender
sender time n = record { state = state_of (opening registry 100 time).table empty_summary []; area = replicate n 0 }

two-sendable : (k : ℕ) → k < count_in two → Sendable two (sender 0 255) k
unfolding computing
two-sendable zero lt = record { kind = refl; good = refl }
two-sendable (suc k) lt = let z : ⊥ = omega arith in absurd z

three-sendable : (k : ℕ) → k < count_in three → Sendable three (sender 0 255) k
unfolding computing
three-sendable zero lt = record { kind = refl; good = refl }
three-sendable (suc zero) lt = record { kind = refl; good = refl }
three-sendable (suc (suc zero)) lt = record { kind = refl; good = refl }
three-sendable (suc (suc (suc k))) lt = let z : ⊥ = omega arith in absurd z

-- four octets in two segments to the destinations 07 and 08
abbrev to_one : Shipment
to_one = cut 4 2 9 (7 ∷ []) (1 ∷ 2 ∷ 3 ∷ 4 ∷ [])

abbrev to_two : Shipment
to_two = cut 4 2 9 (8 ∷ []) (5 ∷ 6 ∷ 7 ∷ 8 ∷ [])

one-sendable : CanBeSent to_one
unfolding computing
one-sendable zero lt = (sender 0 255, record { kind = refl; good = refl })
one-sendable (suc zero) lt = (sender 0 255, record { kind = refl; good = refl })
one-sendable (suc (suc k)) lt = let z : ⊥ = omega arith in absurd z

other-sendable : CanBeSent to_two
unfolding computing
other-sendable zero lt = (sender 0 255, record { kind = refl; good = refl })
other-sendable (suc zero) lt = (sender 0 255, record { kind = refl; good = refl })
other-sendable (suc (suc k)) lt = let z : ⊥ = omega arith in absurd z

-- the receiver
ready : (x : Shipment) → kind_of before.table.registry x.request.context.0 ≡ x.kind → x.association < 2 ^ 16 → Ready x before
unfolding computing
ready x kind carrier =
    record {
      sound = refl;
      typed = record { count = refl; each = all_replicate TypedPlace free_place (record { addresses = record { origin = refl; destination = refl }; association = omega arith }) place_count };
      kind = kind;
      store = omega (arith, length-replicate {A = ℕ} store_least 0);
      summary = record { size = refl; sound = refl };
      carrier = carrier;
    }

-- segments that come at time 0
abbrev slot : Slot
slot = record { time = 0; report = all }

coming : (x : Shipment) (st : State) (k : ℕ) → accepted (whole_of st (arrival_in x k slot)) ≡ true → SparesTime st (key_in x) (arrival_in x k slot) → CanCount st (arrival_of x k slot) → Comes x st k slot
coming x st k timely spares counts = record { range = omega arith; timely = timely; spares = spares; counts = counts }

-- what Demand 2 says of two octets in one segment, and of three in three
trip2 : {m : Machine} → Demand2 m → RoundTrip m two before slot
unfolding computing
trip2 d = d.back two (λ k. sender 0 255) two-sendable before (ready two refl (omega arith)) slot (coming two before 0 refl tt refl)

trip3 : {m : Machine} → Demand2 m → RoundTrip m three before slot
unfolding computing
trip3 d = d.back three (λ k. sender 0 255) three-sendable before (ready three refl (omega arith)) slot (coming three before 0 refl tt refl)

-- the states that a machine leaves after the first and the second of three
abbrev first : Machine → State
first m = (m.step before (arrival_of three 0 slot)).state

abbrev second : Machine → State
second m = (m.step (first m) (arrival_of three 1 slot)).state

-- THE MACHINES
-- the first of three is not accepted
pub rejects-refuses : Demand2 refuses → ⊥
unfolding computing
rejects-refuses d = let z : ◌≡◌ {A = ℕ} 1 0 = ((trip3 d).first refl refl).accepted in omega arith

-- the first of three is not saved
pub rejects-loses_all : Demand2 loses_all → ⊥
unfolding computing
rejects-loses_all d = false≢true ((trip3 d).first refl refl).saved

-- the second of three makes a record
pub rejects-forgets : Demand2 forgets → ⊥
unfolding computing
rejects-forgets d = let z : ◌≡◌ {A = ℕ} 1 0 = (((trip3 d).later refl refl 1 (omega arith) before stop slot (coming three before 1 refl tt refl)).0 (omega arith)).records in omega arith

-- nothing is held of the first of two
pub rejects-forgets-3 : Demand3 forgets → ⊥
unfolding computing
rejects-forgets-3 d = let z : ◌≡◌ {A = ℕ} 0 1 = ap length ((arriving d (m3 ∷ [])).0.agrees.exact (key_with 5)) in omega arith

-- with the last of three, the second octet comes back as 0
pub rejects-saves_first : Demand2 saves_first → ⊥
unfolding computing
rejects-saves_first d =
    let z : ◌≡◌ {A = ℕ} 0 2 = ap (nth 1) (((trip3 d).later refl refl 2 (omega arith) (second saves_first) (mine slot (coming three (first saves_first) 1 refl tt refl) stop) slot (coming three (second saves_first) 2 refl tt refl)).1 refl).handed in
    omega arith

-- with the last of two, the second octet comes back as 0
pub rejects-saves_first-3 : Demand3 saves_first → ⊥
unfolding computing
rejects-saves_first-3 d = let z : ◌≡◌ {A = ℕ} 0 0xBB = ap (nth 1) (arriving d (m3 ∷ m4 ∷ [])).1.0.handed in omega arith

-- an unsegmented parameter counts two segments
pub rejects-invents : Demand3 invents → ⊥
unfolding computing
rejects-invents d = let z : ◌≡◌ {A = ℕ} 2 1 = (arriving d (alone ∷ [])).0.fair.0.0 in omega arith

-- an unsegmented parameter counts two segments, in octet 9 of its record
pub rejects-invents-2 : Demand2 invents → ⊥
unfolding computing
rejects-invents-2 d = let z : ◌≡◌ {A = ℕ} 2 1 = ap (nth 8) ((trip2 d).alone refl).reported in omega arith

-- an unsegmented parameter with one octet counts two
pub rejects-invents_octets : Demand3 invents_octets → ⊥
unfolding computing
rejects-invents_octets d = let z : ◌≡◌ {A = ℕ} 2 1 = (arriving d (alone ∷ [])).0.fair.0.1 in omega arith

-- an unsegmented parameter with two octets counts three, in octet 11 of its record
pub rejects-invents_octets-2 : Demand2 invents_octets → ⊥
unfolding computing
rejects-invents_octets-2 d = let z : ◌≡◌ {A = ℕ} 3 2 = ap (nth 10) ((trip2 d).alone refl).reported in omega arith

-- M1, the empty parameter, is accepted where the rules refuse it with 5
pub rejects-never_refuses : Demand1 never_refuses → ⊥
unfolding computing
rejects-never_refuses d = let z : ◌≡◌ {A = ℕ} 0 5 = (d.every before (comes_at 0 [])).number in omega arith

-- M12, the padded context 3, is accepted where the rules refuse it with 23
pub rejects-takes_padded : Demand1 takes_padded → ⊥
unfolding computing
rejects-takes_padded d = let z : ◌≡◌ {A = ℕ} 0 23 = (d.every before (comes_at 0 padded)).number in omega arith

-- octet 2 of M9 has extension 0: position 1, and not 2
pub rejects-blames_next : Demand1 blames_next → ⊥
unfolding computing
rejects-blames_next d = let z : ◌≡◌ {A = ℕ} 2 1 = (d.every before (comes_at 0 (0x83 ∷ 0x00 ∷ []))).position in omega arith

-- an unsegmented parameter is taken, and no octet of it is at fault
pub rejects-blames_always : Demand1 blames_always → ⊥
unfolding computing
rejects-blames_always d = let z : ◌≡◌ {A = ℕ} 0 65535 = (d.every before (comes_at 0 alone)).position in omega arith

-- an unsegmented parameter is neither covered nor held
pub rejects-swallows : Demand3 swallows → ⊥
unfolding computing
rejects-swallows d = let z : ◌≡◌ {A = ℕ} 0 1 = ap length ((arriving d (alone ∷ [])).0.agrees.exact (key_with 255)) in omega arith

-- an unsegmented parameter has no record
pub rejects-swallows-2 : Demand2 swallows → ⊥
unfolding computing
rejects-swallows-2 d = let z : ◌≡◌ {A = ℕ} 0 1 = ((trip2 d).alone refl).records in omega arith

-- the first of two hands over the place's 2,048 octets
pub rejects-hands_out_early : Demand3 hands_out_early → ⊥
unfolding computing
rejects-hands_out_early d = let z : ◌≡◌ {A = ℕ} 2048 0 = ap length (arriving d (m3 ∷ [])).0.handed in omega arith

-- 4,096 octets of place 0 are asked for, and handed over
pub rejects-hands_out_more : Demand2 hands_out_more → ⊥
unfolding computing
rejects-hands_out_more d = let z : ◌≡◌ {A = ℕ} 4096 0 = ap length (d.delivers (Delivered (OfStore 0 4096)) [] (replicate store_least 0)) in omega arith

-- a release with nothing open: its record covers nothing
pub rejects-loses_nothing : Demand3 loses_nothing → ⊥
unfolding computing
rejects-loses_nothing d = (calling d (to_release 9 all ∷ []) (omega arith, tt)).0.fair.0

-- a first segment of association 9, and a release of 9 that makes no record of it
pub rejects-releases_nothing : Release releases_nothing → ⊥
unfolding computing
rejects-releases_nothing d =
    false≢true
    (((calling d (comes_at 0 m3 ∷ to_release 9 all ∷ []) ((omega arith, omega arith), (omega arith, tt))).1.0.0 (key_with 5)
    ).1 (refl, λ e. let z : ◌≡◌ {A = ℕ} 1 0 = ap length e in omega arith))

-- the first of three is sent, with a record that is of no deed
pub rejects-records_sending : Demand3 records_sending → ⊥
unfolding computing
rejects-records_sending d =
    let z : ◌≡◌ {A = ℕ} 1 0 = ap length (calling d (sending_of three (sender 0 255) 0 ∷ []) (tt, tt)).0.recorded in
    omega arith

-- a release with nothing open leaves no context registered
pub rejects-clears_registry : Demand3 clears_registry → ⊥
unfolding computing
rejects-clears_registry d = let z : ◌≡◌ {A = ℕ} 0 1 = ap (of_first (λ (e : Entry). e.kind)) (calling d (to_release 9 all ∷ []) (omega arith, tt)).0.agrees.registry in omega arith

-- a release with nothing open leaves T at 1
pub rejects-moves_timer : Demand3 moves_timer → ⊥
unfolding computing
rejects-moves_timer d = let z : ◌≡◌ {A = ℕ} 1 100 = (calling d (to_release 9 all ∷ []) (omega arith, tt)).0.agrees.timer in omega arith

-- a release with nothing open, after an opening at time 7, leaves the clock at 0
pub rejects-moves_clock : Demand3 moves_clock → ⊥
unfolding computing
rejects-moves_clock d = let z : ◌≡◌ {A = ℕ} 0 7 = (calling-at d 7 (omega arith) (to_release 9 all ∷ []) (omega arith, tt)).0.agrees.clock in omega arith

-- one octet to the destination 07: the parameter is an octet short
pub rejects-leaves_out : Demand2 leaves_out → ⊥
unfolding computing
rejects-leaves_out d = let z : ◌≡◌ {A = ℕ} 6 7 = ap (λ (a : Answer). a.length) (d.made addressed (sender 0 255) 0 (record { kind = refl; good = refl })).answer in omega arith

-- the first of three: octet 2 is 85 and not 81
pub rejects-sets_spare : Demand2 sets_spare → ⊥
unfolding computing
rejects-sets_spare d = let z : ◌≡◌ {A = ℕ} 0x85 0x81 = ap (in_area 1) (d.made three (sender 0 255) 0 (record { kind = refl; good = refl })).answer in omega arith

-- the first of three carries two octets
pub rejects-cuts_past : Demand2 cuts_past → ⊥
unfolding computing
rejects-cuts_past d = let z : ◌≡◌ {A = ℕ} 6 5 = ap (λ (a : Answer). a.length) (d.made three (sender 0 255) 0 (record { kind = refl; good = refl })).answer in omega arith

-- the first of three, in an area of 5 octets that it fits: octet 1 is 0
pub rejects-writes_nonsense : Demand2 writes_nonsense → ⊥
unfolding computing
rejects-writes_nonsense d = let z : ◌≡◌ {A = ℕ} 0 0x83 = ap (in_area 0) (d.made three (sender 0 5) 0 (record { kind = refl; good = refl })).answer in omega arith

-- the first of three, cut at time 1, carries nothing
pub rejects-cuts_by_clock : Demand2 cuts_by_clock → ⊥
unfolding computing
rejects-cuts_by_clock d = let z : ◌≡◌ {A = ℕ} 4 5 = ap (λ (a : Answer). a.length) (d.made three (sender 1 255) 0 (record { kind = refl; good = refl })).answer in omega arith

-- after first segments of 00 07 and of 07 a place is open for 07, and a record covered all that it had
pub rejects-compares_numbers : Demand3 compares_numbers → ⊥
unfolding computing
rejects-compares_numbers d = let z : ◌≡◌ {A = ℕ} 1 0 = ap length ((arriving d (between a0007 [] ∷ between a07 [] ∷ [])).1.0.agrees.exact (key_between a07 [])) in omega arith

-- the same after the address 07 00
pub rejects-compares_filled : Demand3 compares_filled → ⊥
unfolding computing
rejects-compares_filled d = let z : ◌≡◌ {A = ℕ} 1 0 = ap length ((arriving d (between a0700 [] ∷ between a07 [] ∷ [])).1.0.agrees.exact (key_between a07 [])) in omega arith

-- the same of two destinations
pub rejects-compares_numbers_to : Demand3 compares_numbers_to → ⊥
unfolding computing
rejects-compares_numbers_to d = let z : ◌≡◌ {A = ℕ} 1 0 = ap length ((arriving d (between a07 a0007 ∷ between a07 a07 ∷ [])).1.0.agrees.exact (key_between a07 a07)) in omega arith

pub rejects-compares_filled_to : Demand3 compares_filled_to → ⊥
unfolding computing
rejects-compares_filled_to d = let z : ◌≡◌ {A = ℕ} 1 0 = ap length ((arriving d (between a07 a0700 ∷ between a07 a07 ∷ [])).1.0.agrees.exact (key_between a07 a07)) in omega arith

pub rejects-passes_over : Demand3 passes_over → ⊥
unfolding computing
rejects-passes_over d = let z : ◌≡◌ {A = ℕ} 1 0 = ap length ((arriving d (between a07 [] ∷ between a07 a07 ∷ [])).1.0.agrees.exact (key_between a07 a07)) in omega arith

-- after the first of two to 07 comes the first to 08, and then the last to 07: what comes back begins with what was for 08
abbrev after_one : State
after_one = (passes_over.step before (arrival_of to_one 0 slot)).state

abbrev after_two : State
after_two = (passes_over.step after_one (arrival_of to_two 0 slot)).state

pub rejects-passes_over-both : Exchanges passes_over → ⊥
unfolding computing
rejects-passes_over-both d =
    let free : TwoFree before = record { one = 0; two = 1; apart = λ e. omega arith; inside = (omega arith, omega arith); free = (refl, refl) } in
    let differ : OtherDestination (key_in to_one) (key_in to_two)
    = record { association = refl; context = refl; origin = refl; reference = refl; destination = λ e. let z : ◌≡◌ {A = ℕ} 7 8 = ap (λ (a : Address). nth 0 a.octets) e in omega arith } in
    let z : ◌≡◌ {A = ℕ} 5 1 = ap (nth 0)
    ((d.both to_one to_two one-sendable other-sendable differ before (ready to_one refl (omega arith)) (ready to_two refl (omega arith)) free after_two 1 1
    (of_one slot (omega arith) (coming to_one before 0 refl tt refl) tt (of_two slot (omega arith) (coming to_two after_one 0 refl tt refl) tt neither)) slot).0 refl (coming to_one after_two 1 refl tt refl)).handed in
    omega arith

-- the loss of a later segment from 07 to nowhere says that it went to 07
pub rejects-records_origin_twice : Demand3 records_origin_twice → ⊥
unfolding computing
rejects-records_origin_twice d =
    let z : ◌≡◌ {A = ℕ} 1 0 = ap (of_first (λ (x : Ending). x.key.destination.length)) (arriving d ((0x84 ∷ 0x80 ∷ 0x00 ∷ 0x85 ∷ 0x01 ∷ 0x07 ∷ 0x00 ∷ []) ∷ [])).0.ruled.1.0.ends in
    omega arith

-- the second of three has no octets, and a record where the rules have none
pub rejects-loses_empty : Demand3 loses_empty → ⊥
unfolding computing
rejects-loses_empty d = let z : ◌≡◌ {A = ℕ} 1 0 = ap length (arriving d (first3 ∷ empty2 ∷ [])).1.0.ruled.1.0.ends in omega arith

-- a later segment with nothing open is lost with cause 2
pub rejects-exchanges_causes : Demand3 exchanges_causes → ⊥
unfolding computing
rejects-exchanges_causes d = let z : ◌≡◌ {A = ℕ} 2 1 = ap (of_first (λ (x : Ending). x.cause)) (arriving d (m4 ∷ [])).0.ruled.1.0.ends in omega arith

-- the first and the last of three are delivered
pub rejects-joins_over_gap : Demand3 joins_over_gap → ⊥
unfolding computing
rejects-joins_over_gap d = let z : ◌≡◌ {A = ℕ} delivered lost = ap (of_first (λ (x : Ending). x.kind)) (arriving d (first3 ∷ m4 ∷ [])).1.0.ruled.1.0.ends in omega arith

-- a first segment of no octets is delivered by the clock
pub rejects-calls_it_delivered-clock : Demand3 calls_it_delivered → ⊥
unfolding computing
rejects-calls_it_delivered-clock d =
    let z : ◌≡◌ {A = ℕ} delivered lost = (calling d (comes_at 0 empty1 ∷ to_tick 100 all ∷ []) ((omega arith, omega arith), (omega arith, tt))).1.0.ruled.0.0.kind in
    omega arith

-- a first segment of no octets is delivered by a release
pub rejects-calls_it_delivered-release : Demand3 calls_it_delivered → ⊥
unfolding computing
rejects-calls_it_delivered-release d =
    let z : ◌≡◌ {A = ℕ} delivered lost = (calling d (comes_at 0 empty1 ∷ to_release 9 all ∷ []) ((omega arith, omega arith), (omega arith, tt))).1.0.ruled.0.0.kind in
    omega arith

-- a first segment of no octets is delivered by one of no octets that breaks its sequence
pub rejects-calls_it_delivered-segment : Demand3 calls_it_delivered → ⊥
unfolding computing
rejects-calls_it_delivered-segment d = let z : ◌≡◌ {A = ℕ} delivered lost = ap (of_first (λ (x : Ending). x.kind)) (arriving d (empty1 ∷ empty3 ∷ [])).1.0.ruled.1.0.ends in omega arith

-- a first segment twice: nothing is held of the second
pub rejects-drops_restart : Demand3 drops_restart → ⊥
unfolding computing
rejects-drops_restart d = let z : ◌≡◌ {A = ℕ} 0 1 = ap length ((arriving d (m3 ∷ m3 ∷ [])).1.0.agrees.exact (key_with 5)) in omega arith

-- two segments are lost, and one is counted
pub rejects-counts_saved : Demand3 counts_saved → ⊥
unfolding computing
rejects-counts_saved d = let z : ◌≡◌ {A = ℕ} 1 2 = (arriving d (m3 ∷ breaking ∷ [])).1.0.fair.0.0 in omega arith

-- two segments are lost, the first with instruction 1, and 0 is told
pub rejects-tells_last : Demand3 tells_last → ⊥
unfolding computing
rejects-tells_last d = let z : ◌≡◌ {A = ℕ} 0 1 = (arriving d (m3 ∷ breaking ∷ [])).1.0.fair.0.2 in omega arith

-- the first of three at time 0, the second at time 50: at time 100 it is not lost
pub rejects-starts_anew : Timer starts_anew → ⊥
unfolding computing
rejects-starts_anew d =
    false≢true
    (((calling d (comes_at 0 first3 ∷ comes_at 50 second3 ∷ to_tick 100 all ∷ []) ((omega arith, omega arith), ((omega arith, omega arith), (omega arith, tt)))
    ).1.1.0.0 (key_with 5)).1 (omega arith))

-- the first of three at time 0, the second at time 50: it started at time 50
pub rejects-starts_anew-3 : Demand3 starts_anew → ⊥
unfolding computing
rejects-starts_anew-3 d =
    let z : ◌≡◌ {A = ℕ} 50 0 =
    ap (of_first (λ (v : View). v.start))
    ((calling d (comes_at 0 first3 ∷ comes_at 50 second3 ∷ []) ((omega arith, omega arith), ((omega arith, omega arith), tt))
    ).1.0.agrees.exact (key_with 5)) in
    omega arith

-- the first of three 6 ticks before the clock's turn: at time 5 its age is 11, and at time 100 it is 106 and not lost
pub rejects-subtracts_plainly : Timer subtracts_plainly → ⊥
unfolding computing
rejects-subtracts_plainly d =
    false≢true
    (((calling-at d 4294967290 (omega arith) (comes_at 4294967290 first3 ∷ to_tick 5 all ∷ to_tick 100 all ∷ []) ((omega arith, omega arith), (omega arith, (omega arith, tt)))
    ).1.1.0.0 (key_with 5)).1 (omega arith))

-- the state and the call of the last are values of their types
none-typed : OfAddress (address_of [])
none-typed = record { size = refl; octets = all_replicate (Bits 8) 0 (omega arith) address_most; length = omega arith }

free-typed : OfPlace free_place
free-typed =
    record {
      origin = none-typed;
      destination = none-typed;
      association = omega arith;
      context = omega arith;
      reference = omega arith;
      octets = omega arith;
      start = omega arith;
      mark = omega arith;
      instruction = omega arith;
      remaining = omega arith;
      segments = omega arith;
    }

abbrev entry : ℕ → ℕ → Entry
entry context kind = record { context = record { 0 = context }; kind = kind }

entry-typed : (context kind : ℕ) → Bits 16 context → Bits 8 kind → OfEntry (entry context kind)
entry-typed context kind a b = record { context = a; kind = b }

before-typed : OfState before
unfolding opening empty_summary
before-typed =
    record {
      count = refl;
      places = all_replicate OfPlace free_place free-typed place_count;
      entries = refl;
      registry = (
        entry-typed 3 1 (omega arith) (omega arith),
        (
          entry-typed 4 2 (omega arith) (omega arith),
          all_replicate OfEntry no_entry (entry-typed 0 0 (omega arith) (omega arith)) 6,
        ),
      );
      timer = omega arith;
      clock = omega arith;
      size = refl;
      summary = all_replicate (Bits 64) 0 (omega arith) summary_length;
      store = all_replicate (Bits 8) 0 (omega arith) store_least;
    }

m3-typed : OfCall (comes_at 0 m3)
m3-typed = (omega arith, omega arith, (omega arith, (omega arith, (omega arith, (omega arith, (omega arith, tt))))), all_replicate (Bits 8) 0 (omega arith) arrival_least)

-- the place that a segment was saved in
abbrev saved_in : Decided → ℕ
saved_in Undecided = 0
saved_in (As Refused) = 0
saved_in (As (Saved p)) = p
saved_in (As (Delivered part)) = 0
saved_in (As (Lost cause p)) = 0

-- a first segment at a fresh table goes to place 15 and not to place 0
pub rejects-takes_highest : Exactly takes_highest → ⊥
unfolding computing
rejects-takes_highest d =
    let z : ◌≡◌ {A = ℕ} 15 0 = ap (λ (a : Answer). saved_in a.decided) (d.every before (comes_at 0 m3) before-typed m3-typed).answer in
    omega arith

-- a number of the summary: row 0 has its mark at 0, taken at 128 and 192, delivered at 256 and 320, lost at 384 and 448
-- M1, the empty parameter, is refused and taken
pub rejects-counts_refused : Totals counts_refused → ⊥
unfolding computing totals_of
rejects-counts_refused d = let z : ◌≡◌ {A = ℕ} 1 0 = ap (nth 128) (arriving d ([] ∷ [])).0 in omega arith

-- a first segment twice: one is lost, and two are billed
pub rejects-bills_restart : Totals bills_restart → ⊥
unfolding computing totals_of
rejects-bills_restart d = let z : ◌≡◌ {A = ℕ} 2 1 = ap (nth 384) (arriving d (m3 ∷ m3 ∷ [])).1.0 in omega arith

-- a first segment, lost by a release and not billed
pub rejects-forgets_releases : Totals forgets_releases → ⊥
unfolding computing totals_of
rejects-forgets_releases d =
    let z : ◌≡◌ {A = ℕ} 0 1 = ap (nth 384) (calling d (comes_at 0 m3 ∷ to_release 9 all ∷ []) ((omega arith, omega arith), (omega arith, tt))).1.0 in
    omega arith

-- an unsegmented parameter, and an opening that leaves its row used
pub rejects-keeps_rows : Totals keeps_rows → ⊥
unfolding computing totals_of
rejects-keeps_rows d =
    let z : ◌≡◌ {A = ℕ} 1 0 = ap (nth 0) (calling d (comes_at 0 alone ∷ Opens (opening_at 0) ∷ []) ((omega arith, omega arith), (omega arith, tt))).1.0 in
    omega arith

-- the second of three is taken in row 1
pub rejects-gives_second : Totals gives_second → ⊥
unfolding computing totals_of
rejects-gives_second d = let z : ◌≡◌ {A = ℕ} 1 0 = ap (nth 1) (arriving d (first3 ∷ second3 ∷ [])).1.0 in omega arith

-- an unsegmented parameter of four octets, one of them information: four are taken
pub rejects-takes_parameter : Totals takes_parameter → ⊥
unfolding computing totals_of
rejects-takes_parameter d = let z : ◌≡◌ {A = ℕ} 4 1 = ap (nth 192) (arriving d (alone ∷ [])).0 in omega arith

-- a later segment with nothing open is not taken
pub rejects-misses_strays : Totals misses_strays → ⊥
unfolding computing totals_of
rejects-misses_strays d = let z : ◌≡◌ {A = ℕ} 0 1 = ap (nth 128) (arriving d (m4 ∷ [])).0 in omega arith

-- THE TWO PARTS OF AN ARRIVAL. T is 100: what begins at 0 is lost at 100

-- the first of two at 0 and the last at 100, which is delivered: what is T old by then is not lost
pub rejects-segment_first : Timer segment_first → ⊥
unfolding computing
rejects-segment_first d = false≢true (((calling d (comes_at 0 m3 ∷ comes_at 100 m4 ∷ []) ((omega arith, omega arith), ((omega arith, omega arith), tt))).1.0.0 (key_with 5)).1 (omega arith))

-- the first of two at 0, and the empty parameter at 100: refused, and the loss is not told
pub rejects-undoes_clock : Demand1 undoes_clock → ⊥
unfolding computing
rejects-undoes_clock d =
    let z : ◌≡◌ {A = ℕ} 0 1 = ap (λ (a : Answer). a.records) ((d.every (undoes_clock.step before (comes_at 0 m3)).state (comes_at 100 [])).untouched refl).answer in
    omega arith

-- 2^63 segments are taken, and one more comes at 50: refused by 22, and the clock is at 50
abbrev counted : ℕ → List ℕ
counted taken = set (set (set empty_summary 0 1) 64 9) 128 taken

pub rejects-keeps_at22 : Demand1 keeps_at22 → ⊥
unfolding computing
rejects-keeps_at22 d =
    let z : ◌≡◌ {A = ℕ} 50 0 = ap (λ (st : State). st.table.clock) ((d.every (state_of fresh (counted total_most) (replicate store_least 0)) (comes_at 50 alone)).untouched refl).state in
    omega arith

-- a table with 16 open places, all of time 0: the first of another sequence comes at 100, and is refused by 10
abbrev full : ℕ → List Place
full zero = []
full (suc n) = open_place (key_with n) (record { 0 = 1 }) 0 1 1 0 ∷ full n

pub rejects-judges_room_first : Demand1 judges_room_first → ⊥
unfolding computing
rejects-judges_room_first d =
    let t : Table = record { places = full place_count; registry = fresh.registry; timer = 100; clock = 0 } in
    let z : ◌≡◌ {A = ℕ} 10 0 = (d.every (state_of t (counted 16) (replicate store_least 0)) (comes_at 100 (0x83 ∷ 0x80 ∷ 0x42 ∷ 0x94 ∷ 0xAA ∷ []))).number in
    omega arith

-- the first of three comes at 50: it started at 0
pub rejects-starts_old : Demand3 starts_old → ⊥
unfolding computing
rejects-starts_old d = let z : ◌≡◌ {A = ℕ} 0 50 = ap (of_first (λ (v : View). v.start)) ((calling d (comes_at 50 first3 ∷ []) ((omega arith, omega arith), tt)).0.agrees.exact (key_with 5)) in omega arith

-- the first of two at 0 and the last at 100: the loss with cause 1 is told as the clock's
pub rejects-own_first : Demand3 own_first → ⊥
unfolding computing
rejects-own_first d = let z : ◌≡◌ {A = ℕ} 1 6 = (calling d (comes_at 0 m3 ∷ comes_at 100 m4 ∷ []) ((omega arith, omega arith), ((omega arith, omega arith), tt))).1.0.ruled.0.0.cause in omega arith

-- .. both losses are told as the segment's
pub rejects-claims_all : Demand3 claims_all → ⊥
unfolding computing
rejects-claims_all d = let z : ◌≡◌ {A = ℕ} 2 1 = ap length (calling d (comes_at 0 m3 ∷ comes_at 100 m4 ∷ []) ((omega arith, omega arith), ((omega arith, omega arith), tt))).1.0.ruled.1.0.ends in omega arith
