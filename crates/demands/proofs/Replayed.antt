-- What is printed of any octets is told by a run that meets the demands.
use Rattle.std.specs.Prelude.{if◌then◌else◌}
use Prim.Native.Nat.{ℕ, zero, suc, ◌+◌, ◌*◌, ◌≤◌, ◌<◌}
use mathlib.Core.Path.{◌≡◌, refl, ap}
use mathlib.Core.Bool.{Bool, true, false, ◌&&◌}
use mathlib.Core.List.{List, [], ◌∷◌, ◌++◌}
use native.Mathlib.Omega.{arith}
use lib.Dec.{eqb, leb}
use lib.ListN.{length, take, drop, length-take, length-drop}
use Rattle.octets.specs.Number.{number_from, number}
use Rattle.rules.specs.Numbers.{place_count}
use Rattle.rules.specs.Layout.{octet}
use Rattle.rules.specs.Opening.{unopened}
use Rattle.rules.specs.Summary.{empty_summary}
use Rattle.rules.specs.Calls.{state_of, step}
use Rattle.rules.specs.Trace.{is_known, body_length, Event, Opening, Segment, Clock, Release, Item, Registers, Happens, Stops, item_of, items_of}
use Rattle.rules.specs.Trace.{Replay, beginning, call_of, happened, registered, sight_of, Observer, watched, watching}
use Rattle.demands.specs.Machine.{ours, All, InRange}
use Rattle.demands.specs.Seen.{Chained, seen_by}
use Rattle.demands.specs.History.{Told, silence, after, Along}
use Rattle.demands.specs.Demand3.{held}
use Rattle.demands.specs.Exactly.{Octets}
use Rattle.demands.specs.Demanded.{Matches, Met}
use Rattle.demands.specs.Replayed.{seen_in, sights_in, stops_in, Sees, AllSee, told_of, left_by, Replayed}
use Rattle.demands.proofs.Counted.{none_open}
use Rattle.demands.proofs.Typed.{all-free}
use Rattle.demands.proofs.Demanded.{met, met-opened}

-- THE NUMBERS OF A TRACE: octets stay octets in every part, and a number of n octets is below 256 to the n
all_take : {A : Type 0} (P : A → Type 0) (n : ℕ) (l : List A) → All P l → All P (take n l)
all_take P zero l all = tt
all_take P (suc n) [] all = tt
all_take P (suc n) (x ∷ l) all = (all.0, all_take P n l all.1)

all_drop : {A : Type 0} (P : A → Type 0) (n : ℕ) (l : List A) → All P l → All P (drop n l)
all_drop P zero l all = all
all_drop P (suc n) [] all = tt
all_drop P (suc n) (x ∷ l) all = all_drop P n l all.1

-- a bound, with n octets behind it
abbrev widened : ℕ → ℕ → ℕ
widened zero most = most
widened (suc n) most = widened n (most * 256)

number-below : (n : ℕ) (xs : List ℕ) (high most : ℕ) → Octets xs → length xs ≤ n → high < most → number_from high xs < widened n most
number-below zero [] high most o l h = h
number-below zero (x ∷ xs) high most o l h = let z : ⊥ = omega arith in absurd z
number-below (suc n) [] high most o l h = number-below n [] high (most * 256) o (omega arith) (omega arith)
number-below (suc n) (x ∷ xs) high most o l h = number-below n xs (high * 256 + x) (most * 256) o.1 (omega arith) (omega arith)

number_fits : (n : ℕ) (xs : List ℕ) → Octets xs → length xs ≤ n → number xs < widened n 1
number_fits n xs o l = number-below n xs 0 1 o l (omega arith)

-- an event's call is in range, whatever is handed on to it
abbrev Fits : Item → Type 0
Fits (Registers octets) = Unit {0}
Fits (Happens e) = (r : Replay) → InRange (call_of r e)
Fits Stops = Unit {0}

item-fits : (kind : ℕ) (body : List ℕ) → Octets body → length body ≤ body_length kind → Fits (item_of kind body)
item-fits kind body o = go (eqb kind 32) (eqb kind 33) (eqb kind 34) (eqb kind 35)
  where
    go : (a b c d : Bool) → length body ≤ (if a then 8 else if b then 262 else if c then 4 else 2)
        → Fits (if a then Happens (Opening (number (take 4 body)) (number (drop 4 body))) else
        if b then Happens (Segment (number (take 4 body)) (number (take 2 (drop 4 body))) (take (octet body 6) (drop 7 body))) else
        if c then Happens (Clock (number body)) else
        if d then Happens (Release (number body)) else
        Registers (kind ∷ body))
    go true b c d l = λ r. number_fits 4 (drop 4 body) (all_drop _ 4 body o) (rw length-drop (omega arith))
    go false true c d l = λ r. (
      number_fits 4 (take 4 body) (all_take _ 4 body o) (rw length-take (omega arith)),
      number_fits 2 (take 2 (drop 4 body)) (all_take _ 2 (drop 4 body) (all_drop _ 4 body o)) (rw length-take (omega arith)),
    )
    go false false true d l = λ r. number_fits 4 body o l
    go false false false true l = λ r. number_fits 2 body o l
    go false false false false l = tt

items-fit : (n : ℕ) (l : List ℕ) → Octets l → All Fits (items_of n l)
items-fit zero l o = tt
items-fit (suc n) [] o = tt
items-fit (suc n) (kind ∷ l) o =
    go (is_known kind && leb (body_length kind) (length l)) (items-fit n (drop (body_length kind) l) (all_drop _ (body_length kind) l o.1))
  where
    go : (b : Bool) → All Fits (items_of n (drop (body_length kind) l))
        → All Fits (if b then item_of kind (take (body_length kind) l) ∷ items_of n (drop (body_length kind) l) else Stops ∷ [])
    go true rest = (item-fits kind (take (body_length kind) l) (all_take _ (body_length kind) l o.1) (rw length-take (omega arith)), rest)
    go false rest = (tt, tt)

-- THE RUN: the unopened table matches silence, and every event goes on from there
unopened-matches : (store : List ℕ) → Matches (state_of unopened empty_summary store) silence
unfolding held empty_summary
unopened-matches store =
    record {
      typed = record { count = refl; each = all-free place_count };
      agrees = record { exact = λ k. refl; registry = refl; timer = refl; clock = refl };
      time = omega arith;
      early = λ k. tt;
      good = λ e. cc;
      summary = record { size = refl; sound = none_open };
    }

event-met : (r : Replay) (h : Told) → Matches r.state h → (e : Event) → InRange (call_of r e) → Met h (seen_by ours r.state (call_of r e))
event-met r h m (Opening timer time) i = met-opened r.state h _ i
event-met r h m (Segment time association s) i = met r.state h m (call_of r (Segment time association s)) i refl
event-met r h m (Clock time) i = met r.state h m (call_of r (Clock time)) i refl
event-met r h m (Release association) i = met r.state h m (call_of r (Release association)) i refl

-- a registry record stops the trace or not
by-either : {A : Type 0} (P : A → Type 0) (b : Bool) (x y : A) → P x → P y → P (if b then x else y)
by-either P true x y p q = p
by-either P false x y p q = q

seen-met : (r : Replay) (h : Told) → Matches r.state h → (items : List Item) → All Fits items → Along Met h (seen_in r items)
unfolding seen_in
seen-met r h m [] f = tt
seen-met r h m (Stops ∷ items) f = tt
seen-met r h m (Registers octets ∷ items) f = by-either (Along Met h) r.begun _ _ tt (seen-met (registered r octets) h m items f.1)
seen-met r h m (Happens e ∷ items) f =
    let x = event-met r h m e (f.0 r) in
    (x, seen-met (happened r e (step r.state (call_of r e))) (after h (seen_by ours r.state (call_of r e))) x.on items f.1)

seen-chained : (r : Replay) (items : List Item) → Chained r.state (seen_in r items)
unfolding seen_in
seen-chained r [] = tt
seen-chained r (Stops ∷ items) = tt
seen-chained r (Registers octets ∷ items) = by-either (Chained r.state) r.begun _ _ tt (seen-chained (registered r octets) items)
seen-chained r (Happens e ∷ items) = (refl, seen-chained (happened r e (step r.state (call_of r e))) items)

-- WHAT IS PRINTED
event-seen : (r : Replay) (e : Event) → Sees (sight_of r e) (seen_by ours r.state (call_of r e))
event-seen r e = record { replay = r; call = refl; before = refl; answer = refl; left = refl }

all_seen : (r : Replay) (items : List Item) → AllSee (sights_in r items) (seen_in r items)
unfolding sights_in seen_in
all_seen r [] = tt
all_seen r (Stops ∷ items) = tt
all_seen r (Registers octets ∷ items) = go r.begun (all_seen (registered r octets) items)
  where
    go : (b : Bool) → AllSee (sights_in (registered r octets) items) (seen_in (registered r octets) items)
        → AllSee (if b then [] else sights_in (registered r octets) items) (if b then [] else seen_in (registered r octets) items)
    go true rest = tt
    go false rest = rest
all_seen r (Happens e ∷ items) = (event-seen r e, all_seen (happened r e (step r.state (call_of r e))) items)

all_told : {M : Type 0} (o : Observer M) (m : M) (r : Replay) (items : List Item) → watched o m r items ≡ told_of o m (sights_in r items) (left_by r.state (seen_in r items)) (stops_in r items)
unfolding watched sights_in seen_in stops_in
all_told o m r [] = refl
all_told o m r (Stops ∷ items) = refl
all_told o m r (Registers octets ∷ items) = go r.begun (all_told o m (registered r octets) items)
  where
    next : Replay
    next = registered r octets

    go : (b : Bool) → watched o m next items ≡ told_of o m (sights_in next items) (left_by r.state (seen_in next items)) (stops_in next items)
        → (if b then o.ends m r.state true else watched o m next items)
        ≡ told_of o m (if b then [] else sights_in next items) (left_by r.state (if b then [] else seen_in next items)) (if b then true else stops_in next items)
    go true rest = refl
    go false rest = rest
all_told o m r (Happens e ∷ items) =
    ap (λ (l : List ℕ). o.tells m (sight_of r e) ++ l) (all_told o (o.keeps m (sight_of r e)) (happened r e (step r.state (call_of r e))) items)

pub replayed : {M : Type 0} (o : Observer M) (m : M) (trace : List ℕ) → Octets trace → Replayed o m trace
unfolding watching
replayed o m trace octets =
    record {
      prints = all_told o m beginning (items_of (length trace) trace);
      seen = all_seen beginning (items_of (length trace) trace);
      chained = seen-chained beginning (items_of (length trace) trace);
      met = seen-met beginning silence (unopened-matches _) (items_of (length trace) trace) (items-fit (length trace) trace octets);
    }
