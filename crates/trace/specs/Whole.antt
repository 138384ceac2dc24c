-- Block by block is the rule of whole traces, whoever watches: however a trace is cut into blocks, and whatever room there is for lines, what is printed is what the rule prints of the whole.
-- proofs/Whole.antt proves the four claims at the end, of any observer.
use Rattle.std.specs.Prelude.{if◌then◌else◌, ◌≡◌, ℕ, zero, suc, ◌+◌, ◌<◌, ◌≤◌, false, List, [], ◌∷◌, ◌++◌, length, take, drop, replicate, ◌==◌}
use Rattle.rules.specs.Numbers.{store_least}
use Rattle.rules.specs.Registry.{is_cut}
use Rattle.rules.specs.Opening.{unopened}
use Rattle.rules.specs.Arrival.{arrival_least}
use Rattle.rules.specs.Summary.{empty_summary}
use Rattle.rules.specs.Calls.{Lent, lending}
use Rattle.rules.specs.Trace.{items_of, Observer, watched, watching}
use Rattle.rules.specs.Trace as trace
use Rattle.trace_events.specs.Events.{Stored, stored_of, state_with, registry_of}
use Rattle.trace_events.specs.declared.Replay.{Replay}
use Rattle.trace.specs.Watching.{Turned, turned, told_most, runs, end_of}

-- what the code holds is a replay r of the rule, but that of the registry as read only the first nine records are kept; no record of it is cut
pub record Shows (held : Replay) (store : Stored) (lent : Lent) (r : trace.Replay) : Type 0 where
  pub is : r ≡ record { registry = r.registry; begun = held.begun; state = state_with held.table store; lent = lent }
  pub registry : registry_of held ≡ take 27 r.registry
  pub most : held.length ≤ 27
  pub area : length held.registry ≡ 27
  pub whole : is_cut r.registry ≡ false

-- a replay at its beginning, as the code holds it
abbrev pub begins : Replay
begins = record { registry = replicate 27 0; length = 0; table = unopened; begun = false }

abbrev pub all_of : List (List ℕ) → List ℕ
all_of [] = []
all_of (octets ∷ reads) = octets ++ all_of reads

module _ {M : Type 0} (o : Observer M) where
  -- what the rule prints of octets, from a replay on
  abbrev pub watched_from : M → trace.Replay → List ℕ → List ℕ
  watched_from m r l = watched o m r (items_of (length l) l)

  -- the lines of what was done with the front of an input, and then those of what is left of it, are the rule's, whatever comes after the input
  pub record Follows (m : M) (r : trace.Replay) (input : List ℕ) (t : Turned M) : Type 0 where
    pub next : trace.Replay
    pub shows : Shows t.held t.store t.lent next
    pub prints : (rest : List ℕ) → watched_from m r (input ++ rest) ≡ t.lines ++ (if t.ended then [] else watched_from t.memory next (drop t.used input ++ rest))

  -- 1. a block: any number of turns, any room, any input
  abbrev pub ByBlocks : Type 0
  ByBlocks =
      (n room : ℕ) (m : M) (held : Replay) (store : Stored) (lent : Lent) (input : List ℕ) (r : trace.Replay) → Shows held store lent r → Follows m r input (runs o n room m held store lent input)

  -- 2. the end of the input, once a turn waits for more: what is left is nothing or a cut record
  abbrev pub AtEnd : Type 0
  AtEnd =
      (m : M) (held : Replay) (store : Stored) (lent : Lent) (input : List ℕ) (r : trace.Replay) → Shows held store lent r
      → (turned o m held store lent input).used ≡ 0 → (turned o m held store lent input).ended ≡ false → watched_from m r input ≡ end_of o m held store (length input)

  -- the program's turns, so many at most: a block of what is there, its lines, and on with what is left; where nothing was used, with what is read next behind it, or to the end
  abbrev pub behind : (List ℕ → List (List ℕ) → List ℕ) → List ℕ → List ℕ → List (List ℕ) → List ℕ
  behind on end left [] = end
  behind on end left (octets ∷ reads) = on (left ++ octets) reads

  unfoldable pub session : ℕ → ℕ → M → Replay → Stored → Lent → List ℕ → List (List ℕ) → List ℕ
  session zero room m held store lent left reads = []
  session (suc n) room m held store lent left reads =
      let t : Turned M = runs o (length left) room m held store lent left in
      let on : List ℕ → List (List ℕ) → List ℕ = session n room t.memory t.held t.store t.lent in
      t.lines
      ++ (if t.ended then [] else if t.used == 0 then behind on (end_of o t.memory t.held t.store (length left)) left reads else on (drop t.used left) reads)

  -- 4. the whole: with turns enough, and room for what one prints, the program prints what the rule prints of all that is read, however it comes
  abbrev pub OfAll : Type 0
  OfAll =
      (n room : ℕ) (m : M) (reads : List (List ℕ)) → told_most ≤ room → length (all_of reads) + length reads < n
      → session n room m begins (stored_of empty_summary (replicate store_least 0)) (lending (replicate arrival_least 0) []) [] reads ≡ watching o m (all_of reads)

-- 3. the beginning
abbrev pub AtBeginning : Type 0
AtBeginning = Shows begins (stored_of empty_summary (replicate store_least 0)) (lending (replicate arrival_least 0) []) trace.beginning
