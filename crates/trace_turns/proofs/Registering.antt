-- A registry record stops the trace or is kept.
use Rattle.std.specs.Prelude.{if◌then◌else◌}
use Prim.Native.Nat.{ℕ}
use mathlib.Core.Path.{◌≡◌, refl, ap}
use mathlib.Core.Bool.{Bool, true, false}
use mathlib.Core.List.{List}
use Rattle.rules.specs.Calls.{Lent}
use Rattle.trace_events.specs.Events.{Stored, keeping}
use Rattle.trace_events.specs.declared.Replay.{Replay}
use Rattle.trace_turns.specs.Turns.{OfWalk, Fits, Registering, still, stopping, registering, register_of}
use Rattle.trace_turns.specs.declared.Walk.{Walk}
use Rattle.trace_turns.specs.declared.Met.TheVariants as met

-- the walk of a record that is kept
abbrev kept_walk : Replay → Walk
kept_walk replay = record { replay = replay; met = met.Registers; used = 3 }

pub registry-kept : (held : Replay) (kind : ℕ) (body : List ℕ) (replay : Replay) → held.begun ≡ false → replay ≡ keeping held kind body
    → kept_walk replay ≡ register_of held kind body
registry-kept held kind body replay e k = go held.begun e
  where
    go : (b : Bool) → b ≡ false → kept_walk replay ≡ (if b then still held met.Stops else kept_walk (keeping held kind body))
    go true x = cc
    go false x = ap kept_walk k

-- what the code answers of it is the walk's
pub registry-walk : (held : Replay) (kind : ℕ) (body : List ℕ) (answer : Walk) → answer ≡ register_of held kind body
    → (store : Stored) (lent : Lent) → OfWalk (registering held store lent kind body) answer store lent
registry-walk held kind body answer a store lent = go held.begun a
  where
    go : (b : Bool) → answer ≡ (if b then still held met.Stops else kept_walk (keeping held kind body))
        → OfWalk (if b then stopping held store lent else record { front = Registering; held = keeping held kind body; store = store; lent = lent; used = 3 }) answer store lent
    go true e = record { answered = e; stored = refl; lends = refl }
    go false e = record { answered = e; stored = refl; lends = refl }

pub registry-fits : (held : Replay) (kind : ℕ) (body : List ℕ) (answer : Walk) → answer ≡ register_of held kind body → (report : List ℕ) → Fits answer.met report
registry-fits held kind body answer a report = rw a (go held.begun)
  where
    go : (b : Bool) → Fits (if b then still held met.Stops else kept_walk (keeping held kind body)).met report
    go true = tt
    go false = tt
