-- The record at the front of an input, by its kind and its length.
use Rattle.std.specs.Prelude.{if◌then◌else◌, Some, None}
use Prim.Native.Nat.{ℕ, ◌+◌, ◌-◌, ◌≤◌, ◌<◌}
use mathlib.Core.Path.{◌≡◌, refl}
use mathlib.Core.Bool.{Bool, true, false}
use mathlib.Core.List.{List, [], ◌∷◌}
use native.Mathlib.Omega.{arith}
use borrow.Author.Tests.{lt-ltb, le-ltb}
use lib.ListN.{length, take, drop, get_or, length-drop}
use lib.Seq.{length-take-le}
use Rattle.rules.specs.Calls.{Lent}
use Rattle.rules.specs.Trace.{is_known, body_length, item_of}
use Rattle.trace_items.specs.Reading.{body_of}
use Rattle.trace_events.specs.Events.{Stored}
use Rattle.trace_events.specs.declared.Replay.{Replay}
use Rattle.trace_turns.specs.Turns.{Front, OfWalk, met_of, still, staying, waiting, stopping, at_item, walked}
use Rattle.trace_turns.specs.declared.Walk.{Walk}

-- a kind that has a body is known, and has that body; one that has none is not
known-if : (kind n : ℕ) (b : Bool) → is_known kind ≡ b → (if b then Some (body_length kind) else None) ≡ Some n → (is_known kind ≡ true) × (n ≡ body_length kind)
known-if kind n true k e = (k, cc)
known-if kind n false k e = let z : ◌≡◌ {A = ℕ} 0 1 = cc in let y : ⊥ = omega arith in absurd y

pub known_is : (kind n : ℕ) → body_of kind ≡ Some n → (is_known kind ≡ true) × (n ≡ body_length kind)
known_is kind n e = known-if kind n (is_known kind) refl e

unknown-is : (b : Bool) (n : ℕ) → (if b then Some n else None) ≡ None → b ≡ false
unknown-is true n e = cc
unknown-is false n e = refl

module _ (held : Replay) (store : Stored) (lent : Lent) where
  -- nothing is done and nothing is used
  pub as-still : (front : Front) (answer : Walk) → answer ≡ still held (met_of front) → OfWalk (staying front held store lent) answer store lent
  as-still front answer a = record { answered = a; stored = refl; lends = refl }

  pub walked_none : (input : List ℕ) → length input ≡ 0 → walked held store lent input ≡ waiting held store lent
  unfolding walked
  walked_none [] e = refl
  walked_none (kind ∷ l) e = let z : ⊥ = omega arith in absurd z

  pub walked-unknown : (input : List ℕ) → (length input ≡ 0 → ⊥) → body_of (get_or input 0 0) ≡ None → walked held store lent input ≡ stopping held store lent
  unfolding walked
  walked-unknown [] h e = absurd (h refl)
  walked-unknown (kind ∷ l) h e = simp (unknown-is (is_known kind) (body_length kind) e)

  pub walked-short : (input : List ℕ) (n : ℕ) → (length input ≡ 0 → ⊥) → body_of (get_or input 0 0) ≡ Some n → length input - 1 < n → walked held store lent input ≡ waiting held store lent
  unfolding walked
  walked-short [] n there e h = absurd (there refl)
  walked-short (kind ∷ l) n there e h = let k = known_is kind n e in simp (k.0, lt-ltb (length l) (body_length kind) (omega arith))

  pub walked-known : (input : List ℕ) (n : ℕ) → (length input ≡ 0 → ⊥) → body_of (get_or input 0 0) ≡ Some n → n ≤ length input - 1
      → walked held store lent input ≡ at_item held store lent (item_of (get_or input 0 0) (take n (drop 1 input))) (1 + body_length (get_or input 0 0))
  unfolding walked
  walked-known [] n there e h = absurd (there refl)
  walked-known (kind ∷ l) n there e h = let k = known_is kind n e in rw k.1 (simp (k.0, le-ltb (length l) (body_length kind) (omega arith)))

-- a body as the code cuts it out
pub body-there : (input : List ℕ) (n : ℕ) → n ≤ length input - 1 → length (take (1 + n - 1) (drop 1 input)) ≡ n
body-there input n h = let m : 1 + n - 1 ≡ n = omega arith in rw m (length-take-le n (drop 1 input) (rw length-drop h))
