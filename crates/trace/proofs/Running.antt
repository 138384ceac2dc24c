-- A block of records: what is left of it gives what the whole does.
use Rattle.std.proofs.Common.{◌≡◌, ℕ, zero, suc, ◌+◌, ◌-◌, ◌<◌, ◌≤◌, Bool, true, false, ◌||◌, eqb, List, [], ◌++◌, length, take, drop, sym, refl, ap, ◌∙◌, append_assoc, append-nil, add-zero, add_assoc, zero-add, arith, length-drop, length-take, take_all, drop-drop, le-ltb, lt-ltb}
use borrow.Rule.Slice.PartMut.{put_mid, mid_of}
use borrow.Author.Tests.{eqb-false}
use Rattle.octets.specs.Splice.{Wrote}
use Rattle.octets.proofs.Splice.{splice-nil, splice-length, splice-tail, wrote_then}
use Rattle.rules.specs.Calls.{Lent}
use Rattle.rules.specs.Trace.{Observer}
use Rattle.trace_events.specs.Events.{Stored, state_with}
use Rattle.trace_events.specs.declared.Replay.{Replay}
use Rattle.trace_turns.proofs.Turning.{walked_none}
use Rattle.trace.specs.Watching.{Turned, OfTurn, turn_of, turned, resting, joined, told_most, runs}
use Rattle.trace.specs.declared.Progress.{Progress}

abbrev pub is_over : {M : Type 0} → Turned M → Bool
is_over t = t.ended || eqb t.used 0

pub or-false : (a b : Bool) → (a || b) ≡ false → (a ≡ false) × (b ≡ false)
or-false true b e = (e, cc)
or-false false b e = (refl, e)

-- nothing there is nothing done
pub turned_none : {M : Type 0} (o : Observer M) (m : M) (held : Replay) (store : Stored) (lent : Lent) (input : List ℕ) → length input ≡ 0
    → turned o m held store lent input ≡ resting o m held store lent
turned_none o m held store lent input e = ap (turn_of o m (state_with held.table store)) (walked_none held store lent input e)

-- the turns one by one
module _ {M : Type 0} (o : Observer M) (room : ℕ) (m : M) (held : Replay) (store : Stored) (lent : Lent) (input : List ℕ) where
  pub runs-full : (n : ℕ) → room < told_most → runs o n room m held store lent input ≡ resting o m held store lent
  unfolding runs
  runs-full zero h = refl
  runs-full (suc n) h = simp (lt-ltb room told_most h)

  abbrev here : Turned M
  here = turned o m held store lent input

  pub runs-over : (n : ℕ) → told_most ≤ room → length input ≤ n → is_over here ≡ true → runs o n room m held store lent input ≡ here
  unfolding runs
  runs-over zero h l e = sym (turned_none o m held store lent input (omega arith))
  runs-over (suc n) h l e = simp (le-ltb room told_most h, e)

  pub runs-more : (n : ℕ) → told_most ≤ room → is_over here ≡ false
      → runs o (suc n) room m held store lent input
      ≡ joined o here (runs o n (room - length here.lines) here.memory here.held here.store here.lent (drop here.used input))
  unfolding runs
  runs-more n h e = simp (le-ltb room told_most h, e)

-- so much is done before
abbrev after : {M : Type 0} → List ℕ → ℕ → Turned M → Turned M
after lines used t = record { lines = lines ++ t.lines; memory = t.memory; held = t.held; store = t.store; lent = t.lent; used = used + t.used; ended = t.ended }

after_none : {M : Type 0} (t : Turned M) → t ≡ after [] 0 t
after_none t = rw zero-add

after-joined : {M : Type 0} (o : Observer M) (lines : List ℕ) (used : ℕ) (a b : Turned M) → after lines used (joined o a b) ≡ after (lines ++ a.lines) (used + a.used) b
after-joined o lines used a b = rw (append_assoc lines a.lines b.lines, add_assoc used a.used b.used)

module _ (o : Observer ℕ) where
  -- the loop of a block: so many octets are used and written, and the turns that are left give the rest; fuel is at least what is left of the input
  pub record Going (want : Turned ℕ) (input out₀ : List ℕ) (store : Stored) (lent : Lent) (out : List ℕ) (replay : Replay) (events used written : ℕ) : Type 0 where
    pub fuel : ℕ
    pub lines : List ℕ
    pub is : want ≡ after lines used (runs o fuel (length out₀ - written) events replay store lent (drop used input))
    pub enough : length input - used ≤ fuel
    pub within : used ≤ length input
    pub room : written ≤ length out₀
    pub same : length out ≡ length out₀
    pub wrote : Wrote out₀ 0 lines out written

  pub going-starts : (events : ℕ) (held : Replay) (store : Stored) (lent : Lent) (input out : List ℕ)
      → Going (runs o (length input) (length out) events held store lent input) input out store lent out held events 0 0
  going-starts events held store lent input out =
      let z : length out - 0 ≡ length out = omega arith in
      record {
        fuel = length input;
        lines = [];
        is = rw z (after_none _);
        enough = omega arith;
        within = omega arith;
        room = omega arith;
        same = refl;
        wrote = record { place = refl; stored = sym (splice-nil out 0) };
      }

  module _ {want : Turned ℕ} {input out₀ : List ℕ} {store : Stored} {lent : Lent} {out : List ℕ} {replay : Replay} {events used written : ℕ} (g : Going want input out₀ store lent out replay events used written) where
    pub going-full : length out - written < told_most → OfTurn want out₀ (record { replay = replay; events = events; used = used; written = written; ended = false }) store lent out
    going-full h =
        let s = g.same in
        let f : length out₀ - written < told_most = omega arith in
        let e = runs-full o (length out₀ - written) events replay store lent (drop used input) g.fuel f in
        rw (g.is, e, append-nil g.lines, add-zero used) (record { replay = refl; events = refl; used = refl; ended = refl; stored = refl; lends = refl; wrote = g.wrote })

    abbrev now : Turned ℕ
    now = turned o events replay store lent (drop used input)

    -- a turn on what is left of the input, into what is left of the area
    module _ (h : told_most ≤ length out - written) (answer : Progress) (store' : Stored) (lent' : Lent) (part : List ℕ)
        (t : OfTurn (turned o events replay store lent (take (length input - used) (drop used input))) (mid_of written (length out - written) out) answer store' lent' part)
        (u : answer.used ≤ length (take (length input - used) (drop used input))) (w : answer.written ≤ told_most) where
      abbrev out' : List ℕ
      out' = put_mid written (length out - written) out part

      turn : OfTurn now (mid_of written (length out - written) out) answer store' lent' part
      turn = rw (take_all (length input - used) (drop used input) (rw length-drop (omega arith))) at t

      wrote : Wrote out written now.lines out' (written + answer.written)
      wrote =
          let p = turn.wrote.place in
          record { place = omega arith; stored = splice-tail written out now.lines part turn.wrote.stored (omega arith) }

      pub used-within : used + answer.used ≤ length input
      used-within = let i = g.within in let l = length-drop used input in let n = length-take (length input - used) (drop used input) in omega arith

      pub written-within : written + answer.written ≤ length out₀
      written-within = let r = g.room in let s = g.same in omega arith

      pub same_out : length out' ≡ length out₀
      same_out = rw (wrote.stored, splice-length) g.same

      left : length (drop used input) ≤ g.fuel
      left = rw length-drop g.enough

      open-room : told_most ≤ length out₀ - written
      open-room = let s = g.same in omega arith

      over-as : {b : Bool} → (answer.ended || eqb answer.used 0) ≡ b → is_over now ≡ b
      over-as e = rw (turn.used, turn.ended) at e

      pub going-over : (answer.ended || eqb answer.used 0) ≡ true
          → OfTurn want out₀ (record { replay = answer.replay; events = answer.events; used = used + answer.used; written = written + answer.written; ended = answer.ended }) store' lent' out'
      going-over e =
          let r = runs-over o (length out₀ - written) events replay store lent (drop used input) g.fuel open-room left (over-as e) in
          rw (g.is, r)
          (record {
            replay = turn.replay;
            events = turn.events;
            used = ap (λ (n : ℕ). used + n) turn.used;
            ended = turn.ended;
            stored = turn.stored;
            lends = turn.lends;
            wrote = wrote_then g.wrote wrote;
          })

      some : (answer.ended || eqb answer.used 0) ≡ false → answer.used ≡ 0 → ⊥
      some e = eqb-false answer.used 0 (or-false answer.ended (eqb answer.used 0) e).1

      pub less-left : (answer.ended || eqb answer.used 0) ≡ false → length input - (used + answer.used) < length input - used
      less-left e = let s = some e in omega (arith, used-within)

      pub going_on : (answer.ended || eqb answer.used 0) ≡ false → Going want input out₀ store' lent' out' answer.replay answer.events (used + answer.used) (written + answer.written)
      going_on e = go g.fuel refl
        where
          go : (n : ℕ) → g.fuel ≡ n → Going want input out₀ store' lent' out' answer.replay answer.events (used + answer.used) (written + answer.written)
          go zero f =
              let t : now ≡ resting o events replay store lent = turned_none o events replay store lent (drop used input) (omega (arith, left)) in
              let z : true ≡ false = sym (ap is_over t) ∙ over-as e in
              let y : ◌≡◌ {A = ℕ} 0 1 = cc in
              let x : ⊥ = omega arith in absurd x
          go (suc n) f =
              let p = wrote.place in
              let rm : length out₀ - (written + answer.written) ≡ length out₀ - written - length now.lines = omega arith in
              let r = runs-more o (length out₀ - written) events replay store lent (drop used input) n open-room (over-as e) in
              record {
                fuel = n;
                lines = g.lines ++ now.lines;
                is = g.is ∙ rw (f, r, after-joined o g.lines used now _, rm, turn.replay, turn.events, turn.used, turn.stored, turn.lends, drop-drop now.used used input);
                enough = let s = some e in omega (arith, g.enough);
                within = used-within;
                room = written-within;
                same = same_out;
                wrote = wrote_then g.wrote wrote;
              }
