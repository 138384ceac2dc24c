-- Block by block is the rule of whole traces, whoever watches: specs/Whole.antt.
use Rattle.std.proofs.Common.{if◌then◌else◌, ◌≡◌, ℕ, zero, suc, ◌+◌, ◌-◌, ◌<◌, ◌≤◌, Bool, true, false, not, eqb, ltb, List, [], ◌∷◌, ◌++◌, length, take, drop, sym, refl, ap, ◌∙◌, append_assoc, append-nil, arith, length-append, length-drop, length-take-le, drop-drop, ltb-false, ltb-true, ne_eqb, eqb-true}
use borrow.Author.Tests.{eqb-false, lt-leb}
use Rattle.rules.specs.Calls.{State, Lent, Outcome, step}
use Rattle.rules.specs.Trace.{Event, Opening, Segment, Clock, Release, Item, Registers, Happens, is_known, body_length, item_of, items_of, call_of, happened, registered, Sight, sight_of}
use Rattle.rules.specs.Trace.{Observer, watched, watching}
use Rattle.rules.specs.Trace as trace
use Rattle.trace_items.proofs.Items.{item_by, items-next}
use Rattle.trace_events.specs.Events.{Stored, state_with, step_of, keeping}
use Rattle.trace_events.specs.declared.Replay.{Replay}
use Rattle.trace_turns.specs.Turns.{Registering, waiting, stopping, registering, happening, at_item, walked}
use Rattle.trace_turns.proofs.Keeping.{opening-nine, Kept, kept_more}
use Rattle.trace.specs.Watching.{Turned, turn_of, turned, resting, joined, told_most, runs, end_of}
use Rattle.trace.specs.Whole.{Shows, all_of, watched_from, Follows, ByBlocks, AtEnd, AtBeginning, behind, session, OfAll}
use Rattle.trace.proofs.Running.{is_over, or-false, turned_none, runs-over, runs-more}

-- what is held, with the whole registry as read
abbrev over : List ℕ → Replay → Stored → Lent → trace.Replay
over l held store lent = record { registry = l; begun = held.begun; state = state_with held.table store; lent = lent }

unless : (b : Bool) (x y : List ℕ) → (b ≡ false → x ≡ y) → (if b then [] else x) ≡ (if b then [] else y)
unless true x y e = refl
unless false x y e = e refl

kept_of : {held : Replay} {store : Stored} {lent : Lent} {r : trace.Replay} → Shows held store lent r → Kept held r.registry
kept_of s = record { is = s.registry; most = s.most; area = s.area; whole = s.whole }

-- each turn of the program uses an octet or a read
abbrev left_over : List ℕ → List (List ℕ) → ℕ
left_over left reads = length left + length (all_of reads) + length reads

module _ {M : Type 0} (o : Observer M) where
  -- a turn on one item
  record Prints (l : List ℕ) (m : M) (held : Replay) (store : Stored) (lent : Lent) (item : Item) (used : ℕ) (t : Turned M) : Type 0 where
    registry : List ℕ
    kept : Kept t.held registry
    uses : t.ended ≡ false → t.used ≡ used
    prints : (items : List Item) → watched o m (over l held store lent) (item ∷ items) ≡ t.lines ++ (if t.ended then [] else watched o t.memory (over registry t.held t.store t.lent) items)

  module _ (l : List ℕ) (m : M) (held : Replay) (store : Stored) (lent : Lent) (k : Kept held l) where
    abbrev here : State
    here = state_with held.table store

    same_step : (e : Event) → step here (call_of (over l held store lent) e) ≡ step_of held store lent e
    unfolding step
    same_step (Opening timer time) = rw (k.is, opening-nine l timer time)
    same_step (Segment time association s) = refl
    same_step (Clock time) = refl
    same_step (Release association) = refl

    event-prints : (e : Event) (used : ℕ) → Prints l m held store lent (Happens e) used (turn_of o m here (happening held store lent e used))
    unfolding watched
    event-prints e used =
        record {
          registry = l;
          kept = record { is = k.is; most = k.most; area = k.area; whole = k.whole };
          uses = λ f. refl;
          prints = λ items. ap (λ (x : Outcome). printing (record { before = here; event = e; outcome = x }) items) (same_step e);
        }
      where
        printing : Sight → List Item → List ℕ
        printing s items = o.tells m s ++ watched o (o.keeps m s) (happened (over l held store lent) e s.outcome) items

    over-kept : (kind : ℕ) (body : List ℕ) → registered (over l held store lent) (kind ∷ body) ≡ over (l ++ (kind ∷ body)) (keeping held kind body) store lent
    over-kept kind body = go (ltb 24 held.length) _
      where
        go : (b : Bool) (r : List ℕ) → registered (over l held store lent) (kind ∷ body)
            ≡ over (l ++ (kind ∷ body)) (if b then held else record { registry = r; length = held.length + 3; table = held.table; begun = held.begun }) store lent
        go true r = refl
        go false r = refl

    registry-prints : (kind x y used : ℕ) → used ≡ 3
        → Prints l m held store lent (Registers (kind ∷ x ∷ y ∷ [])) used (turn_of o m here (registering held store lent kind (x ∷ y ∷ [])))
    unfolding watched
    registry-prints kind x y used n = go held.begun (λ items. refl)
      where
        body : List ℕ
        body = x ∷ y ∷ []

        go : (b : Bool) → ((items : List Item) → watched o m (over l held store lent) (Registers (kind ∷ body) ∷ items) ≡ (if b then o.ends m here true else watched o m (registered (over l held store lent) (kind ∷ body)) items))
            → Prints l m held store lent (Registers (kind ∷ body)) used
            (turn_of o m here (if b then stopping held store lent else record { front = Registering; held = keeping held kind body; store = store; lent = lent; used = 3 }))
        go true p = record { registry = l; kept = k; uses = λ f. cc; prints = λ items. p items ∙ sym (append-nil (o.ends m here true)) }
        go false p = record { registry = l ++ (kind ∷ body); kept = kept_more held l k kind x y; uses = λ f. sym n; prints = λ items. p items ∙ rw (over-kept kind body) }

    two-octets : (kind : ℕ) (body : List ℕ) (used : ℕ) → length body ≡ 2 → used ≡ 3 → Prints l m held store lent (Registers (kind ∷ body)) used (turn_of o m here (registering held store lent kind body))
    two-octets kind [] used e n = let z : ⊥ = omega arith in absurd z
    two-octets kind (x ∷ []) used e n = let z : ⊥ = omega arith in absurd z
    two-octets kind (x ∷ y ∷ []) used e n = registry-prints kind x y used n
    two-octets kind (x ∷ y ∷ z ∷ body) used e n = let z : ⊥ = omega arith in absurd z

    item-prints : (kind : ℕ) (body : List ℕ) → length body ≡ body_length kind
        → Prints l m held store lent (item_of kind body) (1 + body_length kind) (turn_of o m here (at_item held store lent (item_of kind body) (1 + body_length kind)))
    item-prints kind body e =
        item_by (λ (i : Item). Prints l m held store lent i (1 + body_length kind) (turn_of o m here (at_item held store lent i (1 + body_length kind)))) kind body
        (λ x. event-prints x (1 + body_length kind)) (λ two. two-octets kind body (1 + body_length kind) (e ∙ two) (omega arith))

  -- what is done with the front of an input
  record Goes (l : List ℕ) (m : M) (held : Replay) (store : Stored) (lent : Lent) (input : List ℕ) (t : Turned M) : Type 0 where
    registry : List ℕ
    kept : Kept t.held registry
    prints : (rest : List ℕ) → watched_from o m (over l held store lent) (input ++ rest)
        ≡ t.lines ++ (if t.ended then [] else watched_from o t.memory (over registry t.held t.store t.lent) (drop t.used input ++ rest))

  module _ (l : List ℕ) (m : M) (held : Replay) (store : Stored) (lent : Lent) (k : Kept held l) where
    rests-go : (input : List ℕ) → Goes l m held store lent input (resting o m held store lent)
    rests-go input = record { registry = l; kept = k; prints = λ rest. refl }

    turn-goes : (input : List ℕ) → Goes l m held store lent input (turned o m held store lent input)
    unfolding walked watched
    turn-goes [] = rests-go []
    turn-goes (kind ∷ s) = go (is_known kind) refl (ltb (length s) (body_length kind)) refl
      where
        bl : ℕ
        bl = body_length kind

        go : (a : Bool) → is_known kind ≡ a → (b : Bool) → ltb (length s) bl ≡ b
            → Goes l m held store lent (kind ∷ s)
            (turn_of o m (state_with held.table store) (if not a then stopping held store lent else if b then waiting held store lent else at_item held store lent (item_of kind (take bl s)) (1 + bl)))
        go false e b f = record { registry = l; kept = k; prints = λ rest. simp e (sym (append-nil (o.ends m (state_with held.table store) true))) }
        go true e true f = rests-go (kind ∷ s)
        go true e false f =
            let h : bl ≤ length s = ltb-false (length s) bl f in
            let p = item-prints l m held store lent k kind (take bl s) (length-take-le bl s h) in
            let t : Turned M = turn_of o m (state_with held.table store) (at_item held store lent (item_of kind (take bl s)) (1 + bl)) in
            let one : 1 + bl ≡ suc bl = omega arith in
            let next : List ℕ → List ℕ = watched_from o t.memory (over p.registry t.held t.store t.lent) in
            record {
              registry = p.registry;
              kept = p.kept;
              prints = λ rest.
                  ap (watched o m (over l held store lent)) (items-next kind s rest e h)
                  ∙ p.prints (items_of (length (drop bl s ++ rest)) (drop bl s ++ rest))
                  ∙ ap (λ (x : List ℕ). t.lines ++ x) (unless t.ended (next (drop bl s ++ rest)) (next (drop t.used (kind ∷ s) ++ rest)) (λ n. rw (p.uses n, one)));
            }

  runs-go : (n room : ℕ) (l : List ℕ) (m : M) (held : Replay) (store : Stored) (lent : Lent) (input : List ℕ) → Kept held l → Goes l m held store lent input (runs o n room m held store lent input)
  unfolding runs
  runs-go zero room l m held store lent input k = rests-go l m held store lent k input
  runs-go (suc n) room l m held store lent input k =
      let t : Turned M = turned o m held store lent input in
      let g = turn-goes l m held store lent k input in
      go g (ltb room told_most) (is_over t) refl
      (runs-go n (room - length t.lines) g.registry t.memory t.held t.store t.lent (drop t.used input) g.kept)
    where
      t : Turned M
      t = turned o m held store lent input

      r : Turned M
      r = runs o n (room - length t.lines) t.memory t.held t.store t.lent (drop t.used input)

      go : (g : Goes l m held store lent input t) (a b : Bool) → is_over t ≡ b → Goes g.registry t.memory t.held t.store t.lent (drop t.used input) r
          → Goes l m held store lent input (if a then resting o m held store lent else if b then t else joined o t r)
      go g true b e i = rests-go l m held store lent k input
      go g false true e i = g
      go g false false e i =
          record {
            registry = i.registry;
            kept = i.kept;
            prints = λ rest.
                g.prints rest
                ∙ rw ((or-false t.ended (eqb t.used 0) e).0, i.prints rest, drop-drop r.used t.used input) (sym (append_assoc t.lines r.lines (if r.ended then [] else watched_from o r.memory (over i.registry r.held r.store r.lent) (drop (t.used + r.used) input ++ rest))));
          }

  -- where nothing is used, a turn waits for more; where none comes, the rule ends with what is left
  end_is : (l : List ℕ) (m : M) (held : Replay) (store : Stored) (lent : Lent) (input : List ℕ) → Kept held l → (turned o m held store lent input).used ≡ 0 → (turned o m held store lent input).ended ≡ false
      → (turned o m held store lent input ≡ resting o m held store lent) × (watched_from o m (over l held store lent) input ≡ end_of o m held store (length input))
  unfolding walked watched
  end_is l m held store lent [] k u e = (refl, refl)
  end_is l m held store lent (kind ∷ s) k u e = go (is_known kind) refl (ltb (length s) (body_length kind)) refl u e
    where
      bl : ℕ
      bl = body_length kind

      some : eqb (suc (length s)) 0 ≡ false
      some = ne_eqb (suc (length s)) 0 (λ x. omega arith)

      turn : Bool → Bool → Turned M
      turn a b =
          turn_of o m (state_with held.table store) (if not a then stopping held store lent else if b then waiting held store lent else at_item held store lent (item_of kind (take bl s)) (1 + bl))

      go : (a : Bool) → is_known kind ≡ a → (b : Bool) → ltb (length s) bl ≡ b → (turn a b).used ≡ 0 → (turn a b).ended ≡ false
          → (turn a b ≡ resting o m held store lent) × (watched_from o m (over l held store lent) (kind ∷ s) ≡ end_of o m held store (length (kind ∷ s)))
      go false p b q u e = let z : ◌≡◌ {A = ℕ} 0 1 = cc in let y : ⊥ = omega arith in absurd y
      go true p true q u e = let h = ltb-true (length s) bl q in (refl, simp (p, lt-leb bl (length s) h) (ap (λ (b : Bool). o.ends m (state_with held.table store) (not b)) (sym some)))
      go true p false q u e =
          let h : bl ≤ length s = ltb-false (length s) bl q in
          let n = (item-prints l m held store lent k kind (take bl s) (length-take-le bl s h)).uses e in
          let z : ⊥ = omega (arith, u, n) in absurd z

  pub by_blocks : ByBlocks o
  by_blocks n room m held store lent input r s =
      let g = runs-go n room r.registry m held store lent input (kept_of s) in
      let t : Turned M = runs o n room m held store lent input in
      record {
        next = over g.registry t.held t.store t.lent;
        shows = record { is = refl; registry = g.kept.is; most = g.kept.most; area = g.kept.area; whole = g.kept.whole };
        prints = λ rest. ap (λ (x : trace.Replay). watched_from o m x (input ++ rest)) s.is ∙ g.prints rest;
      }

  pub at-end : AtEnd o
  at-end m held store lent input r s u e =
      ap (λ (x : trace.Replay). watched_from o m x input) s.is ∙ (end_is r.registry m held store lent input (kept_of s) u e).1

  -- a block that uses nothing and does not end is a turn that waits
  block-waits : (room : ℕ) (m : M) (held : Replay) (store : Stored) (lent : Lent) (input : List ℕ) (r : trace.Replay) → Shows held store lent r → told_most ≤ room
      → (runs o (length input) room m held store lent input).used ≡ 0 → (runs o (length input) room m held store lent input).ended ≡ false
      → (runs o (length input) room m held store lent input ≡ resting o m held store lent) × (watched_from o m r input ≡ end_of o m held store (length input))
  unfolding runs
  block-waits room m held store lent [] r s h u e = (refl, at-end m held store lent [] r s (ap (λ (x : Turned M). x.used) none) (ap (λ (x : Turned M). x.ended) none))
    where
      none : turned o m held store lent [] ≡ resting o m held store lent
      none = turned_none o m held store lent [] refl
  block-waits room m held store lent (kind ∷ l) r s h u e = go (is_over t) refl
    where
      input : List ℕ
      input = kind ∷ l

      t : Turned M
      t = turned o m held store lent input

      go : (b : Bool) → is_over t ≡ b
          → (runs o (length input) room m held store lent input ≡ resting o m held store lent) × (watched_from o m r input ≡ end_of o m held store (length input))
      go true v =
          let p = runs-over o room m held store lent input (length input) h (omega arith) v in
          let x = end_is r.registry m held store lent input (kept_of s) (rw p at u) (rw p at e) in
          (p ∙ x.0, ap (λ (y : trace.Replay). watched_from o m y input) s.is ∙ x.1)
      go false v =
          let n = ap (λ (x : Turned M). x.used) (runs-more o room m held store lent input (length l) h v) in
          let q = eqb-false t.used 0 (or-false t.ended (eqb t.used 0) v).1 in
          let z : ⊥ = omega (arith, u, n, q) in absurd z

  next-read : (n room : ℕ) (m : M) (held : Replay) (store : Stored) (lent : Lent) (left : List ℕ) (r : trace.Replay) (reads : List (List ℕ)) → watched_from o m r left ≡ end_of o m held store (length left)
      → left_over left reads < suc n
      → ((more : List ℕ) (rest : List (List ℕ)) → left_over more rest < n → session o n room m held store lent more rest ≡ watched_from o m r (more ++ all_of rest))
      → behind o (session o n room m held store lent) (end_of o m held store (length left)) left reads ≡ watched_from o m r (left ++ all_of reads)
  next-read n room m held store lent left r [] e q ih = rw (append-nil left) (sym e)
  next-read n room m held store lent left r (x ∷ xs) e q ih =
      let a = length-append left x in
      let b = length-append x (all_of xs) in
      ih (left ++ x) xs (omega arith) ∙ rw (append_assoc left x (all_of xs))

  some-used : (room : ℕ) (m : M) (held : Replay) (store : Stored) (lent : Lent) (input : List ℕ) → ((runs o (length input) room m held store lent input).used ≡ 0 → ⊥) → 1 ≤ length input
  unfolding runs
  some-used room m held store lent [] h = absurd (h refl)
  some-used room m held store lent (kind ∷ l) h = omega arith

  session-is : (n room : ℕ) → told_most ≤ room → (m : M) (held : Replay) (store : Stored) (lent : Lent) (left : List ℕ) (reads : List (List ℕ)) (r : trace.Replay) → Shows held store lent r
      → left_over left reads < n → session o n room m held store lent left reads ≡ watched_from o m r (left ++ all_of reads)
  unfolding session
  session-is zero room h m held store lent left reads r s q = let z : ⊥ = omega arith in absurd z
  session-is (suc n) room h m held store lent left reads r s q = go (session-is n room h) t.ended refl (eqb t.used 0) refl
    where
      t : Turned M
      t = runs o (length left) room m held store lent left

      on : List ℕ → List (List ℕ) → List ℕ
      on = session o n room t.memory t.held t.store t.lent

      f : Follows o m r left t
      f = by_blocks (length left) room m held store lent left r s

      go : ((m : M) (held : Replay) (store : Stored) (lent : Lent) (left : List ℕ) (reads : List (List ℕ)) (r : trace.Replay) → Shows held store lent r
          → left_over left reads < n → session o n room m held store lent left reads ≡ watched_from o m r (left ++ all_of reads))
          → (a : Bool) → t.ended ≡ a → (b : Bool) → eqb t.used 0 ≡ b
          → t.lines ++ (if a then [] else if b then behind o on (end_of o t.memory t.held t.store (length left)) left reads else on (drop t.used left) reads) ≡ watched_from o m r (left ++ all_of reads)
      go ih true e b u = sym (f.prints (all_of reads) ∙ rw e)
      go ih false e true u =
          let w = block-waits room m held store lent left r s h (eqb-true t.used 0 u) e in
          rw w.0 (next-read n room m held store lent left r reads w.1 q (λ more rest d. ih m held store lent more rest r s d))
      go ih false e false u =
          let v = eqb-false t.used 0 u in
          let k = some-used room m held store lent left v in
          let d = length-drop t.used left in
          ap (λ (x : List ℕ). t.lines ++ x) (ih t.memory t.held t.store t.lent (drop t.used left) reads f.next f.shows (omega arith)) ∙ sym (f.prints (all_of reads) ∙ rw e)

pub at-beginning : AtBeginning
at-beginning = record { is = refl; registry = refl; most = omega arith; area = refl; whole = refl }

pub of-all : {M : Type 0} (o : Observer M) → OfAll o
unfolding watching
of-all o n room m reads h q = session-is o n room h m _ _ _ [] reads trace.beginning at-beginning (omega arith)
