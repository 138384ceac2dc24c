-- Release: it loses with cause 7 exactly what is uncovered of its association.
use Prim.Native.Nat.{ℕ}
use native.Mathlib.Omega.{arith}
use mathlib.Core.Path.{◌≡◌, refl, ap, ◌∙◌}
use mathlib.Core.Logic.{◌↔◌}
use mathlib.Core.Bool.{Bool, true, false, ◌&&◌}
use mathlib.Core.List.{List, [], ◌∷◌}
use borrow.Author.Tests.{eq-eqb, eqb-true}
use lib.Dec.{eqb}
use lib.ListN.{length}
use Rattle.rules.specs.Places.{same_key, is_open}
use Rattle.rules.specs.Sweep.{is_of, losses_by}
use Rattle.rules.specs.Summary.{release_with, release_checks_with}
use Rattle.rules.proofs.Answers.{release-accepted}
use Rattle.rules.specs.Calls.{State, Call, Opens, Arrives, Ticks, Releases, Sends, Opening, step}
use Rattle.rules.specs.Calls as calls
use Rattle.rules.specs.declared.Key.{Key}
use Rattle.rules.specs.declared.Place.{Place}
use Rattle.rules.specs.declared.Table.{Table}
use Rattle.rules.proofs.Keys.{same_key_lem}
use Rattle.demands.specs.Machine.{ours, is_opening, InRange}
use Rattle.demands.specs.Seen.{seen_by}
use Rattle.demands.specs.History.{Segment, Told, Deed, records_in, deeds_of, counted, EachDeed, EachIn}
use Rattle.demands.specs.Demand3.{Ruled, View, held, owing}
use Rattle.demands.specs.Timer.{lost_by}
use Rattle.demands.specs.Release.{Released, Release}
use Rattle.demands.proofs.Spared.{clash}
use Rattle.demands.proofs.Accepting.{release-good}
use Rattle.demands.proofs.Refused.{zero-accepted}
use Rattle.demands.proofs.Kept.{Inv, of-open, made-back, timed_out, told, arrival-left, call-done, inv-opened, inv-call}
use Rattle.demands.proofs.Running.{either, meets}
use Rattle.demands.proofs.Timing.{any_of, swept-is, lost-other, line_other}

-- something is held exactly where something is uncovered
any-owing : (b : Bool) (l : List Segment) → (any_of (λ (w : View). b) (owing l) ≡ true) ↔ ((b ≡ true) × (l ≡ [] → ⊥))
unfolding any_of
any-owing b [] = (λ e. absurd (clash e refl), λ e. absurd (e.1 refl))
any-owing true (x ∷ l) = (λ e. (refl, λ z. let y : ◌≡◌ {A = ℕ} (length (x ∷ l)) 0 = ap length z in omega arith), λ e. refl)
any-owing false (x ∷ l) = (λ e. absurd (clash e refl), λ e. e.0)

module _ (st : State) (h : Told) (inv : Inv st h) where
  abbrev t : Table
  t = st.table

  module _ (x : calls.Release) (z : eqb (step st (Releases x)).answer.refusal 0 ≡ true) where
    releases-records : records_in (step st (Releases x)).answer ≡ losses_by (is_of x.association) 7 t.places
    unfolding step release_with release_checks_with
    releases-records =
        let e = zero-accepted st (Releases x) (eqb-true _ 0 z) in
        let c = release-good t x.report (release-accepted t st.summary x.report x.association e).own in
        rw e (made-back st h inv (is_of x.association) (of-open st h inv x.association) 7 x.report t.clock c.0 c.1 st.summary)

    released : (k : Key) → (lost_by 7 k (records_in (step st (Releases x)).answer) ≡ true) ↔ ((k.association ≡ x.association) × (h.uncovered k ≡ [] → ⊥))
    unfolding held
    released k =
        let own : Bool = eqb k.association x.association in
        let fits : (i : ℕ) (p : Place) → same_key p.key k ≡ true → is_of x.association p ≡ (is_open p && own) =
        λ i p e. ap (λ (key : Key). is_open p && eqb key.association x.association) ((same_key_lem p.key k).0 e) in
        let e : lost_by 7 k (records_in (step st (Releases x)).answer) ≡ any_of (λ (w : View). own) (owing (h.uncovered k)) =
        ap (lost_by 7 k) releases-records ∙ swept-is 7 refl (is_of x.association) (λ (w : View). own) st.store k fits 0 t.places
        ∙ ap (any_of (λ (w : View). own)) (inv.agrees.exact k) in
        let q = any-owing own (h.uncovered k) in
        rw e (λ y. (let r = q.0 y in (eqb-true k.association x.association r.0, r.1)), λ y. q.1 (eq-eqb k.association x.association y.0, y.1))

  -- deeds that are ruled are released
  abbrev So : List Deed → Type 0
  So ds = EachDeed Ruled (counted h) ds → EachDeed Released (counted h) ds

  pub released-call : (c : Call) → InRange c → is_opening c ≡ false → EachIn Ruled h (seen_by ours st c) → EachIn Released h (seen_by ours st c)
  unfolding EachIn deeds_of
  released-call (Opens x) r o = absurd (clash refl o)
  released-call (Arrives x) r o =
      arrival-left st h inv x r.1 (λ (st : State) (ds : List Deed). So ds) (λ d. tt) (λ e d. (λ k. lost-other 6 7 refl k (timed_out st h inv x) d.0, tt))
      (λ e f d. (λ k. lost-other 6 7 refl k (timed_out st h inv x) d.0, (line_other 7 (omega arith) (told st h inv x) x.association x.parameter _ d.1.0, tt)))
  released-call (Ticks x) r o = either So (eqb (step st (Ticks x)).answer.refusal 0) _ (λ e d. (λ k. lost-other 6 7 refl k (records_in (step st (Ticks x)).answer) d.0, tt)) (λ d. tt)
  released-call (Releases x) r o = either So (eqb (step st (Releases x)).answer.refusal 0) _ (λ e d. (released x e, tt)) (λ d. tt)
  released-call (Sends x) r o = λ d. tt

pub opened-released : (st : State) (h : Told) (x : Opening) → EachIn Released h (seen_by ours st (Opens x))
unfolding EachIn deeds_of
opened-released st h x = (tt, tt)

pub releasing : Release ours
releasing =
    meets (EachIn Released) Inv
    (λ st h x r. (opened-released st h x, inv-opened st h x))
    (λ st h inv c r o. (released-call st h inv c r o (call-done st h inv c r o).ruled, inv-call st h inv c r o))
