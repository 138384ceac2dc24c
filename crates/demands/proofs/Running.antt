-- What an invariant gives along every run of the machine of the rules; and what a call leaves of the history.
use Rattle.std.specs.Prelude.{if◌then◌else◌}
use mathlib.Core.Path.{◌≡◌, refl, sym, ap, ap₂, subst, ◌∙◌}
use mathlib.Core.Bool.{Bool, true, false}
use mathlib.Core.List.{List, [], ◌∷◌, map}
use lib.Dec.{eqb}
use Rattle.rules.specs.Arrival.{stands}
use Rattle.rules.specs.Calls.{State, Call, Opens, Arrives, Ticks, Releases, Sends, Opening, Arrival, Answer, step}
use Rattle.demands.specs.Machine.{Machine, ours, parameter_of, is_opening, All, InRange}
use Rattle.demands.specs.Seen.{Seen, Chained, handing, seen_by, run_of}
use Rattle.demands.specs.History.{Told, Deed, Takes, Passes, timeouts_in, own_in, arrival_deeds, deeds_of, counted, did_all, after, silence, Along, Meets}
use Rattle.demands.specs.Exactly.{ByRules}

-- a machine's run is one
pub run-chained : (m : Machine) (st : State) (cs : List Call) → Chained st (run_of m st cs)
run-chained m st [] = tt
run-chained m st (c ∷ cs) = (refl, run-chained m (m.step st c).state cs)

-- an opening gives the invariant at any state, and every call that keeps it meets the demand
module _ (d : Told → Seen → Type 0) (I : State → Told → Type 0)
    (opens : (st : State) (h : Told) (o : Opening) → InRange (Opens o) → d h (seen_by ours st (Opens o)) × I (step st (Opens o)).state (after h (seen_by ours st (Opens o))))
    (goes : (st : State) (h : Told) → I st h → (c : Call) → InRange c → is_opening c ≡ false → d h (seen_by ours st c) × I (step st c).state (after h (seen_by ours st c))) where
  next : (st : State) (h : Told) → I st h → (c : Call) → InRange c → d h (seen_by ours st c) × I (step st c).state (after h (seen_by ours st c))
  next st h i (Opens x) r = opens st h x r
  next st h i (Arrives x) r = goes st h i (Arrives x) r refl
  next st h i (Ticks x) r = goes st h i (Ticks x) r refl
  next st h i (Releases x) r = goes st h i (Releases x) r refl
  next st h i (Sends x) r = goes st h i (Sends x) r refl

  along : (st : State) (h : Told) → I st h → (cs : List Call) → All InRange cs → Along d h (run_of ours st cs)
  along st h i [] r = tt
  along st h i (c ∷ cs) r = let n = next st h i c r.0 in (n.0, along (step st c).state (after h (seen_by ours st c)) n.1 cs r.1)

  pub meets : Meets d ours
  meets =
      record {
        along = λ st o cs r.
            (let n = opens st silence o r.0 in (n.0, along (step st (Opens o)).state (after silence (seen_by ours st (Opens o))) n.1 cs r.1));
      }

-- what is seen of a call that is as the rules have it is what is seen of ours; so what holds along the runs of ours holds along every run of such calls
ruled-seen : (x : Seen) → ByRules x → x ≡ seen_by ours x.before x.call
ruled-seen x r =
    let h = r.handed ∙ (λ i. handing ours (r.answer i).decided (parameter_of x.call) (r.state i).store) in
    λ i. record { before = x.before; call = x.call; answer = r.answer i; left = r.state i; handed = h i }

abbrev calls_of : List Seen → List Call
calls_of xs = map (λ (x : Seen). x.call) xs

ruled-run : (st : State) (xs : List Seen) → Chained st xs → All ByRules xs → xs ≡ run_of ours st (calls_of xs)
ruled-run st [] c r = refl
ruled-run st (x ∷ xs) c r =
    let e = ruled-seen x r.0 ∙ ap (λ (st : State). seen_by ours st x.call) c.0 in
    let l : x.left ≡ (step st x.call).state = ap (λ (y : Seen). y.left) e in
    ap₂ ◌∷◌ e (ruled-run x.left xs c.1 r.1 ∙ ap (λ (st : State). run_of ours st (calls_of xs)) l)

pub along-seen : (d : Told → Seen → Type 0) → Meets d ours → (st : State) (o : Opening) (x : Seen) (xs : List Seen) → x.call ≡ Opens o → Chained st (x ∷ xs)
    → All ByRules (x ∷ xs) → All InRange (calls_of (x ∷ xs)) → Along d silence (x ∷ xs)
along-seen d m st o x xs e c r q =
    subst (Along d silence) (sym (ruled-run st (x ∷ xs) c r ∙ ap (λ (y : Call). run_of ours st (y ∷ calls_of xs)) e))
    (m.along st o (calls_of xs) (subst (λ (y : Call). All InRange (y ∷ calls_of xs)) e q))

-- a deed or none
pub either : (P : List Deed → Type 0) (b : Bool) (d : Deed) → (b ≡ true → P (d ∷ [])) → P [] → P (if b then d ∷ [] else [])
either P true d one none = one refl
either P false d one none = none

-- an arrival's deeds: both, the first, or none
pub arrival-either : (P : List Deed → Type 0) (x : Arrival) (a : Answer)
    → (eqb a.refusal 0 ≡ true → P (Passes x.time (timeouts_in a) ∷ Takes x.association x.parameter (own_in a) ∷ []))
    → (eqb a.refusal 0 ≡ false → stands a.refusal ≡ true → P (Passes x.time (timeouts_in a) ∷ []))
    → P [] → P (arrival_deeds x a)
arrival-either P x a both one none = go (eqb a.refusal 0) (stands a.refusal) refl refl
  where
    go : (b c : Bool) → eqb a.refusal 0 ≡ b → stands a.refusal ≡ c
        → P (if b then Passes x.time (timeouts_in a) ∷ Takes x.association x.parameter (own_in a) ∷ [] else if c then Passes x.time (timeouts_in a) ∷ [] else [])
    go true c e f = both e
    go false true e f = one e f
    go false false e f = none

-- only an opening tells whether the last one was accepted
pub still-opened : (h : Told) (x : Seen) → is_opening x.call ≡ false → (after h x).opened ≡ h.opened
unfolding after deeds_of
still-opened h x e = go x.call e
  where
    Still : List Deed → Type 0
    Still ds = (did_all (counted h) ds).opened ≡ h.opened

    go : (c : Call) → is_opening c ≡ false → (did_all (counted h) (deeds_of c x.answer)).opened ≡ h.opened
    go (Opens y) e = cc
    go (Arrives y) e = arrival-either Still y x.answer (λ z. refl) (λ z f. refl) refl
    go (Ticks y) e = either Still (eqb x.answer.refusal 0) _ (λ z. refl) refl
    go (Releases y) e = either Still (eqb x.answer.refusal 0) _ (λ z. refl) refl
    go (Sends y) e = refl
