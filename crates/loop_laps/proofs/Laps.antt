-- One lap by what the sender's and the receiver's calls promise, and laps one after the other.
use Prim.Native.Nat.{ℕ, suc, ◌+◌, ◌-◌, ◌≤◌, ◌<◌}
use mathlib.Core.Path.{◌≡◌, sym, ◌∙◌}
use mathlib.Core.List.{List, []}
use native.Mathlib.Omega.{arith}
use native.Mathlib.Numerals.{add-one}
use lib.ListN.{take}
use Rattle.rules.specs.Receiving.{Reception}
use Rattle.rules.specs.Summary.{Counted}
use Rattle.rules.specs.Arrival.{arrival}
use Rattle.rules.specs.Sending.{sending}
use Rattle.rules.specs.Calls.{State, state_of, Lent, lending}
use Rattle.rules.specs.Promises.{OfArrival, OfSending}
use Rattle.rules.specs.declared.Table.{Table}
use Rattle.rules.specs.declared.Request.{Request}
use Rattle.rules.specs.declared.Received.{Received}
use Rattle.rules.specs.declared.Sent.{Sent}
use Rattle.demands.specs.Demand2.{numbered}
use Rattle.loop_laps.specs.Laps.{Asked, Lap, lap, laps, standing, lap_of, received, OfLap, OfReceipt}
use Rattle.loop_laps.specs.declared.Looped.{Looped}

-- a segment that is a part of the area
pub receipt : (t : Table) (m store report : List ℕ) (time association : ℕ) (s s' : List ℕ) (n : ℕ) (r : Received) (m' store' report' : List ℕ)
    → OfArrival t m store report time association s r m' store' report' → s ≡ s'
    → OfReceipt (arrival t m store report time association s') n (record { table = r.table; decision = r.decision; length = n; number = 0 }) m' store' (lending report' [])
receipt t m store report time association s s' n r m' store' report' k e =
    record {
      answered = (λ i. record { table = (k.answered i).table; decision = (k.answered i).decision; length = n; number = 0 })
          ∙ (λ i. received (arrival t m store report time association (e i)).call n);
      summed = k.summed ∙ (λ i. (arrival t m store report time association (e i)).summary);
      stored = k.stored ∙ (λ i. (arrival t m store report time association (e i)).call.store);
      lent = (λ i. lending (k.reported i) []) ∙ (λ i. lending (arrival t m store report time association (e i)).call.report []);
    }

module _ (x : Asked) (k : ℕ) (st : State) (lent : Lent) where
  cut : ℕ → List ℕ → Lap
  cut n area =
      let r : Counted Reception = arrival st.table st.summary st.store lent.report st.table.clock x.association (take n area) in
      record { state = state_of r.call.answer.table r.summary r.call.store; lent = lending r.call.report area; decision = r.call.answer.decision; length = n }

  pub one-lap : (area' : List ℕ) (q : Request) (s : Sent) (answer : Looped) (m' store' : List ℕ) (lent' : Lent) → q ≡ numbered x.request k
      → OfSending x.table q x.origin x.destination x.whole lent.area s area'
      → OfReceipt (arrival st.table st.summary st.store lent.report st.table.clock x.association (take s.length area')) s.length answer m' store' lent'
      → OfLap (lap x k (standing st lent)) answer m' store' (lending lent'.report area')
  unfolding cut
  one-lap area' q s answer m' store' lent' e sent got =
      record {
        lapped = (λ i. lap_of (got.answered i) (got.summed i) (got.stored i) (lending (got.lent i).report area'))
            ∙ (λ i. cut (sent.answered i).length (sent.written i))
            ∙ (λ i. cut (sending x.table (e i) x.origin x.destination x.whole lent.area).answer.length (sending x.table (e i) x.origin x.destination x.whole lent.area).area);
        number = λ i. (got.answered i).number;
      }

-- the laps that are left, w in all: the next one, and none
pub laps-next : (x : Asked) (end k : ℕ) (l l' w : Lap) → w ≡ laps (end - k) k x l → k < end → l' ≡ lap x k l → w ≡ laps (end - (k + 1)) (k + 1) x l'
unfolding laps
laps-next x end k l l' w so under next =
    let e : end - k ≡ suc (end - (k + 1)) = omega arith in
    so ∙ rw (e, add-one, next)

pub laps-end : (x : Asked) (end k : ℕ) (l w : Lap) → w ≡ laps (end - k) k x l → end ≤ k → l ≡ w
unfolding laps
laps-end x end k l w so over =
    let e : end - k ≡ 0 = omega arith in
    sym (so ∙ rw e)
