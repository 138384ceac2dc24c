-- All that is demanded of one call, of the machine that the rules are.
use mathlib.Core.Path.{◌≡◌, refl, sym, ◌∙◌}
use mathlib.Core.Bool.{true, false}
use borrow.Author.Tests.{eqb-true}
use Rattle.rules.specs.Soundness.{sound}
use Rattle.rules.specs.Calls.{State, Call, Opens, Opening, step}
use Rattle.demands.specs.Machine.{ours, is_opening, InRange, SoundSummary}
use Rattle.demands.specs.Seen.{seen_by}
use Rattle.demands.specs.History.{Told, deeds_of, after}
use Rattle.demands.specs.Exactly.{ByRules}
use Rattle.demands.specs.Demanded.{Matches, Met, Demanded, Begun}
use Rattle.demands.proofs.Refused.{number, zero-accepted, demand-1}
use Rattle.demands.proofs.Sound.{opened, kept, passes-1, opening-over-1, leaves-sound}
use Rattle.demands.proofs.Counted.{summary-emptied, summary-kept}
use Rattle.demands.proofs.Running.{still-opened}
use Rattle.demands.proofs.Kept.{Inv, open_done, call-done, inv-opened, inv-call}
use Rattle.demands.proofs.Timing.{Timely, timely-call, timed-call, timing-opened, opened-timed}
use Rattle.demands.proofs.Releasing.{released-call, opened-released}
use Rattle.demands.proofs.Return.{carries-all}

-- a state and a history that match, as the invariants have it
matched : (st : State) (h : Told) → Inv st h → Timely h → (h.opened ≡ true → sound st.table ≡ true) → SoundSummary st → Matches st h
matched st h inv t good m = record { typed = inv.typed; agrees = inv.agrees; time = t.time; early = t.early; good = good; summary = m }

by-rules : (st : State) (c : Call) → ByRules (seen_by ours st c)
by-rules st c = record { answer = refl; state = refl; handed = refl }

pub met : (st : State) (h : Told) → Matches st h → (c : Call) → InRange c → is_opening c ≡ false → Met h (seen_by ours st c)
met st h m c r o =
    let inv : Inv st h = record { typed = m.typed; agrees = m.agrees } in
    let t : Timely h = record { time = m.time; early = m.early } in
    let done = call-done st h inv c r o in
    record {
      accounted = done;
      timed = timed-call st h inv t c r o done.ruled;
      released = released-call st h inv c r o done.ruled;
      not1 = λ e z. passes-1 st c o (m.good e) m.summary.sound (sym (number st c) ∙ z);
      on =
          matched (step st c).state (after h (seen_by ours st c)) (inv-call st h inv c r o) (timely-call st h inv t c r o)
          (λ e. kept st c o (m.good (sym (still-opened h (seen_by ours st c) o) ∙ e))) (summary-kept st c o r m.summary);
    }

pub met-opened : (st : State) (h : Told) (x : Opening) → InRange (Opens x) → Met h (seen_by ours st (Opens x))
unfolding after deeds_of
met-opened st h x r =
    record {
      accounted = open_done st h x;
      timed = opened-timed st h x;
      released = opened-released st h x;
      not1 = λ e. opening-over-1 st x;
      on =
          matched (step st (Opens x)).state (after h (seen_by ours st (Opens x))) (inv-opened st h x) (timing-opened st h x r)
          (λ e. opened st x (zero-accepted st (Opens x) (eqb-true (step st (Opens x)).answer.refusal 0 e))) (summary-emptied st x);
    }

pub demanded : (st : State) (c : Call) → InRange c → is_opening c ≡ false → Demanded (seen_by ours st c)
demanded st c r o =
    record {
      answered = demand-1.every st c;
      sound = leaves-sound st c;
      exact = by-rules st c;
      along = λ h m. met st h m c r o;
      carries = carries-all st c r;
    }

pub begun : (st : State) (x : Opening) → InRange (Opens x) → Begun (seen_by ours st (Opens x))
begun st x r =
    record {
      answered = demand-1.every st (Opens x);
      sound = leaves-sound st (Opens x);
      exact = by-rules st (Opens x);
      along = λ h. met-opened st h x r;
    }
