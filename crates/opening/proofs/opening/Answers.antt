use mathlib.Core.Path.{◌≡◌, sym, ap, ◌∙◌}
use native.Mathlib.Omega.{arith}
use Rattle.refusals.proofs.Numbers.{number-some}
use Rattle.rules.specs.Registry.{entries_of}
use Rattle.rules.specs.Opening.{empty_table, opening_checks, unopened_by, opening}
use Rattle.rules.proofs.Refusals.{Sharp, judged-first, judged-none}
use Rattle.rules.proofs.Registry.{table-padded}
use Rattle.opening.proofs.opening.Goals as goal

pub returns-in-Ok : goal.returns-in-Ok
unfolding opening
returns-in-Ok c =
    let a = c.args in
    let es = entries_of a.registry.now in
    let made = c.in-Ok.ensures.entries in
    let table : empty_table c.in-Ok.entries a.timer a.clock ≡ empty_table es a.timer a.clock = rw made.0 (table-padded es a.timer a.clock made.1) in
    let sharp : Sharp (opening_checks a.registry.now a.timer) = ((λ z. omega arith), ((λ z. omega arith), tt)) in
    record {
      answered = c.answer.ensures ∙ rw table (sym (judged-none (opening_checks a.registry.now a.timer) unopened_by _ sharp (sym c.in-Ok.ensures.first)));
      summed = c.empty.ensures;
    }

pub returns-in-Err : goal.returns-in-Err
unfolding opening
returns-in-Err c =
    let a = c.args in
    let number = c.in-Err.ensures.first in
    record {
      answered = c.refused.ensures ∙ ap unopened_by number ∙ sym (judged-first (opening_checks a.registry.now a.timer) unopened_by _ (λ z. number-some c.in-Err.refusal (number ∙ z)));
      summed = c.empty.ensures;
    }
