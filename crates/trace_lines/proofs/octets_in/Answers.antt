use mathlib.Core.Path.{sym, ◌∙◌}
use borrow.Author.Tests.{eq-eqb, ne_eqb}
use Rattle.trace_lines.proofs.Totals.{record_counts}
use Rattle.trace_lines.proofs.octets_in.Goals as goal

pub returns-then-from-kind-clause-value : goal.returns-then-from-kind-clause-value
returns-then-from-kind-clause-value c =
    let a = c.args in
    sym (record_counts a.from.now a.kind ∙ simp (ne_eqb _ a.kind c.if-from-kind.true))

pub returns-clause-value : goal.returns-clause-value
returns-clause-value c =
    let a = c.args in
    rw c.from.ensures (c.number2.ensures ∙ sym (record_counts a.from.now a.kind ∙ simp (eq-eqb _ _ c.if-from-kind.false)))
