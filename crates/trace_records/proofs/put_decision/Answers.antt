use borrow.Author.Tests.{eq-eqb, ne_eqb}
use Rattle.trace_lines.proofs.Writers.{writes_then}
use Rattle.trace_records.proofs.put_decision.Goals as goal

pub returns-then-refusal-ne0-clause-wrote : goal.returns-then-refusal-ne0-clause-wrote
returns-then-refusal-ne0-clause-wrote c =
    simp (ne_eqb _ 0 c.if-refusal-ne0.true) (writes_then c.put_word.ensures (rw c.from.ensures at c.put_field.ensures.wrote))

pub returns-in-Saved-clause-wrote : goal.returns-in-Saved-clause-wrote
returns-in-Saved-clause-wrote c = rw c.in-Saved.is (simp (eq-eqb _ 0 c.if-refusal-ne0.false) (writes_then c.put_word-in-Saved.ensures c.put_field-in-Saved.ensures.wrote))
