use Rattle.trace_lines.specs.Printing.{counts_for}
use Rattle.trace_lines.proofs.Writers.{writes_then}
use Rattle.trace_lines.proofs.Writer.put_counts.Goals as goal

pub returns-clause-wrote : goal.returns-clause-wrote
unfolding counts_for
returns-clause-wrote c =
    let refusal = rw c.from.ensures at c.put_field.ensures.wrote in
    let records = rw c.from-2.ensures at c.put_field-2.ensures.wrote in
    let gained = rw (c.total.ensures, c.from-records.ensures) at c.put_field-3.ensures.wrote in
    let missed = rw (c.total-2.ensures, c.from-records.ensures) at c.put_field-4.ensures.wrote in
    writes_then (writes_then (writes_then (writes_then c.put_name.ensures.wrote refusal) records) gained) missed
