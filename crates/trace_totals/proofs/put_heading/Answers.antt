use Rattle.trace_lines.proofs.Writers.{writes_then}
use Rattle.trace_totals.proofs.put_heading.Goals as goal

pub returns-clause-wrote : goal.returns-clause-wrote
returns-clause-wrote c =
    let refusal = rw c.from.ensures at c.put_field-2.ensures.wrote in
    writes_then (writes_then (writes_then c.put_word.ensures c.put_field.ensures.wrote) refusal) c.put_octet.ensures
