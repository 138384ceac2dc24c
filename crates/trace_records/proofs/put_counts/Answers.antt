use Rattle.trace_lines.proofs.Writers.{writes_then}
use Rattle.trace_records.proofs.put_counts.Goals as goal

pub returns-clause-wrote : goal.returns-clause-wrote
returns-clause-wrote c =
    let instruction = rw c.from.ensures at c.put_field.ensures.wrote in
    let cause = rw c.from-2.ensures at c.put_field-2.ensures.wrote in
    let segments = rw c.from-3.ensures at c.put_field-3.ensures.wrote in
    let octets = rw c.from-4.ensures at c.put_field-4.ensures.wrote in
    writes_then (writes_then (writes_then instruction cause) segments) octets
