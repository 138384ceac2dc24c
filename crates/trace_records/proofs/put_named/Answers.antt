use Rattle.trace_lines.proofs.Writers.{writes_then}
use Rattle.trace_records.proofs.put_named.Goals as goal

pub returns-clause-wrote : goal.returns-clause-wrote
returns-clause-wrote c =
    let association = rw c.from.ensures at c.put_field.ensures.wrote in
    let context = rw c.from-2.ensures at c.put_field-2.ensures.wrote in
    let reference = rw c.from-3.ensures at c.put_unless.ensures.wrote in
    writes_then (writes_then (writes_then c.put_word.ensures association) context) reference
