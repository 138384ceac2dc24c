use Rattle.trace_lines.proofs.Writers.{writes_then}
use Rattle.trace_records.proofs.put_line.Goals as goal

pub returns-clause-wrote : goal.returns-clause-wrote
returns-clause-wrote c =
    let decided = writes_then c.put_octet.ensures c.put_decision.ensures.wrote in
    writes_then (writes_then (writes_then (writes_then c.put_fields.ensures.wrote c.put_field.ensures.wrote) c.put_timeouts.ensures.wrote) decided) c.put_octet-2.ensures
