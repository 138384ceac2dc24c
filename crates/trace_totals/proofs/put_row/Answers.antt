use Rattle.trace_lines.proofs.Writers.{writes_then}
use Rattle.trace_totals.proofs.Rows.{line-is}
use Rattle.trace_totals.proofs.put_row.Goals as goal

pub returns-clause-wrote : goal.returns-clause-wrote
returns-clause-wrote c =
    let w = writes_then (writes_then (writes_then c.put_number.ensures.wrote c.put_pair.ensures.wrote) c.put_pair-2.ensures.wrote) c.put_pair-3.ensures.wrote in
    rw (← line-is c.args.m.now c.args.row) (writes_then w c.put_octet.ensures)
