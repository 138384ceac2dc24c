use Rattle.trace_lines.proofs.Writers.{writes_then}
use Rattle.trace_records.proofs.Listing.{line-is}
use Rattle.trace_records.proofs.put_record.Goals as goal

pub returns-clause-wrote : goal.returns-clause-wrote
returns-clause-wrote c =
    let w = writes_then (writes_then (writes_then c.put_named.ensures.wrote c.put_counts.ensures.wrote) c.put_address.ensures.wrote) c.put_address-2.ensures.wrote in
    rw (← line-is c.args.word.now c.args.r.now) (writes_then w c.put_octet.ensures)
