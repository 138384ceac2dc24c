use Rattle.trace_lines.proofs.Writers.{writes_then}
use Rattle.trace_records.proofs.put_pair.Goals as goal

pub returns : goal.returns
returns c = rw (← c.hex_digit.ensures, ← c.hex_digit-2.ensures) (writes_then c.put_octet.ensures c.put_octet-2.ensures)
