use Prim.Native.Nat.{◌+◌, ◌*◌, ◌-◌, ◌≤◌}
use mathlib.Core.Path.{◌≡◌}
use lib.ListN.{drop}
use Rattle.rules.specs.Records.{record_length, records_from}
use Rattle.rules.specs.Lines.{octets_of}
use Rattle.trace_lines.proofs.total.Given as goal

-- What is left of the report gives the rest of the sum.
abbrev pub invariant-loop-i : goal.invariant-loop-i
invariant-loop-i l = (l.sum ≤ 65535 * l.i) × (octets_of l.kind (records_from l.n l.report) ≡ l.sum + octets_of l.kind (records_from (l.n - l.i) (drop (record_length * l.i) l.report)))
