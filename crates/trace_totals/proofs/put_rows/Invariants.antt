use Prim.Native.Nat.{◌+◌, ◌*◌, ◌≤◌}
use Rattle.rules.specs.Totalling.{rows_below}
use Rattle.trace_lines.specs.Writers.{Writes}
use Rattle.trace_totals.proofs.put_rows.Given as goal

abbrev pub invariant-loop-row : goal.invariant-loop-row
invariant-loop-row l = record {
  near : l.w.at ≤ l.initial.w.at + 147 * l.row;
  wrote : Writes l.initial.w (rows_below l.row l.m) l.w;
}
