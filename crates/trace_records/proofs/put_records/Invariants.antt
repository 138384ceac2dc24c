use Prim.Native.Nat.{◌+◌, ◌*◌, ◌-◌, ◌≤◌}
use lib.ListN.{drop}
use Rattle.rules.specs.Records.{record_length, records_from}
use Rattle.rules.specs.Listing.{record_lines}
use Rattle.trace_records.specs.Listing.{line_most}
use Rattle.trace_records.proofs.Writing.{Writing}
use Rattle.trace_records.proofs.put_records.Given as goal

-- What is left of the records gives what is left to write.
abbrev pub invariant-loop-i : goal.invariant-loop-i
invariant-loop-i l = record {
  near : l.w.at ≤ l.initial.w.at + line_most * l.i;
  writing : Writing (record_lines (records_from l.n l.report)) l.initial.w l.w (record_lines (records_from (l.n - l.i) (drop (record_length * l.i) l.report)));
}
