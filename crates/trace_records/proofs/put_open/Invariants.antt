use Prim.Native.Nat.{◌+◌, ◌*◌, ◌≤◌}
use lib.ListN.{drop}
use Rattle.rules.specs.Listing.{open_lines}
use Rattle.trace_records.specs.Listing.{line_most}
use Rattle.trace_records.proofs.Writing.{Writing}
use Rattle.trace_records.proofs.put_open.Given as goal

-- What is left of the places gives what is left to write.
abbrev pub invariant-loop-p : goal.invariant-loop-p
invariant-loop-p l = record {
  near : l.w.at ≤ l.initial.w.at + line_most * l.p-index;
  writing : Writing (open_lines l.word l.places) l.initial.w l.w (open_lines l.word (drop l.p-index l.places));
}
