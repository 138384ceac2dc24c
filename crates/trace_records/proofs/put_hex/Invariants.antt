use Prim.Native.Nat.{◌+◌, ◌*◌, ◌≤◌}
use lib.ListN.{drop}
use Rattle.rules.specs.Listing.{hex_of}
use Rattle.trace_records.proofs.Writing.{Writing}
use Rattle.trace_records.proofs.put_hex.Given as goal

-- What is left of the octets gives what is left to write.
abbrev pub invariant-loop-x : goal.invariant-loop-x
invariant-loop-x l = record {
  near : l.w.at ≤ l.initial.w.at + 2 * l.x-index;
  writing : Writing (hex_of l.octets) l.initial.w l.w (hex_of (drop l.x-index l.octets));
}
