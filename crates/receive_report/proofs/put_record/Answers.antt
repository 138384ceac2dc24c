use Prim.Native.Nat.{◌+◌}
use mathlib.Core.Path.{refl}
use native.Mathlib.Omega.{arith}
use lib.ListN.{take}
use Rattle.octets.specs.Splice.{Wrote}
use Rattle.octets.proofs.Splice.{wrote_then}
use Rattle.rules.specs.Records.{recorded, record_octets}
use Rattle.rules.proofs.Records.{record-length}
use Rattle.receive_report.proofs.put_record.Goals as goal

pub returns : goal.returns
unfolding record_octets
returns c =
    let r = c.args.r in
    let origin = c.put_address.ensures in
    let destination = c.put_address-2.ensures in
    let front : Wrote _ c.args.at (take 11 (record_octets r)) _ _ = record { place = refl; stored = rw c.head.ensures at c.put_at.ensures } in
    let middle : Wrote _ (c.args.at + 11) (recorded r.key.origin) _ (c.args.at + 32) = record { place = omega (arith, origin.filled); stored = origin.report_after } in
    record {
      report_after = (wrote_then (wrote_then front middle) (record { place = refl; stored = destination.report_after })).stored;
      r_len = record-length r (record { origin = origin.filled; destination = destination.filled });
    }
