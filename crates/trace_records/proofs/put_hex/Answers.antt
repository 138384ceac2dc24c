use native.Mathlib.Omega.{arith}
use Rattle.trace_records.proofs.Writing.{writing-starts, writing-on}
use Rattle.trace_records.proofs.Listing.{hex-next}
use Rattle.trace_records.proofs.put_hex.Goals as goal

pub loop-x-init : goal.loop-x-init
loop-x-init c = record { near = omega arith; writing = writing-starts _ _ }

pub loop-x-preserved : goal.loop-x-preserved
loop-x-preserved c =
    let l = c.loop-x in record {
      near = omega (arith, c.put_pair.ensures.wrote.place);
      writing = writing-on l.invariant.writing c.put_pair.ensures (hex-next c.args.octets.now l.x-index (omega arith));
    }
