use native.Mathlib.Omega.{arith}
use Rattle.trace_records.proofs.Writing.{writing-starts, writing-on}
use Rattle.trace_records.proofs.Listing.{open_at}
use Rattle.trace_records.proofs.put_open.Goals as goal

pub loop-p-init : goal.loop-p-init
loop-p-init c = record { near = omega arith; writing = writing-starts _ _ }

pub loop-p-preserved : goal.loop-p-preserved
loop-p-preserved c =
    let l = c.loop-p in record {
      near = omega (arith, c.put_place.ensures.upper_bound);
      writing = writing-on l.invariant.writing c.put_place.ensures.wrote (open_at _ c.args.places.now _ l.p-index (omega arith));
    }
