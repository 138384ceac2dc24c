use Prim.Native.Nat.{◌-◌}
use mathlib.Core.Path.{◌≡◌}
use native.Mathlib.Omega.{arith}
use lib.ListN.{length-take, length-drop}
use Rattle.trace_records.proofs.Writing.{writing-starts, writing-on}
use Rattle.trace_records.proofs.Listing.{records-next}
use Rattle.trace_records.proofs.put_records.Goals as goal

pub loop-i-init : goal.loop-i-init
loop-i-init c =
    let z : c.args.n - 0 ≡ c.args.n = omega arith in
    record { near = omega arith; writing = rw z (writing-starts _ _) }

pub put_told-requires : goal.put_told-requires
put_told-requires c = (omega arith, rw (c.part.ensures, length-take, length-drop) (omega arith))

pub loop-i-preserved : goal.loop-i-preserved
loop-i-preserved c =
    let l = c.loop-i in record {
      near = omega (arith, c.put_told.ensures.upper_bound);
      writing = writing-on l.invariant.writing (rw c.part.ensures at c.put_told.ensures.wrote) (records-next c.args.report.now c.args.n l.i (omega arith));
    }
