use Rattle.std.proofs.Common.{refl, add-one}
use mathlib.Core.Bool.{and_comm}
use Rattle.rules.specs.Summary.{every_below}
use Rattle.sound_rows.specs.Listing.{name_fits}
use Rattle.sound_rows.proofs.Bits.{or-below}
use Rattle.sound_rows.proofs.names_of.Goals as goal

pub loop-i-preserved : goal.loop-i-preserved
loop-i-preserved c =
    let m = c.args.m.now in
    let i = c.loop-i.i in
    rw (add-one i, or-below 16 _ _ 65535 refl, c.loop-i.invariant) (and_comm (every_below i (name_fits m)) (name_fits m i))
