use Rattle.sound_rows.proofs.First.{empty-more}
use Rattle.sound_rows.proofs.rest_from.Goals as goal

pub loop-i-preserved : goal.loop-i-preserved
loop-i-preserved c = empty-more c.args.m.now c.args.at c.loop-i.i c.loop-i.rest c.rest_of.result c.loop-i.invariant c.rest_of.ensures
