use Rattle.trace.proofs.Telling.{opens-short, opens-long}
use Rattle.trace.proofs.opens_next.Goals as goal

pub returns-then-input-lt9 : goal.returns-then-input-lt9
returns-then-input-lt9 c = opens-short c.args.input.now c.if-input-lt9.true

pub returns : goal.returns
returns c = opens-long c.args.input.now c.if-input-lt9.false
