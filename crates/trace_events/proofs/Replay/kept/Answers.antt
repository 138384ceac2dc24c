use borrow.Author.Tests.{le-ltb}
use Rattle.trace_events.proofs.Keeping.{keeps}
use Rattle.trace_events.proofs.Replay.kept.Goals as goal

pub returns : goal.returns
returns c = keeps c.args.self.now c.args.kind _ _ (le-ltb _ _ c.if-self-gt24.false) c.put_at.ensures
