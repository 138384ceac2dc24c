use borrow.Author.Tests.{lt-ltb, le-ltb}
use Rattle.trace_records.proofs.hex_digit.Goals as goal

pub returns-then-x-lt10 : goal.returns-then-x-lt10
returns-then-x-lt10 c = simp (lt-ltb _ 10 c.if-x-lt10.true)

pub returns : goal.returns
returns c = simp (le-ltb _ 10 c.if-x-lt10.false)
