use Rattle.rules.proofs.Numbers.{elapsed-is}
use Rattle.std.proofs.Common.{arith}
use Rattle.table.proofs.elapsed.Goals as goal

pub returns : goal.returns
returns c =
    let a = c.args in
    elapsed-is a.new a.old c.wrapping_sub_u32.result (omega arith) (omega arith) (omega arith) c.wrapping_sub_u32.ensures.value
