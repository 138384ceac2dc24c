use Rattle.std.proofs.Common.{◌∙◌}
use Rattle.sender.proofs.Steps.{total, emit-refused, emit-done}
use Rattle.sender.specs.Steps.{octets_with}
use Rattle.sender.proofs.emit.Goals as goal

pub returns-then-area-total : goal.returns-then-area-total
returns-then-area-total c =
    let a = c.args in
    let n = total a.kind a.q a.p a.h _ _ _ c.requires _ _ _ c.heading-g.ensures c.extra.ensures.value c.part-information.ensures in
    emit-refused _ _ _ (rw n at c.if-area-total.true)

pub returns : goal.returns
unfolding octets_with
returns c =
    let a = c.args in
    let n = total a.kind a.q a.p a.h _ _ _ c.requires _ _ _ c.heading-g.ensures c.extra.ensures.value c.part-information.ensures in
    emit-done _ _ _ _ _ (rw n at c.if-area-total.false) n (c.write.ensures ∙ rw (c.heading-g.ensures, c.part-information.ensures))
