use Rattle.std.specs.Prelude.{refl}
use Rattle.std.proofs.Common.{◌∙◌}
use Rattle.rules.proofs.Rows.{row-for-within}
use Rattle.receive_count.proofs.Counting.{seated-room, sums-is}
use Rattle.receive_count.proofs.perform.Goals as goal

pub seat-requires : goal.seat-requires
seat-requires c =
    row-for-within c.args.m.now c.args.association c.args.row (c.requires.row _ refl)

pub add-requires : goal.add-requires
add-requires c =
    let a = c.args in
    let within = row-for-within a.m.now a.association a.row (c.requires.row _ refl) in
    (within, rw c.seat.ensures (seated-room a.m.now a.row a.association a.n a.v.told within ∙ c.requires.room _ refl))

pub returns : goal.returns
returns c =
    let a = c.args in
    λ key own. c.add.ensures ∙ rw c.seat.ensures (sums-is a.m.now c.told-m a.association a.n a.row (c.requires.row _ refl) key own a.v)
