use Rattle.std.proofs.Common.{◌≡◌, Some, true, false, sym, ◌∙◌, arith}
use Rattle.rules.specs.Summary.{row_for}
use Rattle.receive_count.proofs.Counting.{last-number, room-is}
use Rattle.receive_count.proofs.judge.Goals as goal

pub returns-then-has_room : goal.returns-then-has_room
returns-then-has_room c =
    let a = c.args in
    let for : row_for a.m.now a.association ≡ Some c.in_ok-row.row = grind arith in
    let room = sym c.has_room.ensures ∙ c.if-has_room.true in
    record {
      number = λ key own. sym (last-number a.m.now _ a.association (Some _) true for (room-is a.m.now c.told-m a.association a.n _ for key own a.v ∙ room));
      row = λ i e. cc;
      room = λ i e. cc;
    }

pub returns-else-has_room : goal.returns-else-has_room
returns-else-has_room c =
    let a = c.args in
    let for : row_for a.m.now a.association ≡ Some c.in_ok-row.row = grind arith in
    let room = sym c.has_room.ensures ∙ c.if-has_room.false in
    record {
      number = λ key own. sym (last-number a.m.now _ a.association (Some _) false for (room-is a.m.now c.told-m a.association a.n _ for key own a.v ∙ room));
      row = λ i e. cc;
      room = λ i e. cc;
    }
