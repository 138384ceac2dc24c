use Rattle.std.proofs.Common.{◌≡◌, sym, ◌∙◌, arith}
use Rattle.rules.specs.Summary.{fits, tally}
use Rattle.rules.proofs.Fitting.{fits-tally}
use Rattle.summary.proofs.lose_in.Goals as goal
use Rattle.summary.proofs.lose_in.Goals.{After-has_room}

-- what is asked before a sum is made is what the rules ask of it
asked : (c : After-has_room) → c.has_room.result ≡ fits c.args.m.now (tally c.args.m.now 6 c.args.row c.args.segments c.args.octets)
asked c =
    let a = c.args in
    c.has_room.ensures ∙ sym (fits-tally a.m.now 6 a.row a.segments a.octets c.told-m (omega arith) c.requires (omega arith))

pub returns-then-not-has_room : goal.returns-then-not-has_room
returns-then-not-has_room c =
    let no = sym (asked (goal.at.returns-then-not-has_room c).After-has_room) ∙ c.if-not-has_room.true in
    record { value = rw no; m_after = rw no }

pub returns : goal.returns
returns c =
    let yes = sym (asked (goal.at.returns c).After-has_room) ∙ c.if-not-has_room.false in
    record { value = rw yes; m_after = rw yes c.add.ensures }
