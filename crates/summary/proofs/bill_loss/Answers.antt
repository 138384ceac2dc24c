use Rattle.std.proofs.Common.{sym, ◌∙◌}
use Rattle.rules.proofs.Fitting.{fits-same}
use Rattle.summary.proofs.bill_loss.Goals as goal

pub returns-in-Some : goal.returns-in-Some
returns-in-Some c =
    let found = sym c.row_of.ensures.value ∙ c.in-Some.is in
    record { value = rw found c.lose_in.ensures.value; m_after = rw found c.lose_in.ensures.m_after }

pub returns-in-None : goal.returns-in-None
returns-in-None c =
    let none = sym c.row_of.ensures.value ∙ c.in-None.is in
    record { value = rw (none, fits-same c.args.m.now); m_after = rw (none, fits-same c.args.m.now) }
