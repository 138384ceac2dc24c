use Rattle.receive_carry.proofs.Carrying.{as-unsegmented, as-broken, as-restart, as-start, as-final, as-next}
use Rattle.receive_carry.proofs.judge.Goals as goal

pub returns-in-Unsegmented-clause-leads : goal.returns-in-Unsegmented-clause-leads
returns-in-Unsegmented-clause-leads c t store report octets h n =
    rw (c.in-Unsegmented.is, c.unsegmented.ensures) (rw n at (as-unsegmented t c.args.j h store report octets))

pub returns-in-Broken-clause-leads : goal.returns-in-Broken-clause-leads
returns-in-Broken-clause-leads c t store report octets h n =
    rw (c.in-Broken.is, c.broken.ensures) (rw n at (as-broken t c.args.j h store report octets c.in-Broken.cause))

pub returns-in-Restart-clause-leads : goal.returns-in-Restart-clause-leads
returns-in-Restart-clause-leads c t store report octets h n =
    rw (c.in-Restart.is, c.restart.ensures) (rw n at (as-restart t c.args.j h store report octets (rw c.in-Restart.is at c.requires)))

pub returns-in-Start-clause-leads : goal.returns-in-Start-clause-leads
returns-in-Start-clause-leads c t store report octets h n =
    rw (c.in-Start.is, c.start.ensures) (rw n at (as-start t c.args.j h store report octets))

pub returns-in-Final-clause-leads : goal.returns-in-Final-clause-leads
returns-in-Final-clause-leads c t store report octets h n =
    rw (c.in-Final.is, c.finish.ensures) (rw n at (as-final t c.args.j h store report octets (rw c.in-Final.is at c.requires).0))

pub returns-in-Next-clause-leads : goal.returns-in-Next-clause-leads
returns-in-Next-clause-leads c t store report octets h n =
    rw (c.in-Next.is, c.go_on.ensures) (rw n at (as-next t c.args.j h store report octets (rw c.in-Next.is at c.requires).0))
