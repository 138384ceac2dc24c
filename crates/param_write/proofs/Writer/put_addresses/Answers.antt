use borrow.Author.Tests.{eq-eqb, ne_eqb}
use Rattle.param_write.proofs.Header.{writes_then, writes_none}
use Rattle.param_write.proofs.Writer.put_addresses.Goals as goal

pub returns-then-kind-eq2-clause-wrote : goal.returns-then-kind-eq2-clause-wrote
returns-then-kind-eq2-clause-wrote c =
    simp (eq-eqb _ _ c.if-kind-eq2.true) (writes_then c.put_address.ensures.wrote c.put_address-then-kind-eq2.ensures.wrote)

pub returns-else-kind-eq2-clause-wrote : goal.returns-else-kind-eq2-clause-wrote
returns-else-kind-eq2-clause-wrote c = simp (ne_eqb _ _ c.if-kind-eq2.false) (writes_none _)
