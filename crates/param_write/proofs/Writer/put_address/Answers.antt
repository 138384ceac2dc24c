use Rattle.param_write.proofs.Header.{writes_then}
use Rattle.param_write.proofs.Writer.put_address.Goals as goal

pub returns-clause-wrote : goal.returns-clause-wrote
returns-clause-wrote c = writes_then c.put.ensures c.put-2.ensures
