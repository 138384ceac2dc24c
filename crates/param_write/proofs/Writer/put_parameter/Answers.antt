use Rattle.param_write.proofs.Header.{writes_all}
use Rattle.param_write.proofs.Writer.put_parameter.Goals as goal

pub returns : goal.returns
returns c =
    writes_all _ _ _ _ c.put_context.ensures.wrote c.put_control.ensures.wrote c.put_addresses.ensures.wrote c.put.ensures
