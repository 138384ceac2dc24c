use mathlib.Core.Path.{◌∙◌}
use native.Mathlib.Omega.{arith}
use Rattle.trace_lines.proofs.Digits.{decimal_is}
use Rattle.trace_lines.proofs.Writer.put_number.Goals as goal

pub returns-clause-wrote : goal.returns-clause-wrote
returns-clause-wrote c = rw (c.as_bytes.ensures.value ∙ c.format.ensures.text ∙ decimal_is c.args.x (omega arith)) at c.put_word.ensures
