use Rattle.std.proofs.Common.{sym, arith}
use Rattle.rules.proofs.Nought.{or-nought}
use Rattle.sound_free.proofs.Weights.{address-zero}
use Rattle.sound_free.proofs.address_weight.Goals as goal

pub returns : goal.returns
returns c =
    simp or-nought
    (rw (c.from.ensures, c.word-5.ensures.result_value, c.word-4.ensures.result_value, c.word-3.ensures.result_value, c.word-2.ensures.result_value, c.word.ensures.result_value)
    (sym (address-zero c.args.a.now (omega arith))))
