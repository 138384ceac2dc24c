use Rattle.sound_free.proofs.Weights.{weight-nought}
use Rattle.sound_free.proofs.weight.Goals as goal

pub returns : goal.returns
returns c =
    rw (c.from.ensures, c.from-2.ensures, c.from-3.ensures, c.from-4.ensures, c.from-5.ensures)
    (weight-nought c.args.p.now _ _ _ c.address_weight.ensures c.address_weight-2.ensures c.word-rest.ensures.result_value)
