use mathlib.Core.Path.{◌∙◌}
use Rattle.host_numbers.specs.Crossing.{decision_of}
use Rattle.host_numbers.proofs.Crossing.{taken-delivery, delivery-within}
use Rattle.host.proofs.egrynnol_4_delivery.Goals as goal

pub located_at-requires : goal.located_at-requires
located_at-requires c = rw c.delivery-part.ensures.handed (delivery-within _ _ c.from-d.result)

pub returns : goal.returns
returns c =
    let d = c.from-d.ensures in
    let n = c.delivery-part.ensures.handed in
    record {
      answered = c.located_at.ensures ∙ rw (n, d);
      delivered = rw (c.located_at.ensures, n, d) (taken-delivery c.args.s.now c.args.store.now (decision_of c.args.decision));
    }
