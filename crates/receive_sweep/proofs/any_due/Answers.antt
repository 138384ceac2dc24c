use Rattle.std.proofs.Common.{rules, ◌∙◌}
use Rattle.std.proofs.lemmas.Iterator.{YieldsList-from_slice}
use Rattle.std.proofs.lemmas.Iterator.Search.{any_from_yields_List}
use Rattle.receive_sweep.specs.Sweeping.{test_of}
use Rattle.receive_sweep.proofs.Sweeping.{any_placed}
use Rattle.receive_sweep.proofs.any_due.Goals as goal

pub returns : goal.returns
returns g c =
    let a = c.args in
    any_from_yields_List (test_of (g.D.Due.test a.which.now)) _ _ _ c.any.ensures.ran (YieldsList-from_slice a.t.now.places cc) (λ x b q k. search rules) ∙ any_placed (test_of (g.D.Due.test a.which.now)) a.t.now.places 0
