use Rattle.std.proofs.Common.{rules, tests, ◌&&◌, Bool, true, ◌∙◌}
use Rattle.std.proofs.lemmas.Iterator.{YieldsList-from_slice}
use Rattle.std.proofs.lemmas.Iterator.Consumers.{fold_from_yields_List}
use Rattle.rules.specs.Registry.{is_usable}
use Rattle.rules.specs.declared.Entry.{Entry}
use Rattle.registry.proofs.Contexts.{fold-every}
use Rattle.registry.proofs.all_usable.Goals as goal

pub returns : goal.returns
returns c =
    let a = c.args in
    fold_from_yields_List _ (λ (b : Bool) (e : Entry). b && is_usable e) true c.fold.result c.fold.ensures.ran (YieldsList-from_slice a.registry.now cc) (λ r x b q k. search (rules, tests))
    ∙ fold-every is_usable true a.registry.now
