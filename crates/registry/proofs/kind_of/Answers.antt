use Rattle.std.proofs.Common.{rules, tests, eqb}
use Rattle.std.proofs.lemmas.Iterator.{YieldsList-from_slice}
use Rattle.std.proofs.lemmas.Iterator.Search.{find_from_yields_List}
use Rattle.rules.specs.declared.Entry.{Entry}
use Rattle.registry.proofs.Contexts.{kind-found}
use Rattle.registry.proofs.kind_of.Goals as goal

pub returns : goal.returns
returns c =
    let a = c.args in
    let found = find_from_yields_List (λ (e : Entry). eqb e.context.0 a.context.0) _ _ c.find.result c.find.ensures.ran (YieldsList-from_slice a.registry.now cc) (λ x b q k. search (rules, tests)) in
    kind-found a.registry.now a.context.0 _ c.find.result found c.map_or.ensures (λ b q. search (rules, tests))
