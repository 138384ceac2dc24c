use Rattle.std.proofs.Common.{◌≡◌, rules, sym, ◌∙◌}
use Rattle.rules.specs.Summary.{row_for}
use Rattle.rules.proofs.Rows.{row-for-within}
use Rattle.summary.proofs.row_for.Goals as goal

pub returns-clause-by_index : goal.returns-clause-by_index
returns-clause-by_index c =
    let value : c.or_else.result ≡ row_for c.args.m.now c.args.association = search rules in
    λ i found. row-for-within c.args.m.now c.args.association i (sym value ∙ found)
