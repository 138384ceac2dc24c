use Rattle.std.proofs.Common.{rules, arith, ◌-◌, ◌∙◌, drop, length-drop}
use Rattle.std.proofs.Math.Seq.{take_all}
use Rattle.std.specs.Prelude.{leb}
use Rattle.std.proofs.lemmas.Iterator.{YieldsList-from_slice}
use Rattle.std.proofs.lemmas.Iterator.Search.{all_from_yields_List}
use Rattle.rules.specs.Summary.{total_most}
use Rattle.loopback.proofs.Room.{all-roomy}
use Rattle.loopback.proofs.is_roomy.Goals as goal

pub returns : goal.returns
returns c =
    let m = c.args.m.now in
    let totals = take_all 384 (drop 128 m) (omega (arith, length-drop 128 m)) in
    all_from_yields_List (λ n. leb n (total_most - 65536)) _ _ _ c.all.ensures.ran (YieldsList-from_slice (drop 128 m) (rw c.iter.ensures.rest totals)) (λ x b q k. search rules)
    ∙ all-roomy m c.told-m
