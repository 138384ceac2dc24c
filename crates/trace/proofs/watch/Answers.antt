use Rattle.trace.proofs.Telling.{stop-begins, step-turn}
use Rattle.trace.proofs.watch.Goals as goal

pub tell-requires : goal.tell-requires
tell-requires g c =
    let first = rw c.requires at c.tell_first.ensures.wrote.wrote in
    (c.turn-t.ensures.used_in_bounds.1, (c.tell_first.ensures.begins, stop-begins c.args.held.now _ _ g.W.Watcher.which _ _ _ _ c.turn-t.result _ _ c.turn-t.ensures.of_walk first))

pub returns-clause-of_turn : goal.returns-clause-of_turn
returns-clause-of_turn g c =
    let first = rw c.requires at c.tell_first.ensures.wrote.wrote in
    step-turn c.args.held.now _ _ _ _ _ _ c.turn-t.result _ _ _ _ _ _ c.turn-t.ensures.of_walk _ _ first c.tell.ensures.wrote.wrote c.count.ensures c.stops.ensures
