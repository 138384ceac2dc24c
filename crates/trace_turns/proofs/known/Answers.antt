use native.Mathlib.Omega.{arith}
use Rattle.trace_events.specs.Events.{stored_by}
use Rattle.trace_items.proofs.Reading.{item-as, registers-two, body-most}
use Rattle.trace_turns.proofs.Registering.{registry-walk, registry-fits}
use Rattle.trace_turns.proofs.known.Goals as goal

pub happens-requires : goal.happens-requires
happens-requires c =
    omega (arith, body-most c.args.kind, c.requires.1)

pub returns-in-None-clause-of_walk : goal.returns-in-None-clause-of_walk
returns-in-None-clause-of_walk c =
    let e = item-as _ _ c.args.kind c.args.body.now c.in-None.is c.item_of.ensures in
    rw (← e) (registry-walk c.args.held.now c.args.kind c.args.body.now _ c.registers.ensures.value (stored_by c.args.lent.now) _)

pub returns-in-None-clause-used_bound : goal.returns-in-None-clause-used_bound
returns-in-None-clause-used_bound c =
    let e = item-as _ _ c.args.kind c.args.body.now c.in-None.is c.item_of.ensures in
    (omega (arith, registers-two _ _ e, c.registers.ensures.used_bound), registry-fits c.args.held.now c.args.kind c.args.body.now _ c.registers.ensures.value _)

pub returns-in-Some-clause-of_walk : goal.returns-in-Some-clause-of_walk
returns-in-Some-clause-of_walk c =
    let e = item-as _ _ c.args.kind c.args.body.now c.in-Some.is c.item_of.ensures in
    rw (← e, ← c.requires.1) c.happens.ensures.of_walk

pub returns-in-Some-clause-used_bound : goal.returns-in-Some-clause-used_bound
returns-in-Some-clause-used_bound c =
    let e = item-as _ _ c.args.kind c.args.body.now c.in-Some.is c.item_of.ensures in
    (rw (← c.requires.1) (rw c.happens.ensures.of_walk.answered (omega arith)), c.happens.ensures.fits)
