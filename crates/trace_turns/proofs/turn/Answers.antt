use Rattle.std.proofs.Common.{◌∷◌, sym, ◌∙◌, arith}
use Rattle.trace_turns.specs.Turns.{Waiting, Stopping}
use Rattle.trace_events.specs.Events.{stored_by, lent_by}
use Rattle.trace_turns.proofs.Turning.{as-still, walked_none, walked-unknown, walked-short, walked-known}
use Rattle.trace_turns.proofs.turn.Goals as goal

pub returns-in_default-clause-of_walk : goal.returns-in_default-clause-of_walk
returns-in_default-clause-of_walk c =
    rw (walked_none c.args.held.now (stored_by c.args.lent.now) (lent_by c.args.lent.now) c.args.input.now c.in_default.ensures.cases) (as-still _ _ _ Waiting _ c.stays.ensures)

pub returns-in_default-body_length-clause-of_walk : goal.returns-in_default-body_length-clause-of_walk
returns-in_default-body_length-clause-of_walk c =
    rw (c.in-Some.ensures.cases.0, walked-unknown c.args.held.now (stored_by c.args.lent.now) (lent_by c.args.lent.now) (c.in-Some.field-0-0.now ∷ c.in-Some.rest.now) (λ e. omega arith) (sym c.body_length.ensures ∙ c.in_default-body_length.is)) (as-still _ _ _ Stopping _ c.stays-in_default-body_length.ensures)

pub returns-then-rest-n-clause-of_walk : goal.returns-then-rest-n-clause-of_walk
returns-then-rest-n-clause-of_walk c =
    rw (c.in-Some.ensures.cases.0, walked-short c.args.held.now (stored_by c.args.lent.now) (lent_by c.args.lent.now) (c.in-Some.field-0-0.now ∷ c.in-Some.rest.now) _ (λ e. omega arith) (sym c.body_length.ensures ∙ c.in-Some-body_length.is) (let h = c.if-rest-n.true in omega arith)) (as-still _ _ _ Waiting _ c.stays-then-rest-n.ensures)

pub returns-clause-of_walk : goal.returns-clause-of_walk
returns-clause-of_walk c =
    rw (c.in-Some.ensures.cases.0, walked-known c.args.held.now (stored_by c.args.lent.now) (lent_by c.args.lent.now) (c.in-Some.field-0-0.now ∷ c.in-Some.rest.now) _ (λ e. omega arith) (sym c.body_length.ensures ∙ c.in-Some-body_length.is) (let h = c.if-rest-n.false in omega arith)) c.known.ensures.of_walk
