use Rattle.std.proofs.lemmas.Result.{err_from_is_err_and}
use Rattle.sender.proofs.Steps.{unasked, uncut, ready, sent}
use Rattle.sender.proofs.segment.Goals as goal

pub returns-in_err-judge : goal.returns-in_err-judge
returns-in_err-judge c =
    let p = err_from_is_err_and c.from_residual.result c.from_residual.ensures.1 in
    rw (p.1, p.2) (unasked _ _ _ _ _ c.is_sound-sound.ensures c.kind_of-kind.ensures _ c.in_err-judge.ensures)

pub returns-in_err-p : goal.returns-in_err-p
returns-in_err-p c =
    let p = err_from_is_err_and c.from_residual-in_err-p.result c.from_residual-in_err-p.ensures.1 in
    rw (p.1, p.2) (uncut _ _ _ _ _ c.is_sound-sound.ensures c.kind_of-kind.ensures c.in_ok-judge.ensures c.header_length-h.ensures.value _ c.in_err-p.ensures.value)

pub emit-requires : goal.emit-requires
emit-requires c =
    ready _ _ _ _ _ c.is_sound-sound.ensures c.kind_of-kind.ensures c.in_ok-judge.ensures c.header_length-h.ensures.value c.header_length-h.ensures.upper_bound _ c.in_ok-p.ensures.cut_possible

pub returns : goal.returns
returns c =
    sent _ _ _ _ _ c.is_sound-sound.ensures c.kind_of-kind.ensures c.in_ok-judge.ensures c.header_length-h.ensures.value _ c.in_ok-p.ensures.value c.emit.ensures
