use Rattle.std.proofs.Common.{◌≡◌, ◌≤◌, refl, sym, ap, ◌∙◌, ℕ, List, length, drop, length-drop, Ok, arith}
use Rattle.rules.specs.Numbers.{parameter_most}
use Rattle.rules.specs.Refusals.{unplaced}
use Rattle.rules.specs.declared.Fields.{Fields}
use Rattle.rules.specs.declared.Table.{Table}
use Rattle.param_read.specs.Reading.{reading}
use Rattle.receive_seek.proofs.Reading.{read_short}
use Rattle.table.specs.Seeking.{place_in}
use Rattle.receive_segment.specs.Arrival.{arrival}
use Rattle.receive_segment.proofs.Arriving.{leads-as, leads-of, refuses, is-full, is_carried, fit}
use Rattle.receive_segment.proofs.arrive.Goals as goal

-- the information of a parameter that was read is short
info-short : (t : Table) (f : Fields) (i : ℕ) (s l : List ℕ) → reading t.registry s ≡ Ok f → l ≡ drop i s → length l ≤ parameter_most
info-short t f i s l r e =
    let long = (read_short t s f r).parameter in
    rw (e, length-drop i s) (omega arith)

pub line_of-line-requires : goal.line_of-line-requires
line_of-line-requires c = info-short c.args.t.now c.args.f _ c.args.s.now _ c.requires.t_value.1.0 c.tail-n.ensures

pub overflow_cast-j : goal.overflow_cast-j
overflow_cast-j c =
    let short = info-short c.args.t.now c.args.f _ c.args.s.now _ c.requires.t_value.1.0 c.tail-n.ensures in
    omega arith

pub returns-then-full-clause-by_index : goal.returns-then-full-clause-by_index
returns-then-full-clause-by_index c store report =
    let a = c.args in
    let there = c.requires.at_lt_place_count.1 in
    let line = c.line_of-line.ensures in
    leads-as
    (is-full a.t.now store report a.f c.tail-n.result.now a.q a.held c.line_of-line.result c.requires.t_value.1.1 there (rw c.is_found.ensures at line.value) (rw c.is_found.ensures at line.tells) (rw (c.starts.ensures, c.is_nowhere.ensures) at c.if-full.true)
    ∙ ap (arrival a.t.now store report a.q.key a.f) c.tail-n.ensures)
    (refuses a.t.now (place_in a.q.search) (unplaced 10) a.q.key a.held _ there (rw c.unplaced.ensures at c.refused.ensures) _ store report)

pub invariant_of-j : goal.invariant_of-j
invariant_of-j c =
    let room = rw (← c.requires.at_lt_place_count.1) at (fit c.args.t.now (place_in c.args.q.search) c.requires.t_value.0) in
    record { octets_fit = room.octets; segments_fit = room.segments }

pub returns-clause-by_index : goal.returns-clause-by_index
returns-clause-by_index c store report =
    let a = c.args in
    let there = c.requires.at_lt_place_count.1 in
    let line = c.line_of-line.ensures in
    let v = c.judge.ensures in
    leads-of (c.tail-n.ensures ∙ ap (λ (n : ℕ). drop n a.s.now) (sym v.information_value.0))
    (leads-as
    (is_carried a.t.now store report a.f c.tail-n.result.now a.q a.held c.line_of-line.result c.requires.t_value.1.1 there (rw c.is_found.ensures at line.value) (rw c.is_found.ensures at line.tells) _ _ _ (rw (c.starts.ensures, c.is_nowhere.ensures) at c.if-full.false)
    ∙ ap (arrival a.t.now store report a.q.key a.f) c.tail-n.ensures)
    (v.leads a.t.now store report c.tail-n.result.now (refl, there) refl))
