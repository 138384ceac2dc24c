use Rattle.std.proofs.Common.{sym, ◌∙◌, arith}
use Rattle.rules.specs.Places.{holds, is_free}
use Rattle.table.proofs.Seeking.{found-within, points-found, points-vacant, points-none}
use Rattle.table.proofs.search_for.Goals as goal

pub returns-in-Some : goal.returns-in-Some
returns-in-Some c =
    let found = sym c.place_of.ensures ∙ c.in-Some.is in
    rw found (points-found _ c.in-Some.at (omega (arith, found-within (holds c.args.k.now) c.args.places.now 0 c.in-Some.at found)))

pub returns-in-Some-lowest_free : goal.returns-in-Some-lowest_free
returns-in-Some-lowest_free c =
    let free = sym c.lowest_free.ensures ∙ c.in-Some-lowest_free.is in
    rw (sym c.place_of.ensures ∙ c.in_default.is, free) (points-vacant c.in-Some-lowest_free.at (omega (arith, found-within is_free c.args.places.now 0 c.in-Some-lowest_free.at free)))

pub returns-in-None : goal.returns-in-None
returns-in-None c = rw (sym c.place_of.ensures ∙ c.in_default.is, sym c.lowest_free.ensures ∙ c.in-None.is) points-none
