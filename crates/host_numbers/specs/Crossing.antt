-- What does not cross as it is: a decision and a returned part, as numbers.
use Rattle.std.specs.Prelude.{if◌then◌else◌, ℕ, ◌≤◌, ◌<◌, List, eqb, length, take, drop}
use Rattle.rules.specs.Numbers.{place_count, place_start}
use Rattle.rules.specs.Places.{number_of, found_at}
use Rattle.rules.specs.Delivery.{delivery}
use Rattle.rules.specs.declared.Part.TheVariants.{OfParameter, OfStore}
use Rattle.rules.specs.declared.Decision.{Decision}
use Rattle.rules.specs.declared.Decision.TheVariants.{Refused, Saved, Delivered, Lost}
use Rattle.host_numbers.specs.declared.CDecision.{CDecision}
use Rattle.host_numbers.specs.declared.CPart.{CPart}

abbrev pub numbered : ℕ → ℕ → ℕ → ℕ → ℕ → CDecision
numbered kind place start n cause = record { place = place; start = start; length = n; kind = kind; cause = cause }

-- 0 refused, 1 saved, 2 delivered of the parameter, 3 delivered of the store, 4 lost
abbrev pub c_decision_of : Decision → CDecision
c_decision_of Refused = numbered 0 0 0 0 0
c_decision_of (Saved p) = numbered 1 p 0 0 0
c_decision_of (Delivered (OfParameter start n)) = numbered 2 0 start n 0
c_decision_of (Delivered (OfStore p n)) = numbered 3 p 0 n 0
c_decision_of (Lost cause found) = numbered 4 (number_of found) 0 0 cause

-- any other kind is no delivery
abbrev pub decision_of : CDecision → Decision
decision_of o =
    if eqb o.kind 1 then Saved o.place else
    if eqb o.kind 2 then Delivered (OfParameter o.start o.length) else
    if eqb o.kind 3 then Delivered (OfStore o.place o.length) else
    if eqb o.kind 4 then Lost o.cause (found_at o.place) else Refused

abbrev pub c_part : ℕ → ℕ → ℕ → CPart
c_part source start n = record { start = start; length = n; source = source }

-- where so many delivered octets are; none are nowhere
abbrev pub located : Decision → ℕ → CPart
located Refused n = c_part 0 0 0
located (Saved p) n = c_part 0 0 0
located (Delivered (OfParameter start m)) n = if eqb n 0 then c_part 0 0 0 else c_part 0 start n
located (Delivered (OfStore p m)) n = if eqb n 0 then c_part 0 0 0 else c_part 1 (place_start p) n
located (Lost cause found) n = c_part 0 0 0

-- the delivery of a decision that crossed, as the host finds it
abbrev pub c_part_of : CDecision → List ℕ → List ℕ → CPart
c_part_of o s store = located (decision_of o) (length (delivery (decision_of o) s store))

-- what the host takes
abbrev pub taken : CPart → List ℕ → List ℕ → List ℕ
taken r s store = take r.length (drop r.start (if eqb r.source 0 then s else store))

-- octets are delivered of one of the 16 places only
abbrev pub Within : Decision → ℕ → Type 0
Within Refused n = Unit {0}
Within (Saved p) n = Unit {0}
Within (Delivered (OfParameter start m)) n = Unit {0}
Within (Delivered (OfStore p m)) n = 1 ≤ n → p < place_count
Within (Lost cause found) n = Unit {0}
