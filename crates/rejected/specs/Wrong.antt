-- WRONG MACHINES. Each is ours but for one error, and breaks a demand: proofs/Rejected.antt.
use Rattle.std.specs.Prelude.{if◌then◌else◌, ℕ, ◌+◌, ◌-◌, ◌%◌, Bool, true, false, not, ◌&&◌, List, [], ◌∷◌, ◌++◌, map, eqb, leb, ltb, length, take, drop, get_or, set, replicate, Option, Some, None}
use Rattle.octets.specs.Number.{number}
use Rattle.octets.specs.Splice.{splice}
use Rattle.rules.specs.General.{every, those}
use Rattle.rules.specs.Numbers.{stretch_length, place_start, parameter_most}
use Rattle.rules.specs.Refusals.{nowhere, Check, accepted, unplaced, judged_at}
use Rattle.rules.specs.Registry.{kind_of}
use Rattle.rules.specs.Records.{delivered, lost, address_of, record_octets, records_octets}
use Rattle.rules.specs.Layout.{is_unsegmented, fields_of, context_octets, parameter_octets}
use Rattle.rules.specs.Places.{free_place, is_open, is_free, same_octets, same_address, first_from, place_of, lowest_free, is_at, place_at, put_place}
use Rattle.rules.specs.Receiving.{key_of, information_of, record_with, open_place, line_of, line_at, Effect, effect_of, reception_of, received_at, taking_checks}
use Rattle.rules.specs.Sweep.{Sweeping, sweep}
use Rattle.rules.specs.Summary.{Counted, counting, unused_row, tally, took_at, took, billed, segment_sums, sweep_sums}
use Rattle.rules.specs.Arrival.{table_after, behind, stands, both_with}
use Rattle.rules.specs.Opening.{registry_with}
use Rattle.rules.specs.Delivery.{delivery, part_of_place}
use Rattle.rules.specs.Sending.{header_length, is_segmented, count_of, first_carries, later_carries, piece_of, heading_for, carried, segment_octets}
use Rattle.rules.specs.Calls.{State, state_of, Call, Opens, Arrives, Ticks, Releases, Sends, to_arrive, to_tick, Arrival, Tick, Release, Dispatch, lending, Decided, Undecided, As, Answer, answering, refusing}
use Rattle.rules.specs.Calls.{Outcome, after_arrival, after_sweep, after_sending, step}
use Rattle.rules.specs.declared.Address.{Address}
use Rattle.rules.specs.declared.Key.{Key}
use Rattle.rules.specs.declared.Fields.{Fields}
use Rattle.rules.specs.declared.Heading.{Heading}
use Rattle.rules.specs.declared.Place.{Place}
use Rattle.rules.specs.declared.Table.{Table}
use Rattle.rules.specs.declared.Record.{Record}
use Rattle.rules.specs.declared.Request.{Request}
use Rattle.rules.specs.declared.Line.{Line}
use Rattle.rules.specs.declared.Line.TheVariants.{Unsegmented, Broken, Restart, Start, Final, Next}
use Rattle.rules.specs.declared.Part.TheVariants.{OfParameter, OfStore}
use Rattle.rules.specs.declared.Decision.{Decision}
use Rattle.rules.specs.declared.Decision.TheVariants.{Refused, Saved, Delivered, Lost}
use Rattle.demands.specs.Machine.{Machine, clock_of, checks_of}
use Rattle.demands.specs.Demand1.{unmoved, refused_outcome, fault_in}
use Rattle.demands.specs.History.{is_restart, records_in, timeouts_in, own_in}

abbrev outcome : Answer → State → Outcome
outcome a st = record { answer = a; state = st }

-- an error in the step alone
abbrev stepping : (State → Call → Outcome) → Machine
stepping f = record { step = f; deliver = delivery }

-- an error where ours accepts: ours for what it refuses
abbrev where_accepted : (State → Call → Outcome) → Machine
where_accepted f = stepping (λ st c. if accepted (checks_of st c) then f st c else step st c)

-- an error in one kind of call: ours for the others
abbrev on_segment : (State → Arrival → Outcome) → State → Call → Outcome
on_segment f st (Opens x) = step st (Opens x)
on_segment f st (Arrives x) = f st x
on_segment f st (Ticks x) = step st (Ticks x)
on_segment f st (Releases x) = step st (Releases x)
on_segment f st (Sends x) = step st (Sends x)

abbrev on_clock : (State → Tick → Outcome) → State → Call → Outcome
on_clock f st (Opens x) = step st (Opens x)
on_clock f st (Arrives x) = step st (Arrives x)
on_clock f st (Ticks x) = f st x
on_clock f st (Releases x) = step st (Releases x)
on_clock f st (Sends x) = step st (Sends x)

abbrev on_release : (State → Release → Outcome) → State → Call → Outcome
on_release f st (Opens x) = step st (Opens x)
on_release f st (Arrives x) = step st (Arrives x)
on_release f st (Ticks x) = step st (Ticks x)
on_release f st (Releases x) = f st x
on_release f st (Sends x) = step st (Sends x)

abbrev on_sending : (State → Dispatch → Outcome) → State → Call → Outcome
on_sending f st (Opens x) = step st (Opens x)
on_sending f st (Arrives x) = step st (Arrives x)
on_sending f st (Ticks x) = step st (Ticks x)
on_sending f st (Releases x) = step st (Releases x)
on_sending f st (Sends x) = f st x

-- a receiver that refuses everything
abbrev pub refuses : Machine
refuses = stepping (on_segment (λ st x. outcome (refusing (unplaced 1) (Arrives x)) st))

-- every segment is lost with cause 1, and the state stays
abbrev pub loses_all : Machine
loses_all = where_accepted (on_segment (λ st x.
    let f : Fields = fields_of st.table.registry x.parameter in
    let r : Record = record_with lost 1 (key_of x.association x.parameter f) f.heading.instruction 1 (length (information_of x.parameter f)) in
    outcome (answering (unplaced 0) 1 0 (As (Lost 1 None)) (lending (splice x.report 0 (record_octets r)) [])) st))

-- the right answers, and table and store stay as before the segment
abbrev pub forgets : Machine
forgets = stepping (on_segment (λ st x. outcome (step st (Arrives x)).answer st))

-- the right answers and the right table, and only a first segment is written to the store
abbrev pub saves_first : Machine
saves_first = stepping (on_segment (λ st x.
    let o : Outcome = step st (Arrives x) in
    if (fields_of st.table.registry x.parameter).heading.new then o else
    outcome o.answer (state_of o.state.table o.state.summary st.store)))

-- an answer with these records at the front of its report
abbrev reporting : Answer → List Record → Answer
reporting a rs = answering (unplaced a.refusal) (length rs) a.timeouts a.decided (lending (splice a.lent.report 0 (records_octets rs)) a.lent.area)

-- the records of every receiving call are others
abbrev recording : (Record → Record) → Machine
recording f = stepping (λ st c.
    let o : Outcome = step st c in
    if eqb o.answer.records 0 then o else outcome (reporting o.answer (map f (records_in o.answer))) o.state)

-- every record counts one segment too many; one octet too many
abbrev pub invents : Machine
invents = recording (λ r. record_with r.kind r.cause r.key r.instruction (r.segments + 1) r.octets)

abbrev pub invents_octets : Machine
invents_octets = recording (λ r. record_with r.kind r.cause r.key r.instruction r.segments (r.octets + 1))

-- a loss of no octets has the kind of a delivery
abbrev pub calls_it_delivered : Machine
calls_it_delivered = recording (λ r. if eqb r.octets 0 then record_with delivered r.cause r.key r.instruction r.segments 0 else r)

-- it never refuses: what ours refuses it takes in silence
abbrev pub never_refuses : Machine
never_refuses = stepping (λ st c. if accepted (checks_of st c) then step st c else outcome (refusing (unplaced 0) c) st)

-- it swallows an unsegmented parameter: accepted, and no record
abbrev pub swallows : Machine
swallows = where_accepted (on_segment (λ st x.
    let f : Fields = fields_of st.table.registry x.parameter in
    if is_unsegmented f.heading.new f.heading.remaining.0 then outcome (refusing (unplaced 0) (Arrives x)) st else step st (Arrives x)))

-- on a save it hands out the place's stretch of the store
abbrev too_soon : Decision → List ℕ → List ℕ → List ℕ
too_soon Refused s store = delivery Refused s store
too_soon (Saved place) s store = part_of_place store place stretch_length
too_soon (Delivered part) s store = delivery (Delivered part) s store
too_soon (Lost cause place) s store = delivery (Lost cause place) s store

abbrev pub hands_out_early : Machine
hands_out_early = record { step = step; deliver = too_soon }

-- for an answer that was made up it hands out as much of the store as that says
abbrev too_much : Decision → List ℕ → List ℕ → List ℕ
too_much Refused s store = delivery Refused s store
too_much (Saved place) s store = delivery (Saved place) s store
too_much (Delivered (OfParameter start n)) s store = delivery (Delivered (OfParameter start n)) s store
too_much (Delivered (OfStore place n)) s store = take n (drop (place_start place) store)
too_much (Lost cause place) s store = delivery (Lost cause place) s store

abbrev pub hands_out_more : Machine
hands_out_more = record { step = step; deliver = too_much }

-- a release with nothing open makes an empty loss: cause 7, no segment, no octet
abbrev empty_loss : ℕ → Record
empty_loss association =
    record_with lost 7
    (record { association = association; context = record { 0 = 0 }; origin = address_of []; destination = address_of []; reference = record { 0 = 0 } })
    0 0 0

abbrev pub loses_nothing : Machine
loses_nothing = where_accepted (on_release (λ st x.
    let o : Outcome = step st (Releases x) in
    if eqb o.answer.records 0 then outcome (reporting o.answer (empty_loss x.association ∷ [])) o.state else o))

-- a release ends nothing: accepted, and no record
abbrev pub releases_nothing : Machine
releases_nothing = where_accepted (on_release (λ st x. outcome (refusing (unplaced 0) (Releases x)) st))

-- a sending makes a record too
abbrev pub records_sending : Machine
records_sending = stepping (on_sending (λ st x.
    let a : Answer = (step st (Sends x)).answer in
    outcome (record { refusal = a.refusal; position = a.position; records = 1; timeouts = 0; decided = a.decided; count = a.count; length = a.length; lent = a.lent }) st))

-- THE RELEASE, as the rules have it but for the table that it leaves with nothing open
abbrev pub emptying : (Table → Table) → Machine
emptying change = where_accepted (on_release (λ st x.
    let o : Outcome = step st (Releases x) in
    if every is_free o.state.table.places then outcome o.answer (state_of (change o.state.table) o.state.summary o.state.store) else o))

-- it clears the registry; T becomes 1; the clock goes back to 0
abbrev pub clears_registry : Machine
clears_registry = emptying (λ t. record { places = t.places; registry = registry_with []; timer = t.timer; clock = t.clock })

abbrev pub moves_timer : Machine
moves_timer = emptying (λ t. record { places = t.places; registry = t.registry; timer = 1; clock = t.clock })

abbrev pub moves_clock : Machine
moves_clock = emptying (λ t. record { places = t.places; registry = t.registry; timer = t.timer; clock = 0 })

-- THE SENDER, as the rules have it but for the octets that it writes, by its table, its area, the kind and the rest
abbrev Writing : Type 0
Writing = Table → List ℕ → ℕ → Request → List ℕ → List ℕ → List ℕ → List ℕ

abbrev pub sending : Writing → Machine
sending write = where_accepted (on_sending (λ st x.
    let q : Request = x.request in
    let kind : ℕ = kind_of st.table.registry q.context.0 in
    let octets : List ℕ = write st.table x.area kind q x.origin x.destination x.whole in
    after_sending st (record {
      answer = record { refusal = 0; count = count_of (header_length kind q.context.0 x.origin x.destination) q (length x.whole); length = length octets };
      area = splice x.area 0 octets;
    })))

abbrev pub as_ruled : Writing
as_ruled t area kind q o d whole = segment_octets kind q o d whole

-- the destination is left out
abbrev pub leaves_out : Machine
leaves_out = sending (λ t area kind q o d whole.
    let h : ℕ = header_length kind q.context.0 o d in
    parameter_octets (heading_for kind h q (length whole)) o [] (carried h q whole))

-- a spare bit of octet 2 is set
abbrev pub sets_spare : Machine
sets_spare = sending (λ t area kind q o d whole.
    let l : List ℕ = segment_octets kind q o d whole in
    let i : ℕ = length (context_octets q.context.0) in
    set l i (get_or l i 0 + 4))

-- the first of several carries so many octets, and the later ones follow on
abbrev cut_at : ℕ → ℕ → Request → List ℕ → List ℕ → List ℕ → List ℕ
cut_at a kind q o d whole =
    let h : ℕ = header_length kind q.context.0 o d in
    parameter_octets (heading_for kind h q (length whole)) o d
    (if is_segmented h q (length whole) then piece_of a (later_carries h q) whole q.number else whole)

-- one more than its room has; one less where the clock is odd, so that segments cut at two times do not fit together
abbrev pub cuts_past : Machine
cuts_past = sending (λ t area kind q o d whole. cut_at (first_carries (header_length kind q.context.0 o d) q + 1) kind q o d whole)

abbrev pub cuts_by_clock : Machine
cuts_by_clock = sending (λ t area kind q o d whole. cut_at (first_carries (header_length kind q.context.0 o d) q - t.clock % 2) kind q o d whole)

-- nonsense, in an area that would not hold every parameter
abbrev pub writes_nonsense : Machine
writes_nonsense = sending (λ t area kind q o d whole.
    let l : List ℕ = segment_octets kind q o d whole in
    if ltb (length area) parameter_most then replicate (length l) 0 else l)

-- THE SEGMENT OF AN ARRIVAL, as the rules have it but for four things: how the place of a key is found and one for a new sequence chosen, which line applies, and what is made of
-- its effect
abbrev Finding : Type 0
Finding = Key → List Place → Option ℕ

abbrev Choosing : Type 0
Choosing = List Place → Option ℕ

abbrev Deciding : Type 0
Deciding = Bool → ℕ → ℕ → Heading → ℕ → Line

abbrev Changing : Type 0
Changing = Line → Table → Fields → Option ℕ → Place → Effect → Effect

-- what an accepted arrival comes to: its segment meets what its clock work leaves
abbrev joined : Finding → Choosing → Deciding → Changing → State → Arrival → Outcome
joined find choose decide change st x =
    let w : Counted Sweeping = clock_of st x in
    let t : Table = table_after w in
    let f : Fields = fields_of t.registry x.parameter in
    let key : Key = key_of x.association x.parameter f in
    let octets : List ℕ = information_of x.parameter f in
    let place : Option ℕ = find key t.places in
    let p : Place = place_at t.places place in
    let line : Line = decide (is_at place) p.remaining.0 p.octets f.heading (length octets) in
    let e : Effect = effect_of line t st.store key f octets place p (choose t.places) in
    let m : List ℕ = segment_sums t w.summary st.store (behind w) x.association x.parameter in
    after_arrival (both_with w (counting m (reception_of t (behind w) (change line t f place p e))))

abbrev pub joining : Finding → Choosing → Deciding → Changing → Machine
joining find choose decide change = where_accepted (on_segment (joined find choose decide change))

abbrev pub unchanged : Changing
unchanged line t f place p e = e

abbrev finding : Finding → Machine
finding find = joining find lowest_free line_of unchanged

abbrev deciding : Deciding → Machine
deciding decide = joining place_of lowest_free decide unchanged

abbrev changing : Changing → Machine
changing change = joining place_of lowest_free line_of change

-- two keys with the same association, context and reference; each of their addresses is for another test
abbrev same_but : (Address → Address → Bool) → (Address → Address → Bool) → Finding
same_but from to k ps =
    first_from
    (λ p.
    is_open p && eqb p.key.association k.association && eqb p.key.context.0 k.context.0 && eqb p.key.reference.0 k.reference.0
    && from p.key.origin k.origin && to p.key.destination k.destination)
    ps 0

-- addresses compared as numbers: 00 07 and 07 are one; and without their length: 07 and 07 00 are one
abbrev as_numbers : Address → Address → Bool
as_numbers a b = eqb (number (take a.length a.octets)) (number (take b.length b.octets))

abbrev as_filled : Address → Address → Bool
as_filled a b = same_octets a.octets b.octets

abbrev pub compares_numbers : Machine
compares_numbers = finding (same_but as_numbers same_address)

abbrev pub compares_filled : Machine
compares_filled = finding (same_but as_filled same_address)

-- the same of the destination, and the machine as it was before document 02's A3: the destination is passed over
abbrev pub compares_numbers_to : Machine
compares_numbers_to = finding (same_but same_address as_numbers)

abbrev pub compares_filled_to : Machine
compares_filled_to = finding (same_but same_address as_filled)

abbrev pub passes_over : Machine
passes_over = finding (same_but same_address (λ a b. true))

-- a record has the origin twice
abbrev returned : Key → Key
returned k = record { association = k.association; context = k.context; origin = k.origin; destination = k.origin; reference = k.reference }

abbrev pub records_origin_twice : Machine
records_origin_twice = recording (λ r. record_with r.kind r.cause (returned r.key) r.instruction r.segments r.octets)

-- a new sequence goes to the highest free place
abbrev highest_from : List Place → ℕ → Option ℕ → Option ℕ
highest_from [] i best = best
highest_from (p ∷ ps) i best = highest_from ps (i + 1) (if is_free p then Some i else best)

abbrev pub takes_highest : Machine
takes_highest = joining place_of (λ ps. highest_from ps 0 None) line_of unchanged

-- an empty later segment is lost with cause 2
abbrev empty_lost : ℕ → Line → Line
empty_lost n Unsegmented = Unsegmented
empty_lost n (Broken cause) = Broken cause
empty_lost n Restart = Restart
empty_lost n Start = Start
empty_lost n Final = if eqb n 0 then Broken 2 else Final
empty_lost n Next = if eqb n 0 then Broken 2 else Next

abbrev pub loses_empty : Machine
loses_empty = deciding (λ is_open before saved g n. empty_lost n (line_of is_open before saved g n))

-- a last segment delivers over a gap
abbrev pub joins_over_gap : Machine
joins_over_gap = deciding (λ is_open before saved g n. if not g.new && is_open && eqb g.remaining.0 0 then Final else line_of is_open before saved g n)

-- causes 1 and 2, and 4 and 5, are exchanged
abbrev exchanged : Line → Line
exchanged Unsegmented = Unsegmented
exchanged (Broken cause) =
    Broken (if eqb cause 1 then 2 else if eqb cause 2 then 1 else if eqb cause 4 then 5 else 4)
exchanged Restart = Restart
exchanged Start = Start
exchanged Final = Final
exchanged Next = Next

abbrev pub exchanges_causes : Machine
exchanges_causes = deciding (λ is_open before saved g n. exchanged (line_of is_open before saved g n))

abbrev is_broken : Line → Bool
is_broken Unsegmented = false
is_broken (Broken cause) = true
is_broken Restart = false
is_broken Start = false
is_broken Final = false
is_broken Next = false

abbrev is_next : Line → Bool
is_next Unsegmented = false
is_next (Broken cause) = false
is_next Restart = false
is_next Start = false
is_next Final = false
is_next Next = true

abbrev with_records : Effect → List Record → Effect
with_records e rs = record { decision = e.decision; records = rs; places = e.places; store = e.store }

abbrev leaving : Effect → List Place → Effect
leaving e ps = record { decision = e.decision; records = e.records; places = ps; store = e.store }

-- a restart loses the new first segment too: its place is freed
abbrev pub drops_restart : Machine
drops_restart = changing (λ line t f place p e. if is_restart line then leaving e (put_place t.places place free_place) else e)

-- a loss counts what was saved, and not the segment that broke the sequence
abbrev saved_alone : Place → Record → Record
saved_alone p r = record_with r.kind r.cause r.key r.instruction p.segments p.octets

abbrev pub counts_saved : Machine
counts_saved = changing (λ line t f place p e. if is_broken line then with_records e (map (saved_alone p) e.records) else e)

-- a loss has the instruction of the segment that broke the sequence
abbrev with_instruction : ℕ → Record → Record
with_instruction instruction r = record_with r.kind r.cause r.key instruction r.segments r.octets

abbrev pub tells_last : Machine
tells_last = changing (λ line t f place p e. if is_broken line then with_records e (map (with_instruction f.heading.instruction) e.records) else e)

-- each segment starts the timer anew
abbrev started_at : ℕ → Place → Place
started_at time p = open_place p.key p.remaining p.instruction p.segments p.octets time

abbrev pub starts_anew : Machine
starts_anew = changing (λ line t f place p e.
    if is_next line then leaving e (put_place e.places place (started_at t.clock (place_at e.places place))) else e)

-- THE CHECKS OF AN ARRIVAL, as the rules have them but for those that are not made
abbrev pub checking : (Check → Bool) → Machine
checking is_made = stepping (on_segment (λ st x.
    judged_at (those is_made (checks_of st (Arrives x))) (λ e. refused_outcome st (Arrives x) e) (joined place_of lowest_free line_of unchanged st x)))

abbrev pub all_made : Check → Bool
all_made c = true

-- a padded context is taken, as it was before document 02's A2
abbrev pub takes_padded : Machine
takes_padded = checking (λ c. not (eqb c.number 23))

-- THE POSITIONS that an arrival's answer names, as the rules have them but for a change, by the number
abbrev pub blaming : (ℕ → ℕ → ℕ) → Machine
blaming change = stepping (on_segment (λ st x.
    let o : Outcome = step st (Arrives x) in
    let a : Answer = o.answer in
    outcome
    (record { refusal = a.refusal; position = change a.refusal a.position; records = a.records; timeouts = a.timeouts; decided = a.decided; count = a.count; length = a.length; lent = a.lent })
    o.state))

abbrev pub as_blamed : ℕ → ℕ → ℕ
as_blamed n at = at

-- the octet behind the one at fault; octet 1 where none is at fault
abbrev pub blames_next : Machine
blames_next = blaming (λ n at. if eqb at nowhere then nowhere else at + 1)

abbrev pub blames_always : Machine
blames_always = blaming (λ n at. if eqb at nowhere then 0 else at)

-- THE CLOCK'S CALLS, as the rules have them but for the test of what is due
abbrev pub sweeping : (ℕ → ℕ → Place → Bool) → Machine
sweeping due = where_accepted (on_clock (λ st x.
    let o : Sweeping = sweep (due x.time st.table.timer) 6 x.time st.table x.report in
    after_sweep st.store (counting (sweep_sums st.summary o) o)))

-- an age is the new time less the old by plain subtraction, which the clock's turn makes 0
abbrev pub subtracts_plainly : Machine
subtracts_plainly = sweeping (λ time timer p. is_open p && leb timer (time - p.start))

-- THE TWO PARTS OF AN ARRIVAL (document 02, A6), as the rules have them but for how they are put together
abbrev pub parting : (State → Arrival → Outcome) → Machine
parting f = stepping (on_segment f)

abbrev pub as_parted : State → Arrival → Outcome
as_parted st x = step st (Arrives x)

-- a table with another time
abbrev at_time : ℕ → Table → Table
at_time time t = record { places = t.places; registry = t.registry; timer = t.timer; clock = time }

abbrev at_time_in : ℕ → Outcome → Outcome
at_time_in time o = outcome o.answer (state_of (at_time time o.state.table) o.state.summary o.state.store)

-- the segment's work is done first, at the table's old time: an arrival at that time, and then the clock's call, whose records are told before
abbrev pub segment_first : Machine
segment_first = where_accepted (on_segment (λ st x.
    let o : Outcome = step st (to_arrive st.table.clock x.association x.parameter x.report) in
    let c : Outcome = step o.state (to_tick x.time x.report) in
    let a : Answer = o.answer in
    outcome
    (answering (unplaced 0) (c.answer.records + a.records) c.answer.records a.decided
    (lending (splice x.report 0 (records_octets (records_in c.answer ++ records_in a))) []))
    c.state))

-- where the segment is refused the clock's work is undone
abbrev pub undoes_clock : Machine
undoes_clock = parting (λ st x.
    let o : Outcome = step st (Arrives x) in
    if stands o.answer.refusal then unmoved st (Arrives x) (fault_in o.answer) else o)

-- at a 22 the new time is kept
abbrev pub keeps_at22 : Machine
keeps_at22 = parting (λ st x.
    let o : Outcome = step st (Arrives x) in
    if eqb o.answer.refusal 22 then at_time_in x.time o else o)

-- a sequence starts at the table's old time: the segment meets it, and the new time is set after
abbrev pub starts_old : Machine
starts_old = where_accepted (on_segment (λ st x.
    let w : Counted Sweeping = clock_of st x in
    let t : Table = at_time st.table.clock (table_after w) in
    let m : List ℕ = segment_sums t w.summary st.store (behind w) x.association x.parameter in
    at_time_in x.time (after_arrival (both_with w (counting m (received_at t st.store (behind w) x.association x.parameter))))))

-- whether a place is free is asked before the clock's work
abbrev pub judges_room_first : Machine
judges_room_first = parting (λ st x.
    let f : Fields = fields_of st.table.registry x.parameter in
    let line : Line = line_at st.table (key_of x.association x.parameter f) f.heading (length (information_of x.parameter f)) in
    if accepted (taking_checks line st.table.places) then step st (Arrives x) else unmoved st (Arrives x) (unplaced 10))

-- the segment's record stands first, and the clock's behind it
abbrev pub own_first : Machine
own_first = parting (λ st x.
    let o : Outcome = step st (Arrives x) in
    let a : Answer = o.answer in
    outcome
    (record { refusal = a.refusal; position = a.position; records = a.records; timeouts = a.timeouts; decided = a.decided; count = 0; length = 0; lent = lending (splice x.report 0 (records_octets (own_in a ++ timeouts_in a))) [] })
    o.state)

-- no record is said to be the clock's
abbrev pub claims_all : Machine
claims_all = parting (λ st x.
    let o : Outcome = step st (Arrives x) in
    let a : Answer = o.answer in
    outcome (record { refusal = a.refusal; position = a.position; records = a.records; timeouts = 0; decided = a.decided; count = 0; length = 0; lent = a.lent }) o.state)

-- THE SUMMARY, as the rules have it but for the numbers that a call leaves
abbrev pub summing : (State → Call → Outcome → List ℕ) → Machine
summing change = stepping (λ st c.
    let o : Outcome = step st c in
    outcome o.answer (state_of o.state.table (change st c o) o.state.store))

abbrev pub as_summed : State → Call → Outcome → List ℕ
as_summed st c o = o.state.summary

-- another summary after an arrival, a release or an opening
abbrev on_arrival : (State → Arrival → Outcome → List ℕ) → State → Call → Outcome → List ℕ
on_arrival f st (Opens x) o = o.state.summary
on_arrival f st (Arrives x) o = f st x o
on_arrival f st (Ticks x) o = o.state.summary
on_arrival f st (Releases x) o = o.state.summary
on_arrival f st (Sends x) o = o.state.summary

abbrev on_releasing : (State → Release → Outcome → List ℕ) → State → Call → Outcome → List ℕ
on_releasing f st (Opens x) o = o.state.summary
on_releasing f st (Arrives x) o = o.state.summary
on_releasing f st (Ticks x) o = o.state.summary
on_releasing f st (Releases x) o = f st x o
on_releasing f st (Sends x) o = o.state.summary

abbrev on_opening : (State → Outcome → List ℕ) → State → Call → Outcome → List ℕ
on_opening f st (Opens x) o = f st o
on_opening f st (Arrives x) o = o.state.summary
on_opening f st (Ticks x) o = o.state.summary
on_opening f st (Releases x) o = o.state.summary
on_opening f st (Sends x) o = o.state.summary

-- a refused segment is taken
abbrev pub counts_refused : Machine
counts_refused = summing (on_arrival (λ st x o. if eqb o.answer.refusal 0 then o.state.summary else took st.summary x.association 0))

-- a restart's loss covers the segment that restarts
abbrev is_lost3 : Decided → Bool
is_lost3 Undecided = false
is_lost3 (As Refused) = false
is_lost3 (As (Saved p)) = false
is_lost3 (As (Delivered part)) = false
is_lost3 (As (Lost cause p)) = eqb cause 3

abbrev pub bills_restart : Machine
bills_restart = summing (on_arrival (λ st x o. if is_lost3 o.answer.decided then tally o.state.summary 6 0 1 0 else o.state.summary))

-- what a release loses is not billed
abbrev pub forgets_releases : Machine
forgets_releases = summing (on_releasing (λ st x o. st.summary))

-- an opening keeps the rows
abbrev pub keeps_rows : Machine
keeps_rows = summing (on_opening (λ st o. st.summary))

-- each segment gets the lowest unused row, whether its association has one or not
abbrev pub gives_second : Machine
gives_second = summing (on_arrival (λ st x o.
    if eqb o.answer.refusal 0 then
    took_at st.summary (unused_row st.summary) x.association (length (information_of x.parameter (fields_of st.table.registry x.parameter))) else st.summary))

-- the octets of the parameter are taken, and not those of the information
abbrev pub takes_parameter : Machine
takes_parameter = summing (on_arrival (λ st x o.
    if eqb o.answer.refusal 0 then billed (took st.summary x.association (length x.parameter)) (records_in o.answer) else st.summary))

-- what is lost at once, with no sequence open, is not counted
abbrev is_stray : Decided → Bool
is_stray Undecided = false
is_stray (As Refused) = false
is_stray (As (Saved p)) = false
is_stray (As (Delivered part)) = false
is_stray (As (Lost cause p)) = not (is_at p)

abbrev pub misses_strays : Machine
misses_strays = summing (on_arrival (λ st x o. if is_stray o.answer.decided then st.summary else o.state.summary))
