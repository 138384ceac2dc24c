-- What was accepted and what records cover of it, told from the calls, their answers and the octets of the reports alone: it never sees the table or the store.
use Rattle.std.specs.Prelude.{if◌then◌else◌, ℕ, ◌+◌, ◌-◌, ◌*◌, Bool, true, false, not, List, [], ◌∷◌, ◌++◌, eqb, length, drop}
use Rattle.rules.specs.Numbers.{elapsed}
use Rattle.rules.specs.Registry.{entries_of}
use Rattle.rules.specs.Layout.{fields_of}
use Rattle.rules.specs.Records.{record_length, records_from}
use Rattle.rules.specs.Places.{same_key}
use Rattle.rules.specs.Receiving.{key_of, information_of, line_of}
use Rattle.rules.specs.Opening.{registry_with}
use Rattle.rules.specs.Arrival.{stands}
use Rattle.rules.specs.Calls.{Call, Opens, Arrives, Ticks, Releases, Sends, Opening, Arrival, Answer}
use Rattle.rules.specs.declared.Entry.{Entry}
use Rattle.rules.specs.declared.Key.{Key}
use Rattle.rules.specs.declared.Fields.{Fields}
use Rattle.rules.specs.declared.Record.{Record}
use Rattle.rules.specs.declared.Line.{Line}
use Rattle.rules.specs.declared.Line.TheVariants.{Unsegmented, Broken, Restart, Start, Final, Next}
use Rattle.demands.specs.Machine.{Machine, All, InRange}
use Rattle.demands.specs.Seen.{Seen, run_of}
use Rattle.rules.specs.Calls.{State}

-- an accepted segment: the number of the call that brought it, whether it is new, its remaining, its instruction, its octets, and the time on the clock and the ticks since
-- the opening when it came
pub record Segment : Type 0 where
  pub number : ℕ
  pub new : Bool
  pub remaining : ℕ
  pub instruction : ℕ
  pub octets : List ℕ
  pub time : ℕ
  pub ticks : ℕ

-- of which sequence it is
pub record Taken : Type 0 where
  pub key : Key
  pub segment : Segment

-- what a record covers
pub record Cover : Type 0 where
  pub made : Record
  pub segments : List Segment

-- how many calls there were; of the last opening: whether it was accepted, the registry, T, the time, the ticks since then, never turned round, for each key the segments
-- that no record covers yet, and the log: every accepted segment and every cover, in order
pub record Told : Type 0 where
  pub number : ℕ
  pub opened : Bool
  pub registry : List Entry
  pub timer : ℕ
  pub time : ℕ
  pub ticks : ℕ
  pub uncovered : Key → List Segment
  pub taken : List Taken
  pub covered : List Cover

abbrev pub joined : List Segment → List ℕ
joined [] = []
joined (x ∷ l) = x.octets ++ joined l

abbrev pub is_none : List Segment → Bool
is_none [] = true
is_none (x ∷ l) = false

-- the remaining of the last of them
abbrev pub last_remaining : Segment → List Segment → ℕ
last_remaining x [] = x.remaining
last_remaining x (y ∷ l) = last_remaining y l

abbrev pub remaining_of : List Segment → ℕ
remaining_of [] = 0
remaining_of (x ∷ l) = last_remaining x l

-- another list for one key
abbrev pub filed : (Key → List Segment) → Key → List Segment → Key → List Segment
filed h k l k' = if same_key k k' then l else h k'

-- each record in turn covers all of its key that is not covered yet
abbrev pub settled : (Key → List Segment) → List Record → Key → List Segment
settled h [] = h
settled h (r ∷ rs) = settled (filed h r.key []) rs

abbrev pub covers_of : (Key → List Segment) → List Record → List Cover
covers_of h [] = []
covers_of h (r ∷ rs) = record { made = r; segments = h r.key } ∷ covers_of (filed h r.key []) rs

-- A CALL IS A LIST OF DEEDS, each with the records that are its own: an opening and whether it is accepted, a segment accepted (association, parameter), a time that has come,
-- an association that has ended. An arrival is two (document 02, A6): its time comes, and then its segment is accepted; where the segment alone is refused, it is the first of them. A
-- call that is refused as a whole is none, but for an opening.
pub data Deed : Type 0 where
  Begins : Opening → Bool → Deed
  Takes : ℕ → List ℕ → List Record → Deed
  Passes : ℕ → List Record → Deed
  Ends : ℕ → List Record → Deed

-- the records of an answer, read back from the octets of the report
abbrev pub records_in : Answer → List Record
records_in a = records_from a.records a.lent.report

-- of an arrival's, those of its clock work, which stand first, and those of its segment
abbrev pub timeouts_in : Answer → List Record
timeouts_in a = records_from a.timeouts a.lent.report

abbrev pub own_in : Answer → List Record
own_in a = records_from (a.records - a.timeouts) (drop (a.timeouts * record_length) a.lent.report)

abbrev pub arrival_deeds : Arrival → Answer → List Deed
arrival_deeds x a =
    if eqb a.refusal 0 then Passes x.time (timeouts_in a) ∷ Takes x.association x.parameter (own_in a) ∷ [] else
    if stands a.refusal then Passes x.time (timeouts_in a) ∷ [] else []

unfoldable pub deeds_of : Call → Answer → List Deed
deeds_of (Opens x) a = Begins x (eqb a.refusal 0) ∷ []
deeds_of (Arrives x) a = arrival_deeds x a
deeds_of (Ticks x) a = if eqb a.refusal 0 then Passes x.time (records_in a) ∷ [] else []
deeds_of (Releases x) a = if eqb a.refusal 0 then Ends x.association (records_in a) ∷ [] else []
deeds_of (Sends x) a = []

abbrev pub records_of : Deed → List Record
records_of (Begins o good) = []
records_of (Takes association s rs) = rs
records_of (Passes time rs) = rs
records_of (Ends association rs) = rs

-- the key and the segment that a parameter is; an unsegmented one is filed under reference 255
abbrev pub key_in : Told → ℕ → List ℕ → Key
key_in h association s = key_of association s (fields_of h.registry s)

abbrev pub segment_in : Told → List ℕ → Segment
segment_in h s =
    let f : Fields = fields_of h.registry s in
    record {
      number = h.number;
      new = f.heading.new;
      remaining = f.heading.remaining.0;
      instruction = f.heading.instruction;
      octets = information_of s f;
      time = h.time;
      ticks = h.ticks;
    }

-- the line that applies to it, by the segments of its key that no record covers
abbrev pub line_in : Told → ℕ → List ℕ → Line
line_in h association s =
    let f : Fields = fields_of h.registry s in
    let l : List Segment = h.uncovered (key_in h association s) in
    line_of (not (is_none l)) (remaining_of l) (length (joined l)) f.heading (length (information_of s f))

abbrev pub is_restart : Line → Bool
is_restart Unsegmented = false
is_restart (Broken cause) = false
is_restart Restart = true
is_restart Start = false
is_restart Final = false
is_restart Next = false

-- one more for a key
abbrev pub arrived : (Key → List Segment) → Key → Segment → Key → List Segment
arrived u k x = filed u k (u k ++ (x ∷ []))

-- a restart's record comes before the segment that restarts, any other record after its segment
abbrev pub covers_in : Bool → (Key → List Segment) → Key → Segment → List Record → List Cover
covers_in restart u k x rs = if restart then covers_of u rs else covers_of (arrived u k x) rs

abbrev pub left_in : Bool → (Key → List Segment) → Key → Segment → List Record → Key → List Segment
left_in restart u k x rs = if restart then arrived (settled u rs) k x else settled (arrived u k x) rs

-- what the records of a deed cover
abbrev pub cover_of : Told → Deed → List Cover
cover_of h (Begins o good) = []
cover_of h (Takes association s rs) = covers_in (is_restart (line_in h association s)) h.uncovered (key_in h association s) (segment_in h s) rs
cover_of h (Passes time rs) = covers_of h.uncovered rs
cover_of h (Ends association rs) = covers_of h.uncovered rs

-- a history with another time and other ticks, other uncovered segments, and more in the log
abbrev pub going : Told → ℕ → ℕ → (Key → List Segment) → List Taken → List Cover → Told
going h time ticks u taken covers =
    record {
      number = h.number;
      opened = h.opened;
      registry = h.registry;
      timer = h.timer;
      time = time;
      ticks = ticks;
      uncovered = u;
      taken = h.taken ++ taken;
      covered = h.covered ++ covers;
    }

-- an opening: the registry, T and the clock are what it says; of a refused one, all zero
abbrev pub beginning : ℕ → Opening → Bool → Told
beginning n o good =
    record {
      number = n;
      opened = good;
      registry = registry_with (if good then entries_of o.registry else []);
      timer = if good then o.timer else 0;
      time = if good then o.time else 0;
      ticks = 0;
      uncovered = λ k. [];
      taken = [];
      covered = [];
    }

abbrev pub did : Told → Deed → Told
did h (Begins o good) = beginning h.number o good
did h (Takes association s rs) =
    going h h.time h.ticks (left_in (is_restart (line_in h association s)) h.uncovered (key_in h association s) (segment_in h s) rs)
    (record { key = key_in h association s; segment = segment_in h s } ∷ []) (cover_of h (Takes association s rs))
did h (Passes time rs) = going h time (h.ticks + elapsed time h.time) (settled h.uncovered rs) [] (covers_of h.uncovered rs)
did h (Ends association rs) = going h h.time h.ticks (settled h.uncovered rs) [] (covers_of h.uncovered rs)

-- deeds one after the other: the history after them, what their records cover, those records, and a statement of each deed by what was told before it
abbrev pub did_all : Told → List Deed → Told
did_all h [] = h
did_all h (d ∷ ds) = did_all (did h d) ds

abbrev pub covers_by : Told → List Deed → List Cover
covers_by h [] = []
covers_by h (d ∷ ds) = cover_of h d ++ covers_by (did h d) ds

abbrev pub records_by : List Deed → List Record
records_by [] = []
records_by (d ∷ ds) = records_of d ++ records_by ds

abbrev pub EachDeed : (Told → Deed → Type 0) → Told → List Deed → Type 0
EachDeed P h [] = Unit {0}
EachDeed P h (d ∷ ds) = P h d × EachDeed P (did h d) ds

-- A CALL has the next number, and does its deeds
abbrev pub counted : Told → Told
counted h =
    record {
      number = h.number + 1;
      opened = h.opened;
      registry = h.registry;
      timer = h.timer;
      time = h.time;
      ticks = h.ticks;
      uncovered = h.uncovered;
      taken = h.taken;
      covered = h.covered;
    }

unfoldable pub after : Told → Seen → Told
after h x = did_all (counted h) (deeds_of x.call x.answer)

unfoldable pub covers : Told → Seen → List Cover
covers h x = covers_by (counted h) (deeds_of x.call x.answer)

unfoldable pub EachIn : (Told → Deed → Type 0) → Told → Seen → Type 0
EachIn P h x = EachDeed P (counted h) (deeds_of x.call x.answer)

-- before the first call: as after a refused opening
abbrev pub silence : Told
silence = record { number = 0; opened = false; registry = registry_with []; timer = 0; time = 0; ticks = 0; uncovered = λ k. []; taken = []; covered = [] }

-- a demand along a run: of each call, by what was told before it
abbrev pub Along : (Told → Seen → Type 0) → Told → List Seen → Type 0
Along d h [] = Unit {0}
Along d h (x ∷ xs) = d h x × Along d (after h x) xs

-- a machine meets it where all its runs do: an opening at any state, refused or not, then any calls
pub record Meets (d : Told → Seen → Type 0) (m : Machine) : Type 0 where
  pub along : (st : State) (o : Opening) (cs : List Call) → All InRange (Opens o ∷ cs) → Along d silence (run_of m st (Opens o ∷ cs))
