-- DEMAND 3. From one opening, refused or not, until the next, through any calls made with the table and store as the last call left them.
use Rattle.std.specs.Prelude.{if◌then◌else◌, ℕ, suc, ◌≡◌, true, List, [], ◌∷◌, ◌++◌, map, eqb, length, take, drop}
use Rattle.rules.specs.Numbers.{place_start}
use Rattle.rules.specs.Refusals.{accepted}
use Rattle.rules.specs.Layout.{reading_checks}
use Rattle.rules.specs.Records.{delivered, lost}
use Rattle.rules.specs.Places.{holds}
use Rattle.rules.specs.Calls.{State}
use Rattle.rules.specs.declared.Key.{Key}
use Rattle.rules.specs.declared.Place.{Place}
use Rattle.rules.specs.declared.Record.{Record}
use Rattle.rules.specs.declared.Line.{Line}
use Rattle.rules.specs.declared.Line.TheVariants.{Unsegmented, Broken, Restart, Start, Final, Next}
use Rattle.demands.specs.Machine.{Machine, All}
use Rattle.demands.specs.Seen.{Seen}
use Rattle.demands.specs.History.{Segment, Told, Cover, Deed, Begins, Takes, Passes, Ends, joined, last_remaining, records_in, deeds_of, key_in, line_in, records_by, after, covers, EachIn, Meets}

-- what a record says of how its sequence ended
pub record Ending : Type 0 where
  pub key : Key
  pub kind : ℕ
  pub cause : ℕ

abbrev pub ended : Key → ℕ → ℕ → Ending
ended key kind cause = record { key = key; kind = kind; cause = cause }

abbrev pub ending_of : Record → Ending
ending_of r = ended r.key r.kind r.cause

-- the records that a line makes
abbrev pub endings_of : Key → Line → List Ending
endings_of k Unsegmented = ended k delivered 0 ∷ []
endings_of k (Broken cause) = ended k lost cause ∷ []
endings_of k Restart = ended k lost 3 ∷ []
endings_of k Start = []
endings_of k Final = ended k delivered 0 ∷ []
endings_of k Next = []

pub record IsLost (n : ℕ) (r : Record) : Type 0 where
  pub kind : r.kind ≡ lost
  pub cause : r.cause ≡ n

-- an accepted segment is one that can be read, and its records are those of the line that applies to it
pub record TakenBy (h : Told) (association : ℕ) (s : List ℕ) (rs : List Record) : Type 0 where
  pub read : accepted (reading_checks h.registry s) ≡ true
  pub ends : map ending_of rs ≡ endings_of (key_in h association s) (line_in h association s)

-- the clock's records are losses of cause 6, the release's of cause 7
abbrev pub Ruled : Told → Deed → Type 0
Ruled h (Begins o good) = Unit {0}
Ruled h (Takes association s rs) = TakenBy h association s rs
Ruled h (Passes time rs) = All (IsLost 6) rs
Ruled h (Ends association rs) = All (IsLost 7) rs

-- a record covers something, its counts are those of what it covers, and its instruction is the first covered one's
abbrev pub Counted : Cover → List Segment → Type 0
Counted c [] = ⊥
Counted c (x ∷ l) =
    (c.made.segments ≡ length (x ∷ l)) × (c.made.octets ≡ length (joined (x ∷ l))) × (c.made.instruction ≡ x.instruction)

abbrev pub Fair : Cover → Type 0
Fair c = Counted c c.segments

-- what a call delivers: the covers of its Delivered records, joined in order of arrival; nothing where it has none
abbrev pub owed : List Cover → List ℕ
owed [] = []
owed (c ∷ cs) = if eqb c.made.kind delivered then joined c.segments ++ owed cs else owed cs

-- what a table and a store hold of a key: of each place that is open with it, in order
pub record View : Type 0 where
  pub remaining : ℕ
  pub segments : ℕ
  pub octets : ℕ
  pub instruction : ℕ
  pub start : ℕ
  pub saved : List ℕ

abbrev pub view_of : List ℕ → ℕ → Place → View
view_of store i p =
    record {
      remaining = p.remaining.0;
      segments = p.segments;
      octets = p.octets;
      instruction = p.instruction;
      start = p.start;
      saved = take p.octets (drop (place_start i) store);
    }

abbrev pub held_from : List ℕ → Key → ℕ → List Place → List View
held_from store k i [] = []
held_from store k i (p ∷ ps) = if holds k p then view_of store i p ∷ held_from store k (suc i) ps else held_from store k (suc i) ps

unfoldable pub held : State → Key → List View
held st k = held_from st.store k 0 st.table.places

-- what they must hold: nothing of no segments, else one entry with all of them
abbrev pub owing : List Segment → List View
owing [] = []
owing (x ∷ l) =
    record {
      remaining = last_remaining x l;
      segments = length (x ∷ l);
      octets = length (joined (x ∷ l));
      instruction = x.instruction;
      start = x.time;
      saved = joined (x ∷ l);
    } ∷ []

-- a state is what the history tells: of each key it holds what no record covers; registry, T and clock
pub record Agrees (st : State) (h : Told) : Type 0 where
  pub exact : (k : Key) → held st k ≡ owing (h.uncovered k)
  pub registry : st.table.registry ≡ h.registry
  pub timer : st.table.timer ≡ h.timer
  pub clock : st.table.clock ≡ h.time

-- at a call: every record is of a deed, is the rules', and is fair to what it covers; what is handed over is what the Delivered ones cover; the state that it leaves is what the
-- history tells; and a call that does nothing leaves the state as it was
pub record Accounted (h : Told) (x : Seen) : Type 0 where
  pub recorded : records_in x.answer ≡ records_by (deeds_of x.call x.answer)
  pub ruled : EachIn Ruled h x
  pub fair : All Fair (covers h x)
  pub handed : x.handed ≡ owed (covers h x)
  pub agrees : Agrees x.left (after h x)
  pub unmoved : deeds_of x.call x.answer ≡ [] → x.left ≡ x.before

abbrev pub Demand3 : Machine → Type 0
Demand3 m = Meets Accounted m
