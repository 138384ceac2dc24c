-- WHAT FOLLOWS. Of any machine that meets demand 3: what is delivered came in order, an unsegmented parameter's record covers it alone, and the octets of its Delivered records, which
-- are what is billed, are as many as were handed over. Of any machine that meets demand 1: a context has one form only in what it accepts, and a position says which octet of a refused parameter to look at. Of any machine: since the last opening nothing that was accepted is forgotten by the history, or covered twice.
use Rattle.std.specs.Prelude.{if◌then◌else◌, ℕ, ◌+◌, ◌≤◌, ◌<◌, ◌≡◌, Bool, true, false, ◌||◌, List, [], ◌∷◌, ◌++◌, eqb, length, take}
use Rattle.rules.specs.Numbers.{parameter_most}
use Rattle.rules.specs.Refusals.{nowhere}
use Rattle.rules.specs.Layout.{context_of, context_part, context_octets}
use Rattle.rules.specs.Blame.{Blamed, is_settled}
use Rattle.rules.specs.Records.{delivered}
use Rattle.rules.specs.Places.{same_key}
use Rattle.rules.specs.Lines.{octets_of}
use Rattle.rules.specs.Calls.{State, Call, Arrives, Arrival, Answer}
use Rattle.rules.specs.declared.Key.{Key}
use Rattle.demands.specs.Machine.{Machine, is_arrival, All}
use Rattle.demands.specs.Seen.{Seen}
use Rattle.demands.specs.Demand1.{fault_in}
use Rattle.demands.specs.Exactly.{Octets}
use Rattle.demands.specs.History.{Segment, Taken, Cover, Told, records_in, after, covers, Meets}

-- segments that begin with a new one and count down by one to 0
abbrev pub Down : ℕ → List Segment → Type 0
Down r [] = r ≡ 0
Down r (x ∷ l) = (x.new ≡ false) × (x.remaining + 1 ≡ r) × Down x.remaining l

abbrev pub CountsDown : List Segment → Type 0
CountsDown [] = ⊥
CountsDown (x ∷ l) = (x.new ≡ true) × Down x.remaining l

pub record InOrder (c : Cover) : Type 0 where
  pub delivered : c.made.kind ≡ delivered → CountsDown c.segments
  pub alone : c.made.key.reference.0 ≡ 255 → length c.segments ≡ 1

abbrev pub Orderly : Machine → Type 0
Orderly m = Meets (λ (h : Told) (x : Seen). All InOrder (covers h x)) m

abbrev pub Billed : Machine → Type 0
Billed m = Meets (λ (h : Told) (x : Seen). octets_of delivered (records_in x.answer) ≡ length x.handed) m

-- of a key, in order: what was accepted, and what its records covered
abbrev pub taken_of : Key → List Taken → List Segment
taken_of k [] = []
taken_of k (x ∷ l) = if same_key x.key k then x.segment ∷ taken_of k l else taken_of k l

abbrev pub covered_of : Key → List Cover → List Segment
covered_of k [] = []
covered_of k (c ∷ l) = if same_key c.made.key k then c.segments ++ covered_of k l else covered_of k l

-- segments of calls with higher and higher numbers
abbrev pub Rising : ℕ → List Taken → Type 0
Rising n [] = Unit {0}
Rising n (x ∷ l) = (n < x.segment.number) × Rising x.segment.number l

-- what was accepted of a key is what its records cover, each after the one before, and what none covers; and all of it is in order of arrival
pub record Complete (h : Told) : Type 0 where
  pub whole : (k : Key) → taken_of k h.taken ≡ covered_of k h.covered ++ h.uncovered k
  pub rising : Rising 0 h.taken

abbrev pub Unforgetting : Machine → Type 0
Unforgetting m = Meets (λ (h : Told) (x : Seen). Complete (after h x)) m

-- document 02, A2: of two parameters that are accepted, at any two states, equal contexts mean equal context octets; these are the shortest form, which we write ourselves
pub record OneForm (m : Machine) : Type 0 where
  pub shortest : (st : State) (x : Arrival) → Octets x.parameter → (m.step st (Arrives x)).answer.refusal ≡ 0
      → context_part x.parameter ≡ context_octets (context_of x.parameter)
  pub equal : (st st' : State) (x x' : Arrival) → Octets x.parameter → Octets x'.parameter
      → (m.step st (Arrives x)).answer.refusal ≡ 0 → (m.step st' (Arrives x')).answer.refusal ≡ 0
      → context_of x.parameter ≡ context_of x'.parameter → context_part x.parameter ≡ context_part x'.parameter

-- document 02, A5: a segment's position names the octet at fault, by its number, and no other call has one. What is refused for such an octet alone is refused alike whatever
-- stands behind it, at any state with that registry, unless the state, a lent area, the time or its clock work is refused first
abbrev pub is_before : ℕ → Bool
is_before n = eqb n 1 || eqb n 2 || eqb n 3 || eqb n 13 || eqb n 22

pub record Pointing (m : Machine) : Type 0 where
  pub blamed : (st : State) (x : Arrival) → Blamed x.parameter (fault_in (m.step st (Arrives x)).answer)
  pub others : (st : State) (c : Call) → is_arrival c ≡ false → (m.step st c).answer.position ≡ nowhere
  pub alike : (st st' : State) (x x' : Arrival) → st'.table.registry ≡ st.table.registry → length x'.parameter ≤ parameter_most
      → let a : Answer = (m.step st (Arrives x)).answer in
      let a' : Answer = (m.step st' (Arrives x')).answer in
      is_settled a.refusal ≡ true → take (a.position + 1) x.parameter ≡ take (a.position + 1) x'.parameter → is_before a'.refusal ≡ false → fault_in a' ≡ fault_in a
