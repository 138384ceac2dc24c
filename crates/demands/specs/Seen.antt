-- WHAT IS SEEN OF A CALL, and of calls in a row. The demands are of this, and of a machine where they are of all that can be seen of it.
use Rattle.std.specs.Prelude.{ℕ, ◌≡◌, List, [], ◌∷◌}
use Rattle.rules.specs.Calls.{State, Call, Decided, Undecided, As, Answer, Outcome}
use Rattle.demands.specs.Machine.{Machine, parameter_of}

-- the state before it, the call, its answer, the state that it left, and the octets that the delivery asked for with that answer handed over
pub record Seen : Type 0 where
  pub before : State
  pub call : Call
  pub answer : Answer
  pub left : State
  pub handed : List ℕ

abbrev pub seen_of : State → Call → Outcome → List ℕ → Seen
seen_of st c o handed = record { before = st; call = c; answer = o.answer; left = o.state; handed = handed }

-- the delivery is asked for with what the answer decided; where that is nothing, there is nothing to ask for
abbrev pub handing : Machine → Decided → List ℕ → List ℕ → List ℕ
handing m Undecided s store = []
handing m (As d) s store = m.deliver d s store

-- a machine's call, and the delivery with the parameter and the store as it left them
abbrev pub seen_by : Machine → State → Call → Seen
seen_by m st c = seen_of st c (m.step st c) (handing m (m.step st c).answer.decided (parameter_of c) (m.step st c).state.store)

-- a run: each call is made with the state as the last one left it
abbrev pub Chained : State → List Seen → Type 0
Chained st [] = Unit {0}
Chained st (x ∷ xs) = (x.before ≡ st) × Chained x.left xs

-- a machine's run of these calls
abbrev pub run_of : Machine → State → List Call → List Seen
run_of m st [] = []
run_of m st (c ∷ cs) = seen_by m st c ∷ run_of m (m.step st c).state cs
