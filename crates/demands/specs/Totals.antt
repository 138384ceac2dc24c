-- TOTALS. At any moment from an opening on, refused or not, through any calls, all 512 numbers of the summary are what the history gives: a row for each association, in the order in
-- which they were first taken; taken is counted from the accepted segments, delivered and lost from the segments that the records cover.
-- BALANCE. Of each row, taken is delivered and lost and what the open places of its association hold.
use Rattle.std.specs.Prelude.{if◌then◌else◌, ℕ, ◌+◌, ◌-◌, ◌<◌, ◌≡◌, Bool, true, false, ◌&&◌, ◌||◌, List, [], ◌∷◌, ◌++◌, map, eqb, length, replicate}
use Rattle.rules.specs.Records.{delivered, lost}
use Rattle.rules.specs.Places.{is_open}
use Rattle.rules.specs.Summary.{number_at, is_used}
use Rattle.rules.specs.Calls.{State}
use Rattle.rules.specs.declared.Place.{Place}
use Rattle.demands.specs.Machine.{Machine}
use Rattle.demands.specs.Seen.{Seen}
use Rattle.demands.specs.History.{Taken, Cover, Told, joined, after, Meets}

abbrev pub is_among : ℕ → List ℕ → Bool
is_among a [] = false
is_among a (x ∷ l) = eqb x a || is_among a l

-- the associations of the segments taken, each once, in the order of its first
abbrev pub with_one : List ℕ → ℕ → List ℕ
with_one l a = if is_among a l then l else l ++ (a ∷ [])

abbrev pub associations_from : List ℕ → List Taken → List ℕ
associations_from l [] = l
associations_from l (x ∷ xs) = associations_from (with_one l x.key.association) xs

-- of an association: the segments taken, and their octets
abbrev pub segments_taken : ℕ → List Taken → ℕ
segments_taken a [] = 0
segments_taken a (x ∷ xs) = (if eqb x.key.association a then 1 else 0) + segments_taken a xs

abbrev pub octets_taken : ℕ → List Taken → ℕ
octets_taken a [] = 0
octets_taken a (x ∷ xs) = (if eqb x.key.association a then length x.segment.octets else 0) + octets_taken a xs

-- .. and those that its records of a kind cover
abbrev pub is_billed : ℕ → ℕ → Cover → Bool
is_billed kind a c = eqb c.made.kind kind && eqb c.made.key.association a

abbrev pub segments_covered : ℕ → ℕ → List Cover → ℕ
segments_covered kind a [] = 0
segments_covered kind a (c ∷ cs) = (if is_billed kind a c then length c.segments else 0) + segments_covered kind a cs

abbrev pub octets_covered : ℕ → ℕ → List Cover → ℕ
octets_covered kind a [] = 0
octets_covered kind a (c ∷ cs) = (if is_billed kind a c then length (joined c.segments) else 0) + octets_covered kind a cs

-- a column: a number for each association, and zero for each unused row
abbrev pub column : List ℕ → (ℕ → ℕ) → List ℕ
column l number = map number l ++ replicate (64 - length l) 0

unfoldable pub totals_of : Told → List ℕ
totals_of h =
    let l : List ℕ = associations_from [] h.taken in
    column l (λ a. 1)
    ++ (column l (λ a. a)
    ++ (column l (λ a. segments_taken a h.taken)
    ++ (column l (λ a. octets_taken a h.taken)
    ++ (column l (λ a. segments_covered delivered a h.covered)
    ++ (column l (λ a. octets_covered delivered a h.covered)
    ++ (column l (λ a. segments_covered lost a h.covered) ++ column l (λ a. octets_covered lost a h.covered)))))))

abbrev pub Totals : Machine → Type 0
Totals m = Meets (λ (h : Told) (x : Seen). x.left.summary ≡ totals_of (after h x)) m

-- what the open places of an association hold
abbrev pub is_held : ℕ → Place → Bool
is_held a p = is_open p && eqb p.key.association a

abbrev pub segments_held : ℕ → List Place → ℕ
segments_held a [] = 0
segments_held a (p ∷ ps) = (if is_held a p then p.segments else 0) + segments_held a ps

abbrev pub octets_held : ℕ → List Place → ℕ
octets_held a [] = 0
octets_held a (p ∷ ps) = (if is_held a p then p.octets else 0) + octets_held a ps

pub record Balanced (st : State) (row : ℕ) : Type 0 where
  pub segments : number_at st.summary 2 row ≡ number_at st.summary 4 row + number_at st.summary 6 row + segments_held (number_at st.summary 1 row) st.table.places
  pub octets : number_at st.summary 3 row ≡ number_at st.summary 5 row + number_at st.summary 7 row + octets_held (number_at st.summary 1 row) st.table.places

abbrev pub Balance : Machine → Type 0
Balance m = Meets (λ (h : Told) (x : Seen). (row : ℕ) → row < 64 → is_used x.left.summary row ≡ true → Balanced x.left row) m
