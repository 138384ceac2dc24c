-- The octets of a kind's records, record by record.
use Rattle.std.specs.Prelude.{if◌then◌else◌}
use Prim.Native.Nat.{ℕ, suc, ◌+◌, ◌*◌, ◌-◌, ◌<◌}
use mathlib.Core.Path.{◌≡◌, ◌∙◌}
use mathlib.Core.List.{List, [], ◌∷◌}
use native.Mathlib.Omega.{arith}
use lib.Dec.{eqb}
use lib.ListN.{take, drop, get_or}
use lib.Seq.{get_or-take, get_or-drop, drop-drop}
use Rattle.octets.specs.Number.{number}
use Rattle.rules.specs.Records.{record_length, record_from, records_from}
use Rattle.rules.specs.Lines.{octets_of}

octet-there : (l : List ℕ) (at k : ℕ) → k < record_length → get_or (take record_length (drop at l)) k 0 ≡ get_or l (at + k) 0
octet-there l at k h = get_or-take record_length (drop at l) k 0 h ∙ get_or-drop at l k 0

-- what the record that begins at an index counts
pub record-there : (l : List ℕ) (at kind : ℕ) → octets_of kind (record_from (take record_length (drop at l)) ∷ [])
    ≡ (if eqb (get_or l at 0) kind then number (get_or l (at + 9) 0 ∷ get_or l (at + 10) 0 ∷ []) else 0)
unfolding record_from
record-there l at kind =
    let z : at + 0 ≡ at = omega arith in
    let s : (n : ℕ) → n + 0 ≡ n = λ n. omega arith in
    rw (octet-there l at 0 (omega arith), z, octet-there l at 9 (omega arith), octet-there l at 10 (omega arith)) (s _)

-- .. and a record by itself
pub record_counts : (l : List ℕ) (kind : ℕ) → octets_of kind (record_from l ∷ []) ≡ (if eqb (get_or l 0 0) kind then number (get_or l 9 0 ∷ get_or l 10 0 ∷ []) else 0)
unfolding record_from
record_counts l kind =
    let s : (n : ℕ) → n + 0 ≡ n = λ n. omega arith in
    s _

pub total-next : (l : List ℕ) (kind n i : ℕ) → i < n → octets_of kind (records_from (n - i) (drop (record_length * i) l))
    ≡ octets_of kind (record_from (take record_length (drop (record_length * i) l)) ∷ []) + octets_of kind (records_from (n - (i + 1)) (drop (record_length * (i + 1)) l))
total-next l kind n i h =
    let e : n - i ≡ suc (n - (i + 1)) = omega arith in
    let d : record_length * i + record_length ≡ record_length * (i + 1) = omega arith in
    let s : (a b : ℕ) → a + b ≡ a + 0 + b = λ a b. omega arith in
    rw (e, drop-drop record_length (record_length * i) l, d) (s _ _)
