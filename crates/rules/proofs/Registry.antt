-- The octets of a registry, record by record: how many entries they list, which they are, what unused entries leave alone; and the opening by them.
use Rattle.std.specs.Prelude.{if◌then◌else◌}
use Prim.Native.Nat.{ℕ, zero, suc, ◌+◌, ◌-◌, ◌/◌, ◌%◌, ◌<◌, ◌≤◌}
use mathlib.Core.Path.{◌≡◌, refl, ◌∙◌}
use mathlib.Core.Bool.{Bool, true, false, not, ◌&&◌, ◌||◌, and-eq-true_iff}
use mathlib.Core.List.{List, [], ◌∷◌, ◌++◌, append-nil}
use native.Mathlib.Nat.{zero-add}
use native.Mathlib.Omega.{arith}
use borrow.Author.Tests.{eqb-true, leb-true, leb-false, le-leb, lt-leb}
use lib.Dec.{eqb, leb}
use lib.ListN.{length, get_or, take, drop, replicate, length-append, length-replicate}
use lib.Seq.{sets, sets-eq, take_at}
use Rattle.octets.specs.Number.{number}
use Rattle.rules.specs.General.{every, every_two}
use Rattle.rules.specs.Numbers.{entries_most, timer_in_range}
use Rattle.rules.specs.Refusals.{◌when◌, judged}
use Rattle.rules.specs.Registry.{entries_of, is_cut, is_unused, is_entry, entries_apart, lists_registry}
use Rattle.rules.specs.Opening.{no_entry, empty_table, opening, unopened_by}
use Rattle.rules.specs.declared.Entry.{Entry}
use Rattle.rules.proofs.Lists.{left}

-- no record is cut where the length is a multiple of 3
pub whole_is : (s : List ℕ) → not (is_cut s) ≡ eqb (length s % 3) 0
whole_is [] = refl
whole_is (k ∷ []) = refl
whole_is (k ∷ x ∷ []) = refl
whole_is (k ∷ x ∷ y ∷ s) =
    let e : length (k ∷ x ∷ y ∷ s) % 3 ≡ length s % 3 = omega arith in
    whole_is s ∙ rw e

-- three octets an entry
pub entries-length : (s : List ℕ) → length (entries_of s) ≡ length s / 3
entries-length [] = refl
entries-length (k ∷ []) = refl
entries-length (k ∷ x ∷ []) = refl
entries-length (k ∷ x ∷ y ∷ s) = let e = entries-length s in omega arith

pub entries-end : (s : List ℕ) → length s < 3 → entries_of s ≡ []
entries-end [] h = refl
entries-end (k ∷ []) h = refl
entries-end (k ∷ x ∷ []) h = refl
entries-end (k ∷ x ∷ y ∷ s) h = let z : ⊥ = omega arith in absurd z

-- the entry at an index
abbrev pub entry_at : List ℕ → ℕ → Entry
entry_at s at = record { context = record { 0 = number (get_or s (at + 1) 0 ∷ get_or s (at + 2) 0 ∷ []) }; kind = get_or s at 0 }

pub entries_next : (s : List ℕ) (at : ℕ) → at + 3 ≤ length s → entries_of (drop at s) ≡ entry_at s at ∷ entries_of (drop (at + 3) s)
entries_next s at h =
    let two : at + 1 + 1 ≡ at + 2 = omega arith in
    let three : at + 2 + 1 ≡ at + 3 = omega arith in
    rw (left s 0 at (omega arith), left s 0 (at + 1) (omega arith), two, left s 0 (at + 2) (omega arith), three)

-- the registry of a table: the entries, and unused ones up to 8
abbrev pub padded : List Entry → List Entry
padded es = (empty_table es 0 0).registry

padded-length : (es : List Entry) → length es ≤ entries_most → length (padded es) ≡ entries_most
padded-length es h = length-append es (replicate (entries_most - length es) no_entry) ∙ rw (length-replicate (entries_most - length es) no_entry) (omega arith)

-- as many as there can be are padded with none
pub padded-full : (es : List Entry) → length es ≡ entries_most → padded es ≡ es
padded-full es h = rw h (append-nil es)

pub table-padded : (es : List Entry) (timer clock : ℕ) → length es ≤ entries_most → empty_table (padded es) timer clock ≡ empty_table es timer clock
table-padded es timer clock h = rw (padded-full (padded es) (padded-length es h))

-- entries written over unused ones
drop-unused : (n k : ℕ) → drop k (replicate n no_entry) ≡ replicate (n - k) no_entry
drop-unused n zero = let e : n - 0 ≡ n = omega arith in rw e
drop-unused zero (suc k) = let e : 0 - suc k ≡ 0 = omega arith in rw e
drop-unused (suc n) (suc k) = let e : suc n - suc k ≡ n - k = omega arith in rw e (drop-unused n k)

pub written : (es : List Entry) → length es ≤ entries_most → sets (replicate entries_most no_entry) 0 es ≡ padded es
written es h = sets-eq es (replicate entries_most no_entry) 0 (omega arith) ∙ rw (zero-add, drop-unused)

-- an unused entry is apart from all
apart-unused : (d : Entry) → entries_apart d no_entry ≡ true
apart-unused d = go (is_unused d) (not (eqb d.context.0 0))
  where
    go : (a b : Bool) → (a || true || b) ≡ true
    go true b = refl
    go false b = refl

pub every-unused : (f : Entry → Bool) → f no_entry ≡ true → (es : List Entry) (k : ℕ) → every f (es ++ replicate k no_entry) ≡ every f es
every-unused f e [] zero = refl
every-unused f e [] (suc k) = rw e (every-unused f e [] k)
every-unused f e (d ∷ es) k = rw (every-unused f e es k)

two-unused : (es : List Entry) (k : ℕ) → every_two entries_apart (es ++ replicate k no_entry) ≡ every_two entries_apart es
two-unused [] zero = refl
two-unused [] (suc k) = rw (every-unused (entries_apart no_entry) refl [] k) (two-unused [] k)
two-unused (d ∷ es) k = rw (every-unused (entries_apart d) (apart-unused d) es k, two-unused es k)

pub padded-apart : (es : List Entry) → every_two entries_apart (padded es) ≡ every_two entries_apart es
padded-apart es = two-unused es (entries_most - length es)

-- the entries that octets list are the first of those that a table has of them
pub padded-taken : (s : List ℕ) → take (length s / 3) (padded (entries_of s)) ≡ entries_of s
padded-taken s = take_at (entries_of s) (replicate (entries_most - length (entries_of s)) no_entry) (length s / 3) (entries-length s)

-- whole records, at most 8
abbrev pub is_whole : ℕ → Bool
is_whole n = eqb (n % 3) 0 && leb n 24

pub whole-bound : (n : ℕ) → is_whole n ≡ true → n ≤ 24
whole-bound n e = leb-true n 24 ((and-eq-true_iff (eqb (n % 3) 0) (leb n 24)).0 e).1

whole-most : (n : ℕ) (whole most : Bool) → eqb (n % 3) 0 ≡ whole → leb n 24 ≡ most → (whole && leb (n / 3) entries_most) ≡ (whole && most)
whole-most n false most e h = refl
whole-most n true true e h = let m = leb-true n 24 h in le-leb (n / 3) entries_most (omega arith)
whole-most n true false e h = let w = eqb-true (n % 3) 0 e in let m = leb-false n 24 h in lt-leb (n / 3) entries_most (omega arith)

-- what listing a registry asks, with a length for the records
pub lists-is : (s : List ℕ) → lists_registry s ≡ (is_whole (length s) && every is_entry (entries_of s) && every_two entries_apart (entries_of s))
lists-is s = rw (whole_is s, entries-length s, whole-most (length s) _ _ refl refl)

-- the two checks of the opening, one after the other
judged-two : {A : Type 0} (a b : Bool) (f : ℕ → A) (x : A) → judged (12 when not a ∷ 11 when not b ∷ []) f x ≡ (if a then if b then x else f 11 else f 12)
judged-two true true f x = refl
judged-two true false f x = refl
judged-two false b f x = refl

pub opening-by : (s : List ℕ) (timer clock : ℕ) (timed listed : Bool) → timer_in_range timer ≡ timed → lists_registry s ≡ listed
    → opening s timer clock
    ≡ (if timed then if listed then record { table = empty_table (entries_of s) timer clock; refusal = 0 } else unopened_by 11 else unopened_by 12)
unfolding opening
opening-by s timer clock timed listed e h = rw (e, h) (judged-two timed listed unopened_by _)
