-- A record's octets are 53 and read back as the record.
use Prim.Native.Nat.{ℕ, ◌+◌, ◌-◌, ◌*◌, ◌≤◌, ◌<◌, ◌^◌}
use mathlib.Core.Path.{◌≡◌, refl, sym, ap, ◌∙◌}
use mathlib.Core.List.{List, [], ◌∷◌, ◌++◌, append_assoc, append-nil}
use native.Mathlib.Nat.{add-zero}
use native.Mathlib.Omega.{arith}
use lib.ListN.{length, take, drop, get_or, replicate, length-append, length-take, length-replicate}
use lib.Seq.{take_at, drop_at, drop-drop, get_or-drop}
use Rattle.octets.specs.Number.{big_endian}
use Rattle.octets.specs.Splice.{splice}
use Rattle.octets.proofs.Splice.{splice-is, splice-back}
use Rattle.octets.proofs.Number.{number-back}
use Rattle.rules.specs.Numbers.{address_most}
use Rattle.rules.specs.Records.{record_length, address_of, Filled, FilledKey, recorded, recorded_at, record_octets, record_from, records_octets, records_from}
use Rattle.rules.specs.Receiving.{address_at, key_of}
use Rattle.rules.specs.declared.Address.{Address}
use Rattle.rules.specs.declared.Span.{Span}
use Rattle.rules.specs.declared.Fields.{Fields}
use Rattle.rules.specs.declared.Record.{Record}

-- what the types of a record's fields say: numbers of two octets, and addresses of 20
pub record Fits (r : Record) : Type 0 where
  pub addresses : FilledKey r.key
  pub association : r.key.association < 2 ^ 16
  pub context : r.key.context.0 < 2 ^ 16
  pub octets : r.octets < 2 ^ 16

-- octets that are an address are filled to 20, and so are those that stand in a parameter
pub filled_of : (o : List ℕ) → length o ≤ address_most → Filled (address_of o)
filled_of o h = length-append o (replicate (address_most - length o) 0) ∙ rw length-replicate (omega arith)

pub filled_at : (s : List ℕ) (a : Span) → a.length ≤ address_most → Filled (address_at s a)
filled_at s a h = filled_of (take a.length (drop a.at s)) (simp length-take (omega arith))

pub filled-key : (association : ℕ) (s : List ℕ) (f : Fields) → f.origin.length ≤ address_most → f.destination.length ≤ address_most → FilledKey (key_of association s f)
filled-key association s f o d = record { origin = filled_at s f.origin o; destination = filled_at s f.destination d }

pub record-length : (r : Record) → FilledKey r.key → length (record_octets r) ≡ record_length
unfolding record_octets
record-length r h = rw (length-append, h.origin, h.destination)

-- a record from the parts that are more than an octet
abbrev record_with : Record → Address → Address → ℕ → ℕ → ℕ → Record
record_with r o d a c n =
    record {
      key = record { association = a; context = record { 0 = c }; origin = o; destination = d; reference = r.key.reference };
      octets = n;
      kind = r.kind;
      instruction = r.instruction;
      cause = r.cause;
      segments = r.segments;
    }

parts-equal : (r : Record) (o p d e : Address) (a b c f n m : ℕ) → o ≡ p → d ≡ e → a ≡ b → c ≡ f → n ≡ m → record_with r o d a c n ≡ record_with r p e b f m
parts-equal r o p d e a b c f n m e1 e2 e3 e4 e5 = rw (e1, e2, e3, e4, e5)

-- an address is read back from where it was written
recorded-back : (before : List ℕ) (a : Address) (rest l : List ℕ) (n : ℕ) → length before ≡ n → Filled a → before ++ recorded a ++ rest ≡ l → recorded_at l n ≡ a
recorded-back before a rest l n e h is =
    let here : drop n l ≡ a.length ∷ (a.octets ++ rest) = rw (← is, append_assoc before (recorded a) rest) (drop_at before (recorded a ++ rest) n e) in
    let next : drop (n + 1) l ≡ a.octets ++ rest = sym (drop-drop 1 n l) ∙ ap (drop 1) here in
    let length-is : get_or l n 0 ≡ a.length = rw add-zero at (sym (get_or-drop n l 0 0)) ∙ ap (λ (l : List ℕ). get_or l 0 0) here in
    rw (length-is, next, take_at a.octets rest address_most h)

-- what stands before the addresses
abbrev head_of : Record → List ℕ
head_of r =
    (r.kind ∷ [])
    ++ big_endian 2 r.key.association
    ++ big_endian 2 r.key.context.0
    ++ (r.key.reference.0 ∷ r.instruction ∷ r.cause ∷ r.segments ∷ [])
    ++ big_endian 2 r.octets

pub record-back : (r : Record) → Fits r → record_from (record_octets r) ≡ r
unfolding record_octets record_from
record-back r h =
    let o : Address = r.key.origin in
    let d : Address = r.key.destination in
    parts-equal r _ o _ d _ _ _ _ _ _
    (recorded-back (head_of r) o (recorded d) (record_octets r) 11 refl h.addresses.origin refl)
    (recorded-back (head_of r ++ recorded o) d [] (record_octets r) 32 (rw (length-append, h.addresses.origin)) h.addresses.destination (append-nil (record_octets r)))
    (number-back 2 r.key.association h.association)
    (number-back 2 r.key.context.0 h.context)
    (number-back 2 r.octets h.octets)

-- every one of the records fits
abbrev pub AllFit : List Record → Type 0
AllFit [] = Unit {0}
AllFit (r ∷ rs) = Fits r × AllFit rs

pub records-length : (rs : List Record) → AllFit rs → length (records_octets rs) ≡ record_length * length rs
records-length [] h = refl
records-length (r ∷ rs) h =
    let e = record-length r h.0.addresses in
    let i = records-length rs h.1 in
    length-append (record_octets r) (records_octets rs) ∙ omega arith

from-octets : (rs : List Record) (rest : List ℕ) → AllFit rs → records_from (length rs) (records_octets rs ++ rest) ≡ rs
from-octets [] rest h = refl
from-octets (r ∷ rs) rest h =
    let e = record-length r h.0.addresses in
    rw (append_assoc (record_octets r) (records_octets rs) rest, take_at (record_octets r) (records_octets rs ++ rest) record_length e, drop_at (record_octets r) (records_octets rs ++ rest) record_length e, record-back r h.0, from-octets rs rest h.1)

-- records at the front of an area that holds them are read back
pub records-back : (rs : List Record) (report : List ℕ) → AllFit rs → record_length * length rs ≤ length report
    → records_from (length rs) (splice report 0 (records_octets rs)) ≡ rs
records-back rs report h g =
    let l = records-length rs h in
    rw (splice-is report 0 (records_octets rs) (omega arith)) (from-octets rs (drop (0 + length (records_octets rs)) report) h)

-- .. and at the front of an area that holds them they are all of it
pub records-front : (rs : List Record) (report : List ℕ) → AllFit rs → record_length * length rs ≤ length report
    → take (length rs * record_length) (splice report 0 (records_octets rs)) ≡ records_octets rs
records-front rs report h g =
    let l = records-length rs h in
    let n : length rs * record_length ≡ length (records_octets rs) = omega arith in
    rw n (splice-back report 0 (records_octets rs) (omega arith))

octets-append : (rs qs : List Record) → records_octets (rs ++ qs) ≡ records_octets rs ++ records_octets qs
octets-append [] qs = refl
octets-append (r ∷ rs) qs = rw (octets-append rs qs) (sym (append_assoc (record_octets r) (records_octets rs) (records_octets qs)))

both-fit : (rs qs : List Record) → AllFit rs → AllFit qs → AllFit (rs ++ qs)
both-fit [] qs a b = b
both-fit (r ∷ rs) qs a b = (a.0, both-fit rs qs a.1 b)

-- two lists of records, the second behind the first: each is read back where it stands, and both are
module _ (rs qs : List Record) (area : List ℕ) (a : AllFit rs) (b : AllFit qs) (room : record_length * length qs ≤ length area) where
  abbrev two : List ℕ
  two = records_octets rs ++ splice area 0 (records_octets qs)

  pub first_back : records_from (length rs) two ≡ rs
  first_back = from-octets rs (splice area 0 (records_octets qs)) a

  pub second-there : drop (length rs * record_length) two ≡ splice area 0 (records_octets qs)
  second-there = let l = records-length rs a in drop_at (records_octets rs) (splice area 0 (records_octets qs)) (length rs * record_length) (omega arith)

  pub two_back : records_from (length rs + length qs) two ≡ rs ++ qs
  two_back =
      let l = records-length qs b in
      let rest : List ℕ = drop (0 + length (records_octets qs)) area in
      let is : two ≡ records_octets (rs ++ qs) ++ rest
      = ap (λ (m : List ℕ). records_octets rs ++ m) (splice-is area 0 (records_octets qs) (omega arith)) ∙ sym (append_assoc (records_octets rs) (records_octets qs) rest)
      ∙ ap (λ (m : List ℕ). m ++ rest) (sym (octets-append rs qs)) in
      rw (is, ← length-append rs qs) (from-octets (rs ++ qs) rest (both-fit rs qs a b))
