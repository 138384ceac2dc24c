-- What becomes of a segment that has been read.
use Rattle.std.specs.Prelude.{if◌then◌else◌, ℕ, ◌≡◌, Bool, true, false, List, length, drop, Option, Some, None, Result, Ok, Err}
use Rattle.rules.specs.Refusals.{nowhere, unplaced, judged_at}
use Rattle.rules.specs.Layout.{fields_of}
use Rattle.rules.specs.Places.{place_of, lowest_free, place_at}
use Rattle.rules.specs.Receiving.{information_of, line_at, effect_of, taking_checks, Reception, reception_of, unreceived, segment}
use Rattle.rules.specs.Summary.{segment_with}
use Rattle.refusals.specs.Numbers.{number_of}
use Rattle.refusals.specs.declared.Refusal.{Refusal}
use Rattle.receive_perform.specs.Performing.{fault_of, refused_with, Fits, Leads}
use Rattle.receive_perform.specs.declared.Verdict.{Verdict}
use Rattle.receive_count.specs.Counting.{OfCount}
use Rattle.rules.specs.declared.Fault.{Fault}
use Rattle.rules.specs.declared.Key.{Key}
use Rattle.rules.specs.declared.Place.{Place}
use Rattle.rules.specs.declared.Table.{Table}
use Rattle.rules.specs.declared.Fields.{Fields}
use Rattle.rules.specs.declared.Line.{Line}
use Rattle.rules.specs.declared.Received.{Received}

-- what becomes of a segment of a key, with fields f and these octets: 10, or what its line does
unfoldable pub arrival : Table → List ℕ → List ℕ → Key → Fields → List ℕ → Reception
arrival t store report key f octets =
    let place : Option ℕ = place_of key t.places in
    let vacant : Option ℕ = lowest_free t.places in
    let line : Line = line_at t key f.heading (length octets) in
    judged_at (taking_checks line t.places) (unreceived t store report)
    (reception_of t report (effect_of line t store key f octets place (place_at t.places place) vacant))

-- a verdict on a segment, with a store and a report area of these lengths: performed on any such two it leaves what the rule does, and what it saves has room
pub record OfVerdict (t : Table) (store report association : ℕ) (s : List ℕ) (place : ℕ) (key : Key) (v : Verdict) : Type 0 where
  pub leads : (st rp : List ℕ) → length st ≡ store → length rp ≡ report → Leads (segment t st rp association s) t place key v (drop v.information s) st rp
  pub fits : Fits v store (length (drop v.information s))
  pub taken : v.refused ≡ None → drop v.information s ≡ information_of s (fields_of t.registry s)
  pub own : v.refused ≡ None → key.association ≡ association
  pub some : (x : Fault) → v.refused ≡ Some x → x.number ≡ 0 → ⊥

-- the octet at fault: the verdict's, where the summary is sound
abbrev pub blamed_by : Bool → Verdict → ℕ
blamed_by is_summed v = if is_summed then (fault_of v.refused).position else nowhere

-- what the summary says, with a refusal of its own blaming no octet
abbrev pub blameless : {A : Type 0} → Result A Refusal → Result A Fault
blameless (Ok a) = Ok a
blameless (Err r) = Err (unplaced (number_of r))

-- the fault that is answered, of a refusal or of none
abbrev pub fault_if : {A : Type 0} → Result A Fault → Fault
fault_if (Ok a) = unplaced 0
fault_if (Err x) = x

-- what a call on a segment of n octets comes to, by whether the summary is sound and by its verdict: 1, the verdict's refusal, or what the summary says at last
pub record OfWeighing (m : List ℕ) (is_summed : Bool) (association n : ℕ) (v : Verdict) (counted : Result ℕ Fault) : Type 0 where
  pub unsound : is_summed ≡ false → counted ≡ Err (unplaced 1)
  pub refused : is_summed ≡ true → (x : Fault) → v.refused ≡ Some x → counted ≡ Err x
  pub weighed : is_summed ≡ true → v.refused ≡ None → (c : Result ℕ Refusal) × (OfCount m association n v c × (counted ≡ blameless c))
  pub taken : (row : ℕ) → counted ≡ Ok row → (is_summed ≡ true) × (v.refused ≡ None)

-- the last verdict: a refusal where the summary, or a check before it, refuses
abbrev pub settled_by : Result ℕ Fault → Place → Verdict → Verdict
settled_by (Ok row) held v = v
settled_by (Err x) held v = refused_with x held

-- what a segment is answered and leaves: by its rule, at any table
pub record OfSegment (t : Table) (m store report : List ℕ) (association : ℕ) (s : List ℕ) (answer : Received) (m' store' report' : List ℕ) : Type 0 where
  pub answered : answer ≡ (segment_with t m store report association s).call.answer
  pub summed : m' ≡ (segment_with t m store report association s).summary
  pub stored : store' ≡ (segment_with t m store report association s).call.store
  pub reported : report' ≡ (segment_with t m store report association s).call.report
