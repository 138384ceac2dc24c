-- What the checks of a segment leave where none of them applies.
use Prim.Native.Nat.{ℕ, ◌≤◌}
use mathlib.Core.Path.{◌≡◌}
use mathlib.Core.Bool.{Bool, true, false, not, ◌&&◌, and-eq-true_iff}
use mathlib.Core.List.{List, [], ◌∷◌, ◌++◌}
use borrow.Author.Tests.{ltb-false, not-true, not-false}
use lib.ListN.{length}
use Rattle.rules.specs.Numbers.{store_least}
use Rattle.rules.specs.Refusals.{Check, ◌when◌, accepted}
use Rattle.rules.specs.Layout.{fields_of, reading_checks}
use Rattle.rules.specs.Records.{record_length}
use Rattle.rules.specs.Places.{lowest_free, is_at}
use Rattle.rules.specs.Soundness.{sound}
use Rattle.rules.specs.Receiving.{key_of, information_of, is_start, line_at, lent_checks, segment_checks}
use Rattle.rules.specs.declared.Table.{Table}
use Rattle.rules.specs.declared.Line.{Line}
use Rattle.rules.proofs.Refusals.{accepted-both}

-- the line of a parameter at a table
abbrev pub line_for : Table → ℕ → List ℕ → Line
line_for t association s =
    line_at t (key_of association s (fields_of t.registry s)) (fields_of t.registry s).heading (length (information_of s (fields_of t.registry s)))

pub record Arrived (t : Table) (store report : List ℕ) (association : ℕ) (s : List ℕ) : Type 0 where
  pub table : sound t ≡ true
  pub stores : store_least ≤ length store
  pub reports : record_length ≤ length report
  pub reading : accepted (reading_checks t.registry s) ≡ true
  pub vacant : is_start (line_for t association s) ≡ true → is_at (lowest_free t.places) ≡ true

vacant-left : (a b : Bool) → not (a && not b) ≡ true → a ≡ true → b ≡ true
vacant-left true b e h = not-false b (not-true _ e)
vacant-left false b e h = cc

module _ (t : Table) (store report : List ℕ) (association : ℕ) (s : List ℕ) (e : accepted (segment_checks t store report association s) ≡ true) where
  abbrev three : List Check
  three = lent_checks record_length (sound t) (length store) (length report)

  abbrev ten : List Check
  ten = 10 when (is_start (line_for t association s) && not (is_at (lowest_free t.places))) ∷ []

  pub arrived : Arrived t store report association s
  unfolding segment_checks
  arrived =
      let outer = accepted-both three (reading_checks t.registry s ++ ten) e in
      let inner = accepted-both (reading_checks t.registry s) ten outer.1 in
      let all = simp and-eq-true_iff at outer.0 in
      record {
        table = not-false _ (not-true _ all.0);
        stores = ltb-false _ _ (not-true _ all.1.0);
        reports = ltb-false _ _ (not-true _ all.1.1.0);
        reading = inner.0;
        vacant = vacant-left _ _ (simp and-eq-true_iff at inner.1).0;
      }
