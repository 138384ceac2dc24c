-- What an accepted call's checks say.
use Rattle.std.specs.Prelude.{if◌then◌else◌}
use Prim.Native.Nat.{ℕ, ◌+◌, ◌*◌, ◌%◌, ◌≤◌, ◌<◌, ◌^◌}
use mathlib.Core.Path.{◌≡◌, refl}
use mathlib.Core.Bool.{Bool, true, false, not, ◌&&◌, and-eq-true_iff}
use mathlib.Core.List.{List, [], ◌∷◌, ◌++◌}
use native.Mathlib.Omega.{arith}
use borrow.Author.Tests.{ltb-false, leb-false, not-true}
use lib.Dec.{eqb}
use lib.ListN.{length}
use Rattle.rules.specs.Numbers.{parameter_most, elapsed}
use Rattle.rules.specs.Refusals.{Check, ◌for◌over◌, ◌for◌unlike◌, ◌blaming◌, accepted}
use Rattle.rules.specs.Registry.{kind_of}
use Rattle.rules.specs.Layout.{octet, context_of, has1a, has3a, is_unsegmented, is_new, remaining_of, at2, at3, origin_at, fields_of, count3a, cut_before, last_checks, context_checks, sequence_checks, addresses_checks, reading_checks}
use Rattle.rules.specs.Soundness.{sound}
use Rattle.rules.specs.Receiving.{key_of}
use Rattle.rules.specs.Sweep.{report_least, clock_checks, release_checks}
use Rattle.rules.specs.declared.Entry.{Entry}
use Rattle.rules.specs.declared.Table.{Table}
use Rattle.rules.proofs.Refusals.{accepted-both}
use Rattle.rules.proofs.Reading.{origin-short, destination-short}
use Rattle.rules.proofs.Records.{filled-key}
use Rattle.demands.proofs.Settling.{KeyFits}

abbrev seven : List ℕ → ℕ → Check
seven s at = 7 for count3a (has3a (octet s at)) unlike count3a (not (is_unsegmented (is_new (octet s at)) (remaining_of (octet s at)))) blaming at

module _ (registry : List Entry) (s : List ℕ) where
  abbrev kind : ℕ
  kind = kind_of registry (context_of s)

  abbrev four : List Check
  four = 4 for length s over parameter_most ∷ []

  abbrev addresses : List Check
  addresses = addresses_checks kind s (origin_at s)

  module _ (e : accepted (reading_checks registry s) ≡ true) where
    -- an unsegmented parameter has the reference 255
    pub alone-reference : is_unsegmented (fields_of registry s).heading.new (fields_of registry s).heading.remaining.0 ≡ true → (fields_of registry s).heading.reference.0 ≡ 255
    unfolding reading_checks fields_of
    alone-reference a = go (has3a (octet s (at3 s))) ((and-eq-true_iff _ _).0 seventh).0
      where
        heads : accepted (sequence_checks s (at3 s)) ≡ true
        heads =
            (accepted-both (four ++ context_checks registry s ++ last_checks s (at2 s)) (sequence_checks s (at3 s))
            (accepted-both (four ++ context_checks registry s ++ last_checks s (at2 s) ++ sequence_checks s (at3 s)) addresses e).0).1

        seventh : accepted (seven s (at3 s) ∷ []) ≡ true
        seventh = (accepted-both ((cut_before s (at3 s + 1) ∷ []) ++ (if has3a (octet s (at3 s)) then last_checks s (at3 s + 1) else [])) (seven s (at3 s) ∷ []) heads).1

        go : (b : Bool) → not (not (eqb (count3a b) (count3a (not (is_unsegmented (is_new (octet s (at3 s))) (remaining_of (octet s (at3 s)))))))) ≡ true → (if b then octet s (at3 s + 1) % 128 else 255) ≡ 255
        go true q = let z : false ≡ true = simp a at q in absurd (let y : ◌≡◌ {A = ℕ} 0 1 = cc in omega arith)
        go false q = refl

    pub key_fits : (association : ℕ) → association < 2 ^ 16 → KeyFits (key_of association s (fields_of registry s))
    unfolding fields_of
    key_fits association h =
        record {
          addresses = filled-key association s (fields_of registry s) (origin-short registry s e) (destination-short registry s e);
          association = h;
          context = range (has1a s);
        }
      where
        range : (b : Bool) → (if b then octet s 0 % 128 + 128 * (octet s 1 % 128) else octet s 0 % 128) < 2 ^ 16
        range true = omega arith
        range false = omega arith

-- where a start has vacant, 10 does not apply
pub vacant-left : (a b : Bool) → (a ≡ true → b ≡ true) → (a && not b) ≡ false
vacant-left true b h = rw (h refl)
vacant-left false b h = refl

not-not : (b : Bool) → not (not b) ≡ true → b ≡ true
not-not true e = refl
not-not false e = e

pub clock-good : (t : Table) (report : List ℕ) (time : ℕ) → accepted (clock_checks t report time) ≡ true
    → (sound t ≡ true) × (report_least ≤ length report) × (elapsed time t.clock < 2 ^ 31)
unfolding clock_checks
clock-good t report time e =
    let c = simp and-eq-true_iff at e in
    (not-not (sound t) c.0, ltb-false (length report) report_least (not-true _ c.1.0), leb-false (2 ^ 31) (elapsed time t.clock) (not-true _ c.1.1.0))

pub release-good : (t : Table) (report : List ℕ) → accepted (release_checks t report) ≡ true → (sound t ≡ true) × (report_least ≤ length report)
unfolding release_checks
release-good t report e =
    let c = simp and-eq-true_iff at e in
    (not-not (sound t) c.0, ltb-false (length report) report_least (not-true _ c.1.0))
