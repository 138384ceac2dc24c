-- Billing what a sweep loses, place by place, and a sweep that loses nothing.
use Rattle.std.specs.Prelude.{if◌then◌else◌}
use Prim.Native.Nat.{ℕ, ◌+◌, ◌<◌, ◌≤◌}
use mathlib.Core.Path.{◌≡◌, refl, sym, ◌∙◌}
use mathlib.Core.Bool.{Bool, true, false, not, ◌&&◌}
use mathlib.Core.List.{List, [], ◌∷◌, ◌++◌, map}
use native.Mathlib.Omega.{arith}
use lib.ListN.{length, drop, get_or, drop_of_length-le}
use Rattle.octets.proofs.Splice.{splice-nil}
use Rattle.rules.specs.General.{those}
use Rattle.rules.specs.Numbers.{place_count}
use Rattle.rules.specs.Refusals.{◌when◌, judged}
use Rattle.rules.specs.Places.{no_place, first_from, is_at}
use Rattle.rules.specs.Sweep.{Sweeping, loss_of, sweep, unswept}
use Rattle.rules.specs.Summary.{Counted, counting, fits, bill, billed}
use Rattle.rules.specs.declared.Place.{Place}
use Rattle.rules.specs.declared.Record.{Record}
use Rattle.rules.specs.declared.Table.{Table}
use Rattle.rules.proofs.Lists.{left}
use Rattle.rules.proofs.Fitting.{fits-chain, fits-same, billed-grows, length-billed}
use Rattle.summary.specs.Losses.{loss_in}
use Rattle.summary.proofs.Losing.{bill-loss-in}
use Rattle.receive_sweep.specs.Sweeping.{Test, test_of, cause_of, losses, swept_by}
use Rattle.receive_sweep.proofs.Sweeping.{none-those}
use Rattle.receive_clock.specs.Clocking.{swept_with, passed_at}

billed-append : (m : List ℕ) (xs ys : List Record) → billed m (xs ++ ys) ≡ billed (billed m xs) ys
billed-append m [] ys = refl
billed-append m (x ∷ xs) ys = billed-append (bill m x) xs ys

module _ (which : Test) (m : List ℕ) (p : Place) where
  -- one place's loss, in the words of the code
  pub bill-one : test_of which p ≡ true → billed m (losses which (p ∷ [])) ≡ loss_in m p.key.association p.segments p.octets
  unfolding losses
  bill-one e = simp e (bill-loss-in m (loss_of (cause_of which) p) refl)

  pub bill-none : test_of which p ≡ false → billed m (losses which (p ∷ [])) ≡ m
  unfolding losses
  bill-none e = simp e

losses-cons : (which : Test) (p : Place) (ps : List Place) → losses which (p ∷ ps) ≡ losses which (p ∷ []) ++ losses which ps
unfolding losses
losses-cons which p ps = go (test_of which p)
  where
    go : (b : Bool) → map (loss_of (cause_of which)) (if b then p ∷ those (test_of which) ps else those (test_of which) ps)
        ≡ map (loss_of (cause_of which)) (if b then p ∷ [] else []) ++ map (loss_of (cause_of which)) (those (test_of which) ps)
    go true = refl
    go false = refl

-- the places ps billed to m₀, at turn i: m, with what those from i on lose still to be billed
pub record Billing (which : Test) (ps : List Place) (m₀ : List ℕ) (i : ℕ) (m : List ℕ) : Type 0 where
  pub size : length ps ≡ place_count
  pub inside : i ≤ place_count
  pub long : length m ≡ 512
  pub sums : billed m₀ (losses which ps) ≡ billed m (losses which (drop i ps))
  pub fit : fits m₀ (billed m₀ (losses which ps)) ≡ fits m (billed m (losses which (drop i ps)))

module _ {which : Test} {ps : List Place} {m₀ : List ℕ} {i : ℕ} {m : List ℕ} (b : Billing which ps m₀ i m) where
  module _ (h : i < place_count) where
    abbrev after : List ℕ
    after = billed m (losses which (get_or ps i no_place ∷ []))

    -- the place at i first, and then the others
    sums-here : billed m (losses which (drop i ps)) ≡ billed after (losses which (drop (i + 1) ps))
    sums-here =
        rw (left ps no_place i (omega (arith, b.size)), losses-cons which (get_or ps i no_place) (drop (i + 1) ps))
        (billed-append m (losses which (get_or ps i no_place ∷ [])) (losses which (drop (i + 1) ps)))

    long_after : length after ≡ 512
    long_after = length-billed m (losses which (get_or ps i no_place ∷ [])) ∙ b.long

    fit-here : fits m₀ (billed m₀ (losses which ps)) ≡ (fits m after && fits after (billed after (losses which (drop (i + 1) ps))))
    fit-here =
        b.fit
        ∙ rw sums-here
        (fits-chain m after (billed after (losses which (drop (i + 1) ps))) (billed-grows m (losses which (get_or ps i no_place ∷ [])) b.long)
        (billed-grows after (losses which (drop (i + 1) ps)) long_after))

    pub turn-fails : fits m after ≡ false → false ≡ fits m₀ (billed m₀ (losses which ps))
    turn-fails e = sym (fit-here ∙ simp e)

    pub turn-fits : fits m after ≡ true → (m' : List ℕ) → m' ≡ after → Billing which ps m₀ (i + 1) m'
    turn-fits e m' is =
        rw is (record { size = b.size; inside = omega arith; long = long_after; sums = b.sums ∙ sums-here; fit = fit-here ∙ simp e })

  module _ (h : place_count ≤ i) where
    end : drop i ps ≡ []
    end = drop_of_length-le ps {i = i} (omega (arith, b.size))

    nothing : billed m (losses which (drop i ps)) ≡ m
    unfolding losses
    nothing = rw end

    pub all_fit : true ≡ fits m₀ (billed m₀ (losses which ps))
    all_fit = sym (b.fit ∙ rw nothing (fits-same m))

    pub all-billed : m ≡ billed m₀ (losses which ps)
    all-billed = sym (b.sums ∙ nothing)

-- a sweep with the summary by whether its losses fit
module _ (which : Test) (time : ℕ) (t : Table) (m report : List ℕ) where
  pub swept-is : (b : Bool) → b ≡ fits m (billed m (losses which t.places))
      → swept_with which time t m report ≡ (if b then counting (billed m (losses which t.places)) (swept_by which time t report) else counting m (unswept t report 22))
  unfolding sweep losses
  swept-is b e = rw (← e) (go b (counting (billed m (losses which t.places)) (swept_by which time t report)))
    where
      go : (b : Bool) (s : Counted Sweeping) → judged (22 when not b ∷ []) (λ n. counting m (unswept t report n)) s ≡ (if b then s else counting m (unswept t report 22))
      go true s = refl
      go false s = refl

-- a sweep that loses nothing
pub none-swept : (which : Test) (time : ℕ) (t : Table) (report : List ℕ) → is_at (first_from (test_of which) t.places 0) ≡ false
    → swept_by which time t report ≡ record { answer = passed_at time t; report = report; made = [] }
unfolding sweep
none-swept which time t report e =
    let none = none-those (test_of which) t.places 0 e in
    rw (none.0, none.1, splice-nil)

pub none_is : (which : Test) (time : ℕ) (t : Table) (m report : List ℕ) → is_at (first_from (test_of which) t.places 0) ≡ false
    → swept_with which time t m report ≡ counting m (swept_by which time t report)
none_is which time t m report e = rw (none-swept which time t report e, fits-same m)
