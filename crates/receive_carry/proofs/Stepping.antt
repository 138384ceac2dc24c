-- What a verdict answers and saves, and what its place holds before and after it.
use Rattle.std.specs.Prelude.{if◌then◌else◌, Some}
use Prim.Native.Nat.{ℕ, ◌≤◌}
use mathlib.Core.Path.{◌≡◌, refl, sym, ap, ◌∙◌}
use mathlib.Core.Bool.{Bool, true, false, true≢false}
use mathlib.Core.List.{List}
use native.Mathlib.Omega.{arith}
use lib.ListN.{get_or, set}
use lib.Seq.{set-get_or}
use Rattle.rules.specs.Refusals.{nowhere}
use Rattle.rules.specs.Numbers.{data_most, store_least}
use Rattle.rules.specs.Places.{free_place, no_place, is_at, put_place}
use Rattle.rules.specs.Receiving.{with_places}
use Rattle.rules.specs.declared.Place.{Place}
use Rattle.rules.specs.declared.Table.{Table}
use Rattle.rules.specs.declared.Decision.{Decision}
use Rattle.rules.specs.declared.Received.{Received}
use Rattle.table.specs.Seeking.{place_in, open_in, is_found}
use Rattle.table.specs.declared.Search.{Search}
use Rattle.table.specs.declared.Search.TheVariants.{Open, Vacant, Nowhere}
use Rattle.receive_perform.specs.Performing.{Fits}
use Rattle.receive_perform.specs.declared.Verdict.{Verdict}
use Rattle.receive_carry.specs.Carried.{held_if, taken_to}

-- what a verdict puts is what its place was made to be
pub puts : {v : Verdict} {i : ℕ} {p q : Place} {d : Decision} → v ≡ taken_to i p d → p ≡ q → v ≡ taken_to i q d
puts {v} {i} {p} {q} {d} e f = e ∙ ap (λ (x : Place). taken_to i x d) f

-- answers that differ in their places only
pub places-answer : (t : Table) (d : Decision) (n : ℕ) {ps qs : List Place} → ps ≡ qs
    → ◌≡◌ {A = Received} (record { table = with_places t ps; decision = d; position = nowhere; refusal = 0; records = n; timeouts = 0 }) (record { table = with_places t qs; decision = d; position = nowhere; refusal = 0; records = n; timeouts = 0 })
places-answer t d n e = ap (λ (l : List Place). record { table = with_places t l; decision = d; position = nowhere; refusal = 0; records = n; timeouts = 0 }) e

-- a verdict saves from where it says, and has room where the one that it is has
pub saved-as : {v w : Verdict} {i : ℕ} (n : ℕ) → v ≡ w → w.information ≡ i → ((store : ℕ) → store_least ≤ store → Fits w store n)
    → (v.information ≡ i) × ((store : ℕ) → store_least ≤ store → Fits v store n)
saved-as {v} {w} {i} n e f g = rw e (f, g)

module _ (ps : List Place) (at : ℕ) (held : Place) (there : held ≡ get_or ps at no_place) where
  -- a place that is written back
  pub kept : set ps at held ≡ ps
  kept = ap (set ps at) there ∙ set-get_or ps at no_place

-- a key that is found is open at the place that the search says
pub open-there : (s : Search) → is_found s ≡ true → open_in s ≡ Some (place_in s)
open-there (Open at) e = refl
open-there (Vacant at) e = absurd (true≢false (sym e))
open-there Nowhere e = absurd (true≢false (sym e))

-- a place that is freed where it is the key's
pub freed : (ps : List Place) (s : Search) (held : Place) → held ≡ get_or ps (place_in s) no_place
    → set ps (place_in s) (if is_found s then free_place else held) ≡ put_place ps (open_in s) free_place
freed ps (Open at) held there = refl
freed ps (Vacant at) held there = kept ps at held there
freed ps Nowhere held there = kept ps 0 held there

-- the instruction of what was saved, if anything
pub instruction-is : (s : Search) (x : ℕ) (held : Place)
    → (if is_found s then held.instruction else x) ≡ (if is_at (open_in s) then (held_if (is_found s) held).instruction else x)
instruction-is (Open at) x held = refl
instruction-is (Vacant at) x held = refl
instruction-is Nowhere x held = refl

-- what was saved is not more than the place holds
pub octets-most : (is_open : Bool) (held : Place) → held.octets ≤ data_most → (held_if is_open held).octets ≤ data_most
octets-most true held h = h
octets-most false held h = omega arith

pub segments-most : (is_open : Bool) (held : Place) → held.segments ≤ 9 → (held_if is_open held).segments ≤ 9
segments-most true held h = h
segments-most false held h = omega arith
