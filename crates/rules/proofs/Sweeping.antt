-- What a sweep leaves is sound, and a sound table has nothing due at its own time.
use Rattle.std.specs.Prelude.{if◌then◌else◌}
use Prim.Native.Nat.{ℕ}
use mathlib.Core.Path.{◌≡◌, refl}
use mathlib.Core.Bool.{Bool, true, false, ◌&&◌, and-eq-true_iff}
use mathlib.Core.List.{List, [], ◌∷◌}
use borrow.Author.Tests.{leb-false, lt-leb}
use lib.Dec.{leb}
use Rattle.rules.specs.General.{every, those}
use Rattle.rules.specs.Numbers.{elapsed}
use Rattle.rules.specs.Places.{free_place, is_open}
use Rattle.rules.specs.Soundness.{open_sound, place_sound, sound}
use Rattle.rules.specs.Sweep.{freed_by, sweep, is_due, is_of}
use Rattle.rules.specs.declared.Entry.{Entry}
use Rattle.rules.specs.declared.Place.{Place}
use Rattle.rules.specs.declared.Table.{Table}
use Rattle.rules.proofs.Held.{open_is}
use Rattle.rules.proofs.Apart.{every_map, freed-two}
use Rattle.rules.proofs.Soundness.{SoundTable, sound-parts, sound-of, open-parts, open_of, free-sound}

pub open-place : (registry : List Entry) (timer clock : ℕ) (p : Place) → is_open p ≡ true → open_sound registry timer clock p ≡ true → place_sound registry timer clock p ≡ true
open-place registry timer clock p o s = rw (o, s)

-- a place as a table has it
abbrev SoundIn : Table → Place → Type 0
SoundIn t p = place_sound t.registry t.timer t.clock p ≡ true

-- a sweep keeps a place sound where it keeps it
sweep_sound : (test : Place → Bool) (cause time : ℕ) (t : Table) (report : List ℕ) → SoundTable t
    → ((p : Place) → test p ≡ false → SoundIn t p → place_sound t.registry t.timer time p ≡ true) → sound (sweep test cause time t report).answer.table ≡ true
unfolding sweep
sweep_sound test cause time t report ok keep =
    sound-of _
    (record {
      timer = ok.timer;
      registry = ok.registry;
      places = every_map (place_sound t.registry t.timer t.clock) (place_sound t.registry t.timer time) (freed_by test) freed t.places ok.places;
      apart = freed-two test t.places ok.apart;
    })
  where
    freed : (p : Place) → SoundIn t p → place_sound t.registry t.timer time (freed_by test p) ≡ true
    freed p s = go (test p) refl
      where
        go : (b : Bool) → test p ≡ b → place_sound t.registry t.timer time (if b then free_place else p) ≡ true
        go true e = free-sound t.registry t.timer time
        go false e = keep p e s

-- what is not due is young at the new time
young : (registry : List Entry) (timer clock time : ℕ) (p : Place) → is_due time timer p ≡ false
    → place_sound registry timer clock p ≡ true → place_sound registry timer time p ≡ true
young registry timer clock time p d s = go (is_open p) refl
  where
    go : (b : Bool) → is_open p ≡ b → place_sound registry timer time p ≡ true
    go true o =
        let old = open-parts registry timer clock p (open_is registry timer clock p s o) in
        let elapsed-less = leb-false timer (elapsed time p.start) (simp o at d) in
        open-place registry timer time p o
        (open_of registry timer time p
        (record {
          registered = old.registered;
          reference = old.reference;
          instruction = old.instruction;
          left = old.left;
          most = old.most;
          begun = old.begun;
          count = old.count;
          octets = old.octets;
          origin = old.origin;
          destination = old.destination;
          young = elapsed-less;
        }))
    go false o = simp o (simp o at s)

pub clock-sound : (t : Table) (report : List ℕ) (time : ℕ) → sound t ≡ true → sound (sweep (is_due time t.timer) 6 time t report).answer.table ≡ true
clock-sound t report time s = sweep_sound _ 6 time t report (sound-parts t s) (young t.registry t.timer t.clock time)

pub release-sound : (t : Table) (report : List ℕ) (association : ℕ) → sound t ≡ true → sound (sweep (is_of association) 7 t.clock t report).answer.table ≡ true
release-sound t report association s = sweep_sound _ 7 t.clock t report (sound-parts t s) (λ p d a. a)

-- at its own time nothing is due
none-those : (registry : List Entry) (timer clock : ℕ) (ps : List Place) → every (place_sound registry timer clock) ps ≡ true → those (is_due clock timer) ps ≡ []
none-those registry timer clock [] e = refl
none-those registry timer clock (p ∷ ps) e =
    let both = (and-eq-true_iff (place_sound registry timer clock p) (every (place_sound registry timer clock) ps)).0 e in
    let not-due : is_due clock timer p ≡ false = go (is_open p) refl both.0 in
    rw not-due (none-those registry timer clock ps both.1)
  where
    go : (b : Bool) → is_open p ≡ b → place_sound registry timer clock p ≡ true → (b && leb timer (elapsed clock p.start)) ≡ false
    go true o s = lt-leb timer (elapsed clock p.start) (open-parts registry timer clock p (open_is registry timer clock p s o)).young
    go false o s = refl

pub none-due : (t : Table) → sound t ≡ true → those (is_due t.clock t.timer) t.places ≡ []
none-due t s = none-those t.registry t.timer t.clock t.places (sound-parts t s).places
