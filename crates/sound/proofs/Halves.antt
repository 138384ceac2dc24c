-- A place is sound where both halves say so, all places are where each half does for all, and a table where both of its parts are.
use Prim.Native.Nat.{ℕ}
use mathlib.Core.Path.{◌≡◌, refl, sym, ◌∙◌}
use mathlib.Core.Bool.{Bool, true, false, not, ◌&&◌, ◌||◌, and-true, and-false, or-false, true≢false}
use mathlib.Core.List.{List, [], ◌∷◌}
use native.Mathlib.Omega.{arith}
use borrow.Author.Tests.{eqb-true, ne_eqb}
use Rattle.rules.specs.General.{every, every_two}
use Rattle.rules.specs.Numbers.{timer_in_range}
use Rattle.rules.specs.Registry.{registry_sound}
use Rattle.rules.specs.Places.{is_open, is_free}
use Rattle.rules.specs.Soundness.{open_sound, free_sound, place_sound, places_apart, sound}
use Rattle.rules.specs.declared.Entry.{Entry}
use Rattle.rules.specs.declared.Place.{Place}
use Rattle.rules.specs.declared.Table.{Table}
use Rattle.sound_free.specs.Idle.{sound_if_idle, is_shut}
use Rattle.sound_open.specs.Open.{sound_if_open}
use Rattle.sound.specs.Parts.{open_part}
use Rattle.sound.proofs.Digest.{none_apart}

crossed : (a b c d : Bool) → ((a && b) && (c && d)) ≡ ((a && c) && (b && d))
crossed false b c d = refl
crossed true true c d = refl
crossed true false c d = sym (and-false c)

every-both : {A : Type 0} (f g h : A → Bool) → ((x : A) → h x ≡ (f x && g x)) → (l : List A) → every h l ≡ (every f l && every g l)
every-both f g h e [] = refl
every-both f g h e (x ∷ l) = rw (e x, every-both f g h e l) (crossed (f x) (g x) (every f l) (every g l))

module _ (registry : List Entry) (timer clock : ℕ) where
  place-halves : (p : Place) → place_sound registry timer clock p ≡ (sound_if_open registry timer clock p && sound_if_idle p)
  place-halves p = go (is_open p) refl
    where
      go : (b : Bool) → is_open p ≡ b
          → (b && open_sound registry timer clock p || is_free p && free_sound p) ≡ ((not b || open_sound registry timer clock p) && (b || is_free p && free_sound p))
      go true e =
          let mark = eqb-true p.mark 1 e in
          rw (ne_eqb p.mark 0 (λ z. omega arith)) (or-false (open_sound registry timer clock p) ∙ sym (and-true (open_sound registry timer clock p)))
      go false e = refl

  both_halves : (ps : List Place) → every (place_sound registry timer clock) ps ≡ (every (sound_if_open registry timer clock) ps && every sound_if_idle ps)
  both_halves = every-both (sound_if_open registry timer clock) sound_if_idle (place_sound registry timer clock) place-halves

turned : (a o i d : Bool) → (a && (o && i) && d) ≡ (a && i && (o && d))
turned false o i d = refl
turned true false i d = sym (and-false i)
turned true true true d = refl
turned true true false d = refl

pub sound-parts : (t : Table) → sound t ≡ (timer_in_range t.timer && registry_sound t.registry && every sound_if_idle t.places && open_part t)
unfolding sound open_part
sound-parts t =
    rw (both_halves t.registry t.timer t.clock t.places)
    (turned (timer_in_range t.timer && registry_sound t.registry) (every (sound_if_open t.registry t.timer t.clock) t.places) (every sound_if_idle t.places) (every_two places_apart t.places))

-- where no place is open all of that part holds
none-sound : (registry : List Entry) (timer clock : ℕ) (ps : List Place) → every is_shut ps ≡ true → every (sound_if_open registry timer clock) ps ≡ true
none-sound registry timer clock [] e = refl
none-sound registry timer clock (p ∷ ps) e = go (is_open p) e (none-sound registry timer clock ps)
  where
    go : (b : Bool) → (not b && every is_shut ps) ≡ true → (every is_shut ps ≡ true → every (sound_if_open registry timer clock) ps ≡ true)
        → ((not b || open_sound registry timer clock p) && every (sound_if_open registry timer clock) ps) ≡ true
    go true h more = absurd (true≢false (sym h))
    go false h more = more h

pub none_open : (t : Table) → every is_shut t.places ≡ true → open_part t ≡ true
unfolding open_part
none_open t e = rw (none-sound t.registry t.timer t.clock t.places e) (none_apart t.places e)
