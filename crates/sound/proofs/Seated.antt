-- A summary is sound beside the places of a table where it is beside the associations of the open ones.
use Rattle.std.specs.Prelude.{if◌then◌else◌}
use Prim.Native.Nat.{ℕ}
use mathlib.Core.Path.{◌≡◌, refl, ap}
use mathlib.Core.Bool.{Bool, true, false, not, ◌&&◌, ◌||◌}
use mathlib.Core.List.{List, [], ◌∷◌, map}
use Rattle.rules.specs.General.{every, those}
use Rattle.rules.specs.Places.{is_open}
use Rattle.rules.specs.Summary.{is_seated, summary_sound}
use Rattle.rules.specs.declared.Place.{Place}
use Rattle.sound_rows.specs.Listing.{has_row, sound_beside}
use Rattle.sound.specs.Seated.{association_of}

module _ (m : List ℕ) where
  all-seated : (ps : List Place) → every (is_seated m) ps ≡ every (has_row m) (map association_of (those is_open ps))
  all-seated [] = refl
  all-seated (p ∷ ps) = go (is_open p) (all-seated ps)
    where
      go : (b : Bool) → every (is_seated m) ps ≡ every (has_row m) (map association_of (those is_open ps))
          → ((not b || has_row m (association_of p)) && every (is_seated m) ps)
          ≡ every (has_row m) (map association_of (if b then p ∷ those is_open ps else those is_open ps))
      go true more = ap (λ (b : Bool). has_row m (association_of p) && b) more
      go false more = more

  pub beside : (ps : List Place) → sound_beside m (map association_of (those is_open ps)) ≡ summary_sound m ps
  unfolding summary_sound
  beside ps = rw (all-seated ps)
