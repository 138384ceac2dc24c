-- What is noted of the open places, packed one by one.
use Rattle.std.specs.Prelude.{if◌then◌else◌}
use Prim.Native.Nat.{ℕ, ◌+◌, ◌<◌, ◌≤◌}
use mathlib.Core.Path.{◌≡◌, sym, ap, ◌∙◌}
use mathlib.Core.Bool.{Bool, true, false, ◌&&◌, and-true}
use mathlib.Core.List.{List, [], ◌∷◌, ◌++◌, map, append-nil, append_assoc}
use native.Mathlib.Omega.{arith}
use native.Mathlib.Numerals.{add-one}
use lib.ListN.{length, take, drop, set, get_or, length-set, drop_of_length-le}
use lib.Seq.{take-suc-set}
use Rattle.rules.specs.General.{every, those}
use Rattle.rules.specs.Places.{is_open, no_place}
use Rattle.rules.specs.Soundness.{open_sound}
use Rattle.rules.specs.declared.Entry.{Entry}
use Rattle.rules.specs.declared.Place.{Place}
use Rattle.rules.proofs.Lists.{left}
use Rattle.rules.proofs.Along.{every-so-far, every-over}
use Rattle.sound_open.specs.Digest.{digest}
use Rattle.sound_open.specs.Open.{sound_if_open}

-- one more behind the first n
packed : {A : Type 0} (l : List A) (n : ℕ) (x : A) (r : List A) → n < length l → take n l ++ x ∷ r ≡ take (n + 1) (set l n x) ++ r
packed l n x r h = sym (append_assoc (take n l) (x ∷ []) r) ∙ ap (λ (s : List _). s ++ r) (sym (take-suc-set l n x h)) ∙ rw add-one

-- a number for each open place before number i, n in all
pub record Noted (f : Place → ℕ) (places : List Place) (l : List ℕ) (n i : ℕ) : Type 0 where
  pub told : map f (those is_open places) ≡ take n l ++ map f (those is_open (drop i places))
  pub sixteen : length l ≡ 16

module _ {f : Place → ℕ} {places : List Place} {l : List ℕ} {n i : ℕ} (noted : Noted f places l n i) where
  those-left : i < length places → (b : Bool) → is_open (get_or places i no_place) ≡ b
      → those is_open (drop i places) ≡ (if b then get_or places i no_place ∷ those is_open (drop (i + 1) places) else those is_open (drop (i + 1) places))
  those-left h b e = rw (left places no_place i h, e)

  pub note-open : i < length places → n < 16 → is_open (get_or places i no_place) ≡ true → (x : ℕ) → x ≡ f (get_or places i no_place)
      → Noted f places (set l n x) (n + 1) (i + 1)
  note-open inside few e x ex =
      let sixteen = noted.sixteen in
      record {
        told =
            noted.told ∙ ap (λ (ps : List Place). take n l ++ map f ps) (those-left inside true e)
            ∙ ap (λ (y : ℕ). take n l ++ y ∷ map f (those is_open (drop (i + 1) places))) (sym ex)
            ∙ packed l n x (map f (those is_open (drop (i + 1) places))) (omega arith);
        sixteen = simp length-set sixteen;
      }

  pub note-other : i < length places → is_open (get_or places i no_place) ≡ false → Noted f places l n (i + 1)
  note-other inside e =
      record {
        told = noted.told ∙ ap (λ (ps : List Place). take n l ++ map f ps) (those-left inside false e);
        sixteen = noted.sixteen;
      }

  pub noted-all : length places ≤ i → take n l ≡ map f (those is_open places)
  noted-all end = sym (noted.told ∙ rw (drop_of_length-le places end) (append-nil (take n l)))

-- what is seen of the places before number i: n digests, and whether each open one is sound
pub record SoFar (registry : List Entry) (timer clock : ℕ) (places : List Place) (digests : List ℕ) (sound : Bool) (n i : ℕ) : Type 0 where
  pub each : every (sound_if_open registry timer clock) places ≡ (sound && every (sound_if_open registry timer clock) (drop i places))
  pub digested : Noted digest places digests n i
  pub few : n ≤ i
  pub within : i ≤ 16

module _ (registry : List Entry) (timer clock : ℕ) (places : List Place) (digests : List ℕ) (sound : Bool) (n i : ℕ)
    (inv : SoFar registry timer clock places digests sound n i) where
  pub seen-open : i < length places → i < 16 → is_open (get_or places i no_place) ≡ true
      → (d : ℕ) → d ≡ digest (get_or places i no_place) → (s : Bool) → s ≡ open_sound registry timer clock (get_or places i no_place)
      → SoFar registry timer clock places (set digests n d) (sound && s) (n + 1) (i + 1)
  seen-open inside below e d ed s es =
      let few = inv.few in
      record {
        each = every-so-far (sound_if_open registry timer clock) places no_place i _ sound inv.each s inside (es ∙ rw e);
        digested = note-open inv.digested inside (omega arith) e d ed;
        few = omega arith;
        within = omega arith;
      }

  pub seen_other : i < length places → i < 16 → is_open (get_or places i no_place) ≡ false
      → SoFar registry timer clock places digests sound n (i + 1)
  seen_other inside below e =
      let few = inv.few in
      record {
        each =
            every-so-far (sound_if_open registry timer clock) places no_place i _ sound inv.each true inside (rw e)
            ∙ ap (λ (b : Bool). b && every (sound_if_open registry timer clock) (drop (i + 1) places)) (and-true sound);
        digested = note-other inv.digested inside e;
        few = omega arith;
        within = omega arith;
      }

  pub seen-sound : length places ≤ i → sound ≡ every (sound_if_open registry timer clock) places
  seen-sound end = every-over (sound_if_open registry timer clock) places no_place i _ sound inv.each end
