-- Whether all pass, kept along the way and not left at the first that does not.
use Prim.Native.Nat.{ℕ, ◌+◌, ◌<◌, ◌≤◌}
use mathlib.Core.Path.{◌≡◌, sym, ap, ◌∙◌}
use mathlib.Core.Bool.{Bool, ◌&&◌, and-true, and_assoc}
use mathlib.Core.List.{List}
use lib.ListN.{length, drop, get_or, drop_of_length-le}
use Rattle.rules.specs.General.{every}
use Rattle.rules.proofs.Lists.{left}

module _ {A : Type 0} (f : A → Bool) (l : List A) (d : A) (i : ℕ) (w so_far : Bool) (inv : w ≡ (so_far && every f (drop i l))) where
  pub every-so-far : (b : Bool) → i < length l → b ≡ f (get_or l i d) → w ≡ ((so_far && b) && every f (drop (i + 1) l))
  every-so-far b inside e =
      inv ∙ ap (λ (r : List A). so_far && every f r) (left l d i inside)
      ∙ sym (and_assoc so_far (f (get_or l i d)) (every f (drop (i + 1) l)))
      ∙ ap (λ (b : Bool). (so_far && b) && every f (drop (i + 1) l)) (sym e)

  pub every-over : length l ≤ i → so_far ≡ w
  every-over end = sym (inv ∙ rw (drop_of_length-le l end) (and-true so_far))
