-- A sweep over the places: those that a test is for give a record each, fair to what it covers, and are free afterwards.
use Rattle.std.specs.Prelude.{if◌then◌else◌}
use Prim.Native.Nat.{ℕ, suc}
use mathlib.Core.Path.{◌≡◌, refl, sym, ap, ap₂, ◌∙◌}
use mathlib.Core.Bool.{Bool, true, false}
use mathlib.Core.List.{List, [], ◌∷◌, ◌++◌, append_assoc, map}
use Rattle.rules.specs.General.{those}
use Rattle.rules.specs.Places.{same_key, is_open, holds}
use Rattle.rules.specs.Sweep.{loss_of, freed_by, losses_by}
use Rattle.rules.specs.declared.Key.{Key}
use Rattle.rules.specs.declared.Place.{Place}
use Rattle.rules.proofs.Keys.{same-equal, same_self}
use Rattle.demands.specs.Machine.{All}
use Rattle.demands.specs.History.{Segment, filed, settled, covers_of}
use Rattle.demands.specs.Demand3.{IsLost, View, Fair, owed, view_of, held_from, owing}
use Rattle.demands.proofs.Holding.{here, held_cons, Single, single, counted-all, holds-other}

-- `a` is what the places before hold
pub record Swept (store : List ℕ) (test : Place → Bool) (cause i : ℕ) (ps : List Place) (u : Key → List Segment) (a : Key → List View) : Type 0 where
  pub fair : All Fair (covers_of u (losses_by test cause ps))
  pub quiet : owed (covers_of u (losses_by test cause ps)) ≡ []
  pub exact : (k : Key) → a k ++ held_from store k i (map (freed_by test) ps) ≡ owing (settled u (losses_by test cause ps) k)

module _ (store : List ℕ) (test : Place → Bool) (opens : (p : Place) → test p ≡ true → is_open p ≡ true) (cause : ℕ) where
  sweep-hit : (i : ℕ) (p : Place) (ps : List Place) (u : Key → List Segment) (a : Key → List View) → ((k : Key) → a k ++ held_from store k i (p ∷ ps) ≡ owing (u k)) → test p ≡ true
      → (((k : Key) → a k ++ held_from store k (suc i) ps ≡ owing (filed u p.key [] k)) → Swept store test cause (suc i) ps (filed u p.key []) a)
      → Swept store test cause i (p ∷ ps) u a
  sweep-hit i p ps u a hyp e ih =
      record {
        fair = rw e (counted-all (view_of store i p) (u p.key) (record { made = loss_of cause p; segments = u p.key }) s.mid refl refl refl, (ih hyp').fair);
        quiet = rw e (ih hyp').quiet;
        exact = λ k. rw e ((ih hyp').exact k);
      }
    where
      mine : holds p.key p ≡ true
      mine = simp (opens p e, same_self p.key)

      s : Single (a p.key) (view_of store i p) (held_from store p.key (suc i) ps) (u p.key)
      s = single _ _ _ (u p.key) (rw mine at (hyp p.key))

      hyp' : (k : Key) → a k ++ held_from store k (suc i) ps ≡ owing (filed u p.key [] k)
      hyp' k = go (same_key p.key k) refl
        where
          go : (b : Bool) → same_key p.key k ≡ b → a k ++ held_from store k (suc i) ps ≡ owing (if b then [] else u k)
          go true q = rw (← same-equal p.key k q) (ap₂ (λ (l m : List View). l ++ m) s.left s.right)
          go false q = rw (holds-other p p.key k mine q) at (hyp k)

  pub sweep-places : (i : ℕ) (ps : List Place) (u : Key → List Segment) (a : Key → List View) → ((k : Key) → a k ++ held_from store k i ps ≡ owing (u k)) → Swept store test cause i ps u a
  sweep-places i [] u a hyp = record { fair = tt; quiet = refl; exact = hyp }
  sweep-places i (p ∷ ps) u a hyp = go (test p) refl (λ u' a' hyp'. sweep-places (suc i) ps u' a' hyp')
    where
      go : (b : Bool) → test p ≡ b
          → ((u' : Key → List Segment) (a' : Key → List View) → ((k : Key) → a' k ++ held_from store k (suc i) ps ≡ owing (u' k)) → Swept store test cause (suc i) ps u' a')
          → Swept store test cause i (p ∷ ps) u a
      go true e ih = sweep-hit i p ps u a hyp e (λ hyp'. ih (filed u p.key []) a hyp')
      go false e ih =
          let r = ih u (λ k. a k ++ here store k i p)
          (λ k. append_assoc (a k) (here store k i p) (held_from store k (suc i) ps) ∙ ap (λ (l : List View). a k ++ l) (sym (held_cons store k i p ps)) ∙ hyp k) in
          record {
            fair = rw e r.fair;
            quiet = rw e r.quiet;
            exact = λ k.
                rw e (ap (λ (l : List View). a k ++ l) (held_cons store k i p (map (freed_by test) ps))
                ∙ sym (append_assoc (a k) (here store k i p) (held_from store k (suc i) (map (freed_by test) ps))) ∙ r.exact k);
          }

-- all of them are losses_by with that cause
pub losses-lost : (test : Place → Bool) (cause : ℕ) (ps : List Place) → All (IsLost cause) (losses_by test cause ps)
losses-lost test cause [] = tt
losses-lost test cause (p ∷ ps) = go (test p) (losses-lost test cause ps)
  where
    go : (b : Bool) → All (IsLost cause) (losses_by test cause ps) → All (IsLost cause) (map (loss_of cause) (if b then p ∷ those test ps else those test ps))
    go true all = (record { kind = refl; cause = refl }, all)
    go false all = all
