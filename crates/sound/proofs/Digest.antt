-- Digests of the open places: where they differ the keys do.
use Rattle.std.specs.Prelude.{if◌then◌else◌}
use mathlib.Core.Path.{◌≡◌, refl, sym, ap, ◌∙◌}
use mathlib.Core.Bool.{Bool, true, false, not, ◌&&◌, and-eq-true_iff, true≢false}
use mathlib.Core.List.{List, [], ◌∷◌, map}
use borrow.Author.Tests.{eq-eqb}
use Rattle.rules.specs.General.{every, every_two, those}
use Rattle.rules.specs.Places.{is_open, same_key}
use Rattle.rules.specs.Soundness.{places_apart}
use Rattle.rules.specs.declared.Place.{Place}
use Rattle.rules.proofs.Keys.{same-equal}
use Rattle.sound_free.specs.Idle.{is_shut}
use Rattle.sound_open.specs.Digest.{digest}
use Rattle.sound_rows.specs.Listing.{is_other}

same-digest : (p q : Place) → same_key p.key q.key ≡ true → is_other (digest p) (digest q) ≡ false
same-digest p q e =
    let same : digest q ≡ digest p = rw (same-equal p.key q.key e) in
    ap not (eq-eqb (digest q) (digest p) same)

told-apart : (p q : Place) → is_other (digest p) (digest q) ≡ true → places_apart p q ≡ true
told-apart p q e = go (is_open p && is_open q) (same_key p.key q.key) refl
  where
    go : (a c : Bool) → same_key p.key q.key ≡ c → not (a && c) ≡ true
    go false c ec = refl
    go true false ec = refl
    go true true ec = absurd (true≢false (sym e ∙ same-digest p q ec))

-- a place that is not open is apart from all, and all are from it
idle-first : (p q : Place) → is_open p ≡ false → places_apart p q ≡ true
idle-first p q e = rw e

idle-second : (p q : Place) → is_open q ≡ false → places_apart p q ≡ true
idle-second p q e = go (is_open p)
  where
    go : (a : Bool) → not (a && is_open q && same_key p.key q.key) ≡ true
    go true = rw e
    go false = refl

idle-each : (p : Place) (ps : List Place) → is_open p ≡ false → every (places_apart p) ps ≡ true
idle-each p [] e = refl
idle-each p (q ∷ ps) e = (and-eq-true_iff (places_apart p q) (every (places_apart p) ps)).1 (idle-first p q e, idle-each p ps e)

told-each : (p : Place) (ps : List Place) → every (is_other (digest p)) (map digest (those is_open ps)) ≡ true → every (places_apart p) ps ≡ true
told-each p [] e = refl
told-each p (q ∷ ps) e = go (is_open q) refl e (told-each p ps)
  where
    go : (b : Bool) → is_open q ≡ b → every (is_other (digest p)) (map digest (if b then q ∷ those is_open ps else those is_open ps)) ≡ true
        → (every (is_other (digest p)) (map digest (those is_open ps)) ≡ true → every (places_apart p) ps ≡ true)
        → every (places_apart p) (q ∷ ps) ≡ true
    go true o e more =
        let both = (and-eq-true_iff (is_other (digest p) (digest q)) (every (is_other (digest p)) (map digest (those is_open ps)))).0 e in
        (and-eq-true_iff (places_apart p q) (every (places_apart p) ps)).1 (told-apart p q both.0, more both.1)
    go false o e more = (and-eq-true_iff (places_apart p q) (every (places_apart p) ps)).1 (idle-second p q o, more e)

-- where the digests of the open places differ no two of them have one key
pub told-all : (ps : List Place) → every_two is_other (map digest (those is_open ps)) ≡ true → every_two places_apart ps ≡ true
told-all [] e = refl
told-all (p ∷ ps) e = go (is_open p) refl e (told-all ps)
  where
    go : (b : Bool) → is_open p ≡ b → every_two is_other (map digest (if b then p ∷ those is_open ps else those is_open ps)) ≡ true
        → (every_two is_other (map digest (those is_open ps)) ≡ true → every_two places_apart ps ≡ true)
        → every_two places_apart (p ∷ ps) ≡ true
    go true o e more =
        let both = (and-eq-true_iff (every (is_other (digest p)) (map digest (those is_open ps))) (every_two is_other (map digest (those is_open ps)))).0 e in
        (and-eq-true_iff (every (places_apart p) ps) (every_two places_apart ps)).1 (told-each p ps both.0, more both.1)
    go false o e more = (and-eq-true_iff (every (places_apart p) ps) (every_two places_apart ps)).1 (idle-each p ps o, more e)

-- .. and where none is open none has
pub none_apart : (ps : List Place) → every is_shut ps ≡ true → every_two places_apart ps ≡ true
none_apart [] e = refl
none_apart (p ∷ ps) e = go (is_open p) refl e (none_apart ps)
  where
    go : (b : Bool) → is_open p ≡ b → (not b && every is_shut ps) ≡ true → (every is_shut ps ≡ true → every_two places_apart ps ≡ true) → every_two places_apart (p ∷ ps) ≡ true
    go true o h more = absurd (true≢false (sym h))
    go false o h more = (and-eq-true_iff (every (places_apart p) ps) (every_two places_apart ps)).1 (idle-each p ps o, more h)
