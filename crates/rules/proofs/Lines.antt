-- Which line applies to a segment: what holds of each line where the tests lead to it holds of the line that applies.
use Rattle.std.specs.Prelude.{if◌then◌else◌}
use Prim.Native.Nat.{ℕ, ◌+◌, ◌≤◌, ◌<◌}
use mathlib.Core.Path.{◌≡◌, refl}
use mathlib.Core.Bool.{Bool, true, false, not, ◌&&◌}
use native.Mathlib.Omega.{arith}
use borrow.Author.Tests.{ltb-true, ltb-false, eqb-true, eqb-false}
use lib.Dec.{eqb, ltb}
use Rattle.rules.specs.Numbers.{data_most}
use Rattle.rules.specs.Receiving.{line_of}
use Rattle.rules.specs.declared.Heading.{Heading}
use Rattle.rules.specs.declared.Line.{Line}
use Rattle.rules.specs.declared.Line.TheVariants.{Unsegmented, Broken, Restart, Start, Final, Next}

-- for each line the facts that lead there
pub record Lines (P : Line → Type 0) (is_open : Bool) (before saved : ℕ) (g : Heading) (n : ℕ) : Type 0 where
  pub unsegmented : g.new ≡ true → g.remaining.0 ≡ 0 → P Unsegmented
  pub beyond : 9 < g.remaining.0 → P (Broken 4)
  pub restart : g.new ≡ true → is_open ≡ true → 1 ≤ g.remaining.0 → g.remaining.0 ≤ 9 → P Restart
  pub start : g.new ≡ true → is_open ≡ false → 1 ≤ g.remaining.0 → g.remaining.0 ≤ 9 → P Start
  pub stray : g.new ≡ false → is_open ≡ false → g.remaining.0 ≤ 9 → P (Broken 1)
  pub gap : g.new ≡ false → is_open ≡ true → g.remaining.0 ≤ 9 → (g.remaining.0 + 1 ≡ before → ⊥) → P (Broken 2)
  pub over : g.new ≡ false → is_open ≡ true → g.remaining.0 ≤ 9 → g.remaining.0 + 1 ≡ before → data_most < saved + n → P (Broken 5)
  pub final : g.new ≡ false → is_open ≡ true → g.remaining.0 ≡ 0 → g.remaining.0 + 1 ≡ before → saved + n ≤ data_most → P Final
  pub next : g.new ≡ false → is_open ≡ true → 1 ≤ g.remaining.0 → g.remaining.0 ≤ 9 → g.remaining.0 + 1 ≡ before → saved + n ≤ data_most → P Next

pub line-cases : (P : Line → Type 0) (is_open : Bool) (before saved : ℕ) (g : Heading) (n : ℕ)
    → Lines P is_open before saved g n → P (line_of is_open before saved g n)
unfolding line_of
line-cases P is_open before saved g n by =
    go g.new refl is_open refl (eqb g.remaining.0 0) refl (ltb 9 g.remaining.0) refl (eqb (g.remaining.0 + 1) before) refl (ltb data_most (saved + n)) refl
  where
    some : eqb g.remaining.0 0 ≡ false → 1 ≤ g.remaining.0
    some z = let h = eqb-false g.remaining.0 0 z in omega arith

    go : (new : Bool) → g.new ≡ new → (o : Bool) → is_open ≡ o → (last : Bool) → eqb g.remaining.0 0 ≡ last → (many : Bool) → ltb 9 g.remaining.0 ≡ many
        → (follows : Bool) → eqb (g.remaining.0 + 1) before ≡ follows → (long : Bool) → ltb data_most (saved + n) ≡ long
        → P
        (if new && last then Unsegmented else
        if many then Broken 4 else
        if new && o then Restart else
        if new then Start else
        if not o then Broken 1 else
        if not follows then Broken 2 else
        if long then Broken 5 else
        if last then Final else Next)
    go true a o b true c m d x e l f = by.unsegmented a (eqb-true g.remaining.0 0 c)
    go true a o b false c true d x e l f = by.beyond (ltb-true 9 g.remaining.0 d)
    go false a o b z c true d x e l f = by.beyond (ltb-true 9 g.remaining.0 d)
    go true a true b false c false d x e l f = by.restart a b (some c) (ltb-false 9 g.remaining.0 d)
    go true a false b false c false d x e l f = by.start a b (some c) (ltb-false 9 g.remaining.0 d)
    go false a false b z c false d x e l f = by.stray a b (ltb-false 9 g.remaining.0 d)
    go false a true b z c false d false e l f = by.gap a b (ltb-false 9 g.remaining.0 d) (eqb-false (g.remaining.0 + 1) before e)
    go false a true b z c false d true e true f =
        by.over a b (ltb-false 9 g.remaining.0 d) (eqb-true (g.remaining.0 + 1) before e) (ltb-true data_most (saved + n) f)
    go false a true b true c false d true e false f =
        by.final a b (eqb-true g.remaining.0 0 c) (eqb-true (g.remaining.0 + 1) before e) (ltb-false data_most (saved + n) f)
    go false a true b false c false d true e false f =
        by.next a b (some c) (ltb-false 9 g.remaining.0 d) (eqb-true (g.remaining.0 + 1) before e) (ltb-false data_most (saved + n) f)
