-- The lines of a segment, by whether it begins a sequence.
use Prim.Native.Nat.{ℕ, ◌+◌, ◌≤◌, ◌<◌}
use mathlib.Core.Path.{◌≡◌, refl}
use mathlib.Core.Bool.{Bool, true, false, ◌&&◌}
use native.Mathlib.Omega.{arith}
use borrow.Author.Tests.{le-leb, lt-leb}
use lib.Dec.{leb}
use Rattle.rules.specs.Numbers.{data_most}
use Rattle.rules.specs.Layout.{is_unsegmented}
use Rattle.rules.specs.Receiving.{line_of}
use Rattle.rules.proofs.Lines as Lines
use Rattle.rules.specs.declared.Heading.{Heading}
use Rattle.rules.specs.declared.Line.{Line}
use Rattle.rules.specs.declared.Line.TheVariants.{Unsegmented, Broken, Restart, Start, Final, Next}

pub and-false : (b : Bool) → (b && false) ≡ false
and-false true = refl
and-false false = refl

-- a new segment with up to 9 remaining: one that begins a sequence
abbrev pub begins : Heading → Bool
begins g = g.new && leb g.remaining.0 9

pub line-cases : (P : Line → Type 0) (is_open : Bool) (before saved : ℕ) (g : Heading) (n : ℕ)
    → (is_unsegmented g.new g.remaining.0 ≡ true → P Unsegmented)
    → ((cause : ℕ) → cause < 6 → begins g ≡ false → P (Broken cause))
    → (begins g ≡ true → is_open ≡ true → P Restart)
    → (begins g ≡ true → is_open ≡ false → P Start)
    → (begins g ≡ false → is_open ≡ true → saved + n ≤ data_most → P Final)
    → (begins g ≡ false → is_open ≡ true → saved + n ≤ data_most → P Next)
    → P (line_of is_open before saved g n)
line-cases P is_open before saved g n alone broken restart start final next =
    Lines.line-cases P is_open before saved g n
    (record {
      unsegmented = λ new none. alone (simp (new, none));
      beyond = λ far. broken 4 (omega arith) (simp (lt-leb g.remaining.0 9 far) (and-false g.new));
      restart = λ new o some few. restart (simp (new, le-leb g.remaining.0 9 few)) o;
      start = λ new o some few. start (simp (new, le-leb g.remaining.0 9 few)) o;
      stray = λ new o few. broken 1 (omega arith) (simp new);
      gap = λ new o few e. broken 2 (omega arith) (simp new);
      over = λ new o few e long. broken 5 (omega arith) (simp new);
      final = λ new o none e long. final (simp new) o long;
      next = λ new o some few e long. next (simp new) o long;
    })
