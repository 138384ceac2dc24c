use Prim.Native.Nat.{◌+◌, ◌*◌}
use mathlib.Core.Path.{◌≡◌, refl, sym, ap, ◌∙◌}
use native.Mathlib.Numerals.{add-one}
use native.Mathlib.Omega.{arith}
use lib.ListN.{drop, length-set, length-drop}
use lib.Seq.{sets}
use Rattle.rules.specs.Registry.{entries_of}
use Rattle.rules.proofs.Registry.{entries-length, entries-end, written}
use Rattle.opening.proofs.entries_of.Goals as goal

pub loop-i-init : goal.loop-i-init
loop-i-init c =
    let o = c.args.octets.now in
    (rw c.no_entry-unused.ensures (sym (written (entries_of o) (omega (arith, entries-length o)))), refl)

pub loop-i-preserved : goal.loop-i-preserved
loop-i-preserved c =
    let l = c.loop-i in
    let three : 3 * (l.i + 1) ≡ 3 * l.i + 3 = omega arith in
    (l.invariant.0 ∙ ap (sets l.entries l.i) c.entry_at.ensures ∙ rw (three, add-one), simp length-set l.invariant.1)

pub returns : goal.returns
returns c =
    let l = c.loop-i in
    let o = c.args.octets.now in
    sym (l.invariant.0 ∙ rw (entries-end (drop (3 * l.i) o) (simp length-drop (omega arith))))
