use Prim.Native.Nat.{◌≤◌}
use mathlib.Core.Path.{◌≡◌, ap, ◌∙◌}
use mathlib.Core.Bool.{true, false, ◌&&◌}
use native.Mathlib.Omega.{arith}
use lib.ListN.{length}
use Rattle.rules.specs.General.{every, every_two}
use Rattle.rules.specs.Registry.{entries_of, is_entry, entries_apart, lists_registry}
use Rattle.rules.proofs.Registry.{is_whole, whole-bound, entries-length, padded-taken, padded-apart, lists-is}
use Rattle.opening.proofs.listed.Goals.{After-all_apart-apart}
use Rattle.opening.proofs.listed.Goals as goal

-- of whole records, at most 8, the two tests decide
by_tests : (c : After-all_apart-apart) → lists_registry c.args.registry.now ≡ (c.all_entries-known.result && c.all_apart-apart.result)
by_tests c =
    let o = c.args.registry.now in
    let whole : is_whole (length o) ≡ true = c.if-not-whole.false in
    let filled = c.entries_of-entries.ensures in
    let known : c.all_entries-known.result ≡ every is_entry (entries_of o) = c.all_entries-known.ensures ∙ rw filled (ap (every is_entry) (padded-taken o)) in
    let apart : c.all_apart-apart.result ≡ every_two entries_apart (entries_of o) = c.all_apart-apart.ensures ∙ rw filled (padded-apart (entries_of o)) in
    lists-is o ∙ rw (whole, known, apart)

pub returns-then-not-whole : goal.returns-then-not-whole
returns-then-not-whole c =
    let cut : is_whole (length c.args.registry.now) ≡ false = c.if-not-whole.true in
    let list : lists_registry c.args.registry.now ≡ false = lists-is c.args.registry.now ∙ rw cut in
    record { first = simp (c.if-not-timed.false, list); entries = tt }

pub entries_of-entries-requires : goal.entries_of-entries-requires
entries_of-entries-requires c = whole-bound _ (c.if-not-whole.false)

pub all_entries-known-requires : goal.all_entries-known-requires
all_entries-known-requires c =
    let o = c.args.registry.now in
    let h : length o ≤ 24 = whole-bound _ (c.if-not-whole.false) in
    omega arith

pub returns-then-not-known-apart : goal.returns-then-not-known-apart
returns-then-not-known-apart c =
    let list = by_tests (goal.at.returns-then-not-known-apart c).After-all_apart-apart ∙ c.if-not-known-apart.true in
    record { first = simp (c.if-not-timed.false, list); entries = tt }

pub returns : goal.returns
returns c =
    let o = c.args.registry.now in
    let h : length o ≤ 24 = whole-bound _ (c.if-not-whole.false) in
    let list = by_tests (goal.at.returns c).After-all_apart-apart ∙ c.if-not-known-apart.false in
    record { first = simp (c.if-not-timed.false, list); entries = (c.entries_of-entries.ensures, omega (arith, entries-length o, h)) }
