-- Contexts alone, without kinds.
use Rattle.std.specs.Prelude.{ℕ, Bool, not, ◌||◌, eqb}
use Rattle.rules.specs.declared.Entry.{Entry}

-- an entry whose context is another
abbrev pub has_other : ℕ → Entry → Bool
has_other context e = not (eqb e.context.0 context)

-- two entries with different contexts; 0 is no context
abbrev pub contexts_apart : Entry → Entry → Bool
contexts_apart d e = eqb d.context.0 0 || has_other d.context.0 e
