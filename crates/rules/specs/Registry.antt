-- The registry: registered contexts and their kinds, 1 of 1998 and 2 of 2000.
use Rattle.std.specs.Prelude.{if◌then◌else◌, ℕ, Bool, true, false, not, ◌&&◌, ◌||◌, List, [], ◌∷◌, eqb, leb, length}
use Rattle.octets.specs.Number.{number}
use Rattle.rules.specs.General.{every, every_two}
use Rattle.rules.specs.Numbers.{entries_most, context_in_range}
use Rattle.rules.specs.declared.Entry.{Entry}

-- the kind of a context: 0 where it is not registered
abbrev pub kind_of : List Entry → ℕ → ℕ
kind_of [] x = 0
kind_of (e ∷ es) x = if eqb e.context.0 x then e.kind else kind_of es x

-- the entries that octets list, kind (1) and context (2) each; what is left of a cut record is none
abbrev pub entries_of : List ℕ → List Entry
entries_of [] = []
entries_of (k ∷ []) = []
entries_of (k ∷ x ∷ []) = []
entries_of (k ∷ x ∷ y ∷ rest) = record { context = record { 0 = number (x ∷ y ∷ []) }; kind = k } ∷ entries_of rest

abbrev pub is_cut : List ℕ → Bool
is_cut [] = false
is_cut (k ∷ []) = true
is_cut (k ∷ x ∷ []) = true
is_cut (k ∷ x ∷ y ∷ rest) = is_cut rest

-- a known kind and a context in range
abbrev pub is_entry : Entry → Bool
is_entry e = (eqb e.kind 1 || eqb e.kind 2) && context_in_range e.context.0

-- an entry that is not used is all zero
abbrev pub is_unused : Entry → Bool
is_unused e = eqb e.kind 0 && eqb e.context.0 0

-- two entries that do not list one context
abbrev pub entries_apart : Entry → Entry → Bool
entries_apart d e = is_unused d || is_unused e || not (eqb d.context.0 e.context.0)

-- sound: distinct and in range, unused entries all zero
abbrev pub is_usable : Entry → Bool
is_usable e = is_unused e || is_entry e

abbrev pub registry_sound : List Entry → Bool
registry_sound es = every is_usable es && every_two entries_apart es

-- refusal 11: unknown kind, cut record, context out of range or listed twice, over 8
abbrev pub lists_registry : List ℕ → Bool
lists_registry octets =
    not (is_cut octets) && leb (length (entries_of octets)) entries_most && every is_entry (entries_of octets) && every_two entries_apart (entries_of octets)
