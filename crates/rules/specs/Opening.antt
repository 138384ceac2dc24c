-- Section 'Receiving', the opening.
use Rattle.std.specs.Prelude.{ℕ, ◌-◌, not, List, [], ◌∷◌, ◌++◌, length, replicate}
use Rattle.rules.specs.Numbers.{place_count, entries_most, timer_in_range}
use Rattle.rules.specs.Refusals.{Check, ◌when◌, judged}
use Rattle.rules.specs.Registry.{entries_of, lists_registry}
use Rattle.rules.specs.Places.{free_place}
use Rattle.rules.specs.declared.Entry.{Entry}
use Rattle.rules.specs.declared.Table.{Table}
use Rattle.rules.specs.declared.Opened.{Opened}

abbrev pub no_entry : Entry
no_entry = record { context = record { 0 = 0 }; kind = 0 }

-- the registry's entries: those listed, and unused ones behind them
abbrev pub registry_with : List Entry → List Entry
registry_with entries = entries ++ replicate (entries_most - length entries) no_entry

-- a table with no open place
abbrev pub empty_table : List Entry → ℕ → ℕ → Table
empty_table entries timer clock =
    record {
      places = replicate place_count free_place;
      registry = registry_with entries;
      timer = timer;
      clock = clock;
    }

-- the unopened table, all zero, clock and T included
abbrev pub unopened : Table
unopened = empty_table [] 0 0

-- Opening: 12, 11
abbrev pub opening_checks : List ℕ → ℕ → List Check
opening_checks registry timer =
    12 when not (timer_in_range timer) ∷
    11 when not (lists_registry registry) ∷ []

abbrev pub unopened_by : ℕ → Opened
unopened_by n = record { table = unopened; refusal = n }

unfoldable pub opening : List ℕ → ℕ → ℕ → Opened
opening registry timer clock =
    judged (opening_checks registry timer)
    unopened_by
    (record { table = empty_table (entries_of registry) timer clock; refusal = 0 })
