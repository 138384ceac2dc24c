-- What reading the addresses answers, and a whole parameter: the fields, or the fault of the first check that applies. The checks and the fields are the rules'.
use Rattle.std.specs.Prelude.{ℕ, List, Result, Ok, Err}
use Rattle.rules.specs.Refusals.{judged_at}
use Rattle.rules.specs.Layout.{has_addresses, past_address, span_at, information_at, fields_of, addresses_checks, reading_checks}
use Rattle.rules.specs.declared.Context.{Context}
use Rattle.rules.specs.declared.Entry.{Entry}
use Rattle.rules.specs.declared.Fault.{Fault}
use Rattle.rules.specs.declared.Fields.{Fields}
use Rattle.rules.specs.declared.Heading.{Heading}
use Rattle.param_fields.specs.declared.Sequence.{Sequence}
use Rattle.param_read.specs.declared.Addresses.{Addresses}

unfoldable pub addresses_field : List ℕ → ℕ → ℕ → Result Addresses Fault
addresses_field s kind at =
    judged_at (addresses_checks kind s at) Err
    (Ok
    (record {
      origin = span_at (has_addresses kind) s at;
      destination = span_at (has_addresses kind) s (past_address s at);
      information = information_at kind s at;
    }))

-- a whole parameter
unfoldable pub reading : List Entry → List ℕ → Result Fields Fault
reading registry s = judged_at (reading_checks registry s) Err (Ok (fields_of registry s))

-- how the fields make up a parameter
abbrev pub heading_from : Context → ℕ → ℕ → Sequence → Heading
heading_from context kind instruction q =
    record {
      context = context;
      kind = kind;
      instruction = instruction;
      new = q.new;
      remaining = q.remaining;
      reference = q.reference;
    }

abbrev pub after_addresses : Heading → Result Addresses Fault → Result Fields Fault
after_addresses g (Err e) = Err e
after_addresses g (Ok a) =
    Ok (record { heading = g; origin = a.origin; destination = a.destination; information = a.information })
