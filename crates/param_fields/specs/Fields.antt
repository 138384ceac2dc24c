-- What each reader answers: its field and the position past it, or the fault of the first check that applies there. The checks and the fields are the rules'.
use Rattle.std.specs.Prelude.{if◌then◌else◌, ℕ, ◌+◌, Bool, true, List, [], ◌∷◌, eqb, Result, Ok, Err}
use Rattle.rules.specs.Refusals.{judged_at}
use Rattle.rules.specs.Registry.{kind_of}
use Rattle.rules.specs.Layout.{octet, context_of, at2, is_new, remaining_of, reference_of, past_sequence, past_address, span_at, cut_before, last_checks, context_checks, sequence_checks, address_checks}
use Rattle.rules.specs.declared.Context.{Context}
use Rattle.rules.specs.declared.Entry.{Entry}
use Rattle.rules.specs.declared.Fault.{Fault}
use Rattle.rules.specs.declared.Span.{Span}
use Rattle.param_fields.specs.declared.Sequence.{Sequence}

-- one octet that has to be there
unfoldable pub octet_field : List ℕ → ℕ → Result ℕ Fault
octet_field s at = judged_at (cut_before s (at + 1) ∷ []) Err (Ok (octet s at))

unfoldable pub last_field : List ℕ → ℕ → Result (ℕ × ℕ) Fault
last_field s at = judged_at (last_checks s at) Err (Ok (octet s at, at + 1))

-- a context whose last octet is at a position
abbrev pub known_field : List Entry → Context → Bool → ℕ → Result (Context × ℕ × ℕ) Fault
known_field registry x padded last =
    if padded then Err (record { number = 23; position = last }) else
    if eqb (kind_of registry x.0) 0 then Err (record { number = 8; position = last }) else
    Ok (x, kind_of registry x.0, last + 1)

unfoldable pub context_field : List Entry → List ℕ → Result (Context × ℕ × ℕ) Fault
context_field registry s =
    judged_at (context_checks registry s) Err (Ok (record { 0 = context_of s }, kind_of registry (context_of s), at2 s))

unfoldable pub sequence_field : List ℕ → ℕ → Result (Sequence × ℕ) Fault
sequence_field s at =
    judged_at (sequence_checks s at) Err
    (Ok (
      record { new = is_new (octet s at); remaining = record { 0 = remaining_of (octet s at) }; reference = record { 0 = reference_of s at } },
      past_sequence s at,
    ))

unfoldable pub address_field : List ℕ → ℕ → Result (Span × ℕ) Fault
address_field s at = judged_at (address_checks s at) Err (Ok (span_at true s at, past_address s at))
