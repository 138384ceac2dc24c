-- A reader's answer is that of the readers that it calls, one after the other.
use Rattle.std.specs.Prelude.{Result, Ok, Err}
use Prim.Native.Nat.{ℕ, ◌+◌, ◌%◌}
use mathlib.Core.Path.{◌≡◌, sym, ap, ◌∙◌}
use mathlib.Core.Bool.{true, false}
use mathlib.Core.List.{List, [], ◌∷◌, ◌++◌}
use lib.Dec.{eqb, ltb}
use lib.ListN.{length}
use Rattle.rules.specs.Numbers.{parameter_most}
use Rattle.rules.specs.Refusals.{Check, ◌for◌over◌, unplaced, judged_at}
use Rattle.rules.specs.Registry.{kind_of}
use Rattle.rules.specs.Layout.{octet, is_new, remaining_of, past_address, at2, at3, origin_at, context_of, reference_of, span_at, heading_of, fields_of, last_checks, context_checks, sequence_checks, address_checks, addresses_checks, reading_checks}
use Rattle.rules.proofs.Refusals.{fault-append, fault-then}
use Rattle.rules.specs.declared.Context.{Context}
use Rattle.rules.specs.declared.Entry.{Entry}
use Rattle.rules.specs.declared.Fault.{Fault}
use Rattle.rules.specs.declared.Fields.{Fields}
use Rattle.rules.specs.declared.Span.{Span}
use Rattle.param_fields.specs.Fields.{last_field, context_field, sequence_field, address_field}
use Rattle.param_fields.specs.declared.Sequence.{Sequence}
use Rattle.param_read.specs.Reading.{addresses_field, heading_from, after_addresses, reading}
use Rattle.param_read.specs.declared.Addresses.{Addresses}

-- the destination after the origin
abbrev pub after_destination : Span → Result (Span × ℕ) Fault → Result Addresses Fault
after_destination o (Err e) = Err e
after_destination o (Ok (d, past)) = Ok (record { origin = o; destination = d; information = past })

abbrev pub after_origin : List ℕ → Result (Span × ℕ) Fault → Result Addresses Fault
after_origin s (Err e) = Err e
after_origin s (Ok (o, past)) = after_destination o (address_field s past)

pub addresses-none : (s : List ℕ) (kind at : ℕ) → eqb kind 2 ≡ false → addresses_field s kind at ≡ Ok (record { origin = record { at = 0; length = 0 }; destination = record { at = 0; length = 0 }; information = at })
unfolding addresses_field
addresses-none s kind at e = simp e

pub addresses-both : (s : List ℕ) (kind at : ℕ) → eqb kind 2 ≡ true → addresses_field s kind at ≡ after_origin s (address_field s at)
unfolding addresses_field address_field
addresses-both s kind at e =
    let past : ℕ = past_address s at in
    simp e
    (fault-append (address_checks s at) (address_checks s past) Err _
    ∙ sym
    (fault-then (after_origin s) (address_checks s at) Err (Ok (span_at true s at, past))
    ∙ ap (λ (r : Result Addresses Fault). judged_at (address_checks s at) Err r)
    (fault-then (after_destination (span_at true s at)) (address_checks s past) Err (Ok (span_at true s past, past_address s past)))))

-- a whole parameter
abbrev pub after_sequence : List ℕ → Context → ℕ → ℕ → Result (Sequence × ℕ) Fault → Result Fields Fault
after_sequence s x kind i (Err e) = Err e
after_sequence s x kind i (Ok (q, at)) = after_addresses (heading_from x kind i q) (addresses_field s kind at)

abbrev pub after_instruction : List ℕ → Context → ℕ → Result (ℕ × ℕ) Fault → Result Fields Fault
after_instruction s x kind (Err e) = Err e
after_instruction s x kind (Ok (y, at)) = after_sequence s x kind (y % 4) (sequence_field s at)

abbrev pub after_context : List ℕ → Result (Context × ℕ × ℕ) Fault → Result Fields Fault
after_context s (Err e) = Err e
after_context s (Ok (x, kind, at)) = after_instruction s x kind (last_field s at)

pub reading-is : (registry : List Entry) (s : List ℕ) → ltb parameter_most (length s) ≡ false → reading registry s ≡ after_context s (context_field registry s)
unfolding reading reading_checks context_field last_field sequence_field addresses_field fields_of
reading-is registry s e =
    let x : Context = record { 0 = context_of s } in
    let kind : ℕ = kind_of registry (context_of s) in
    let q : Sequence = record { new = is_new (octet s (at3 s)); remaining = record { 0 = remaining_of (octet s (at3 s)) }; reference = record { 0 = reference_of s (at3 s) } } in
    let four : List Check = 4 for length s over parameter_most ∷ [] in
    let cs : List Check = context_checks registry s in
    let ls : List Check = last_checks s (at2 s) in
    let qs : List Check = sequence_checks s (at3 s) in
    let rs : List Check = addresses_checks kind s (origin_at s) in
    let v : Result Fields Fault = Ok (fields_of registry s) in
    fault-append (four ++ cs ++ ls ++ qs) rs Err v
    ∙ fault-append (four ++ cs ++ ls) qs Err _
    ∙ fault-append (four ++ cs) ls Err _
    ∙ fault-append four cs Err _
    ∙ simp e
    (sym
    (fault-then (after_context s) cs Err (Ok (x, kind, at2 s))
    ∙ ap (λ (r : Result Fields Fault). judged_at cs Err r)
    (fault-then (after_instruction s x kind) ls Err (Ok (octet s (at2 s), at2 s + 1))
    ∙ ap (λ (r : Result Fields Fault). judged_at ls Err r)
    (fault-then (after_sequence s x kind (octet s (at2 s) % 4)) qs Err (Ok (q, origin_at s))
    ∙ ap (λ (r : Result Fields Fault). judged_at qs Err r)
    (fault-then (after_addresses (heading_of registry s)) rs Err _)))))

pub reading-long : (registry : List Entry) (s : List ℕ) → ltb parameter_most (length s) ≡ true → reading registry s ≡ Err (unplaced 4)
unfolding reading reading_checks
reading-long registry s e = simp e

-- each step by the one before it
pub ruleset steps = (addresses-none, addresses-both, reading-long, reading-is)
