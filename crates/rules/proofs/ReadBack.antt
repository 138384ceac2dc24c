-- What is written is read back: a parameter over any heading, and so each segment of a sending that is accepted.
use Rattle.std.specs.Prelude.{if◌then◌else◌}
use Prim.Native.Nat.{ℕ, ◌+◌, ◌*◌, ◌/◌, ◌%◌, ◌≤◌, ◌<◌}
use mathlib.Core.Path.{◌≡◌, refl, sym, ap, ◌∙◌}
use mathlib.Core.Bool.{Bool, true, false, and-eq-true_iff}
use mathlib.Core.List.{List, [], ◌∷◌, ◌++◌, append_assoc}
use native.Mathlib.Nat.{add-zero}
use native.Mathlib.Omega.{arith}
use borrow.Author.Tests.{ltb-true, ltb-false, eqb-true, eqb-false, le-ltb, le-leb, lt-leb, ne_eqb, not-true, not-false}
use lib.Dec.{eqb, ltb}
use lib.ListN.{length, take, drop, length-append, length-drop}
use lib.Seq.{get_or-drop, drop-drop, take-append_seam, drop-append_seam}
use Rattle.rules.specs.Numbers.{parameter_most}
use Rattle.rules.specs.Refusals.{Check, ◌for◌over◌, accepted}
use Rattle.rules.specs.Registry.{kind_of}
use Rattle.rules.specs.Layout.{octet, context_of, at2, at3, is_new, remaining_of, is_unsegmented, reference_of, past_sequence, origin_at, past_address, has_addresses, span_at, information_at, fields_of, last_checks, context_checks, sequence_checks, address_checks, addresses_checks, reading_checks, context_octets, sequence_octets, addresses_octets, parameter_octets}
use Rattle.rules.specs.Records.{address_of}
use Rattle.rules.specs.Receiving.{address_at}
use Rattle.rules.specs.Sending.{is_segmented, heading_for, carried, segment_octets, sending_checks}
use Rattle.rules.specs.declared.Entry.{Entry}
use Rattle.rules.specs.declared.Table.{Table}
use Rattle.rules.specs.declared.Heading.{Heading}
use Rattle.rules.specs.declared.Request.{Request}
use Rattle.rules.proofs.Refusals.{accepted-append}
use Rattle.octets.proofs.Number.{empty}
use Rattle.rules.proofs.Cutting.{kind_for, header_for, cuttable, alone-is, within-room}

-- the octet at a position, by what is left there
module _ (s : List ℕ) (at x : ℕ) (rest : List ℕ) (e : drop at s ≡ x ∷ rest) where
  octet-is : octet s at ≡ x
  octet-is = rw add-zero at (sym (get_or-drop at s 0 0)) ∙ ap (λ (l : List ℕ). octet l 0) e

  inside : at < length s
  inside = omega (arith, length-drop at s, ap length e)

  there : at + 1 ≤ length s
  there = omega (arith, inside)

  next : drop (at + 1) s ≡ rest
  next = sym (drop-drop 1 at s) ∙ ap (drop 1) e

both : (xs ys : List Check) → accepted xs ≡ true → accepted ys ≡ true → accepted (xs ++ ys) ≡ true
both xs ys a b = accepted-append xs ys ∙ rw (a, b)

-- an octet that is the last of its field
last-accepted : (s : List ℕ) (at v : ℕ) (rest : List ℕ) → drop at s ≡ (128 + v) ∷ rest → accepted (last_checks s at) ≡ true
last-accepted s at v rest e =
    let b : 128 ≤ 128 + v = omega arith in
    simp (le-ltb _ _ (there s at (128 + v) rest e), octet-is s at (128 + v) rest e, le-ltb _ _ b)

-- octets 1 and 1a
record ContextBack (r : List Entry) (x : ℕ) (s rest : List ℕ) : Type 0 where
  value : context_of s ≡ x
  checks : accepted (context_checks r s) ≡ true
  past : drop (at2 s) s ≡ rest

context-back : (r : List Entry) (x : ℕ) (rest : List ℕ) → x ≤ 16383 → (kind_of r x ≡ 0 → ⊥) → ContextBack r x (context_octets x ++ rest) rest
context-back r x rest most known = go (ltb x 128) refl
  where
    unknown : eqb (kind_of r x) 0 ≡ false
    unknown = ne_eqb _ _ known

    go : (b : Bool) → ltb x 128 ≡ b → ContextBack r x ((if b then (128 + x) ∷ [] else x % 128 ∷ (128 + x / 128) ∷ []) ++ rest) rest
    go true t =
        let less = ltb-true x 128 t in
        let b : 128 ≤ 128 + x = omega arith in
        let m : (128 + x) % 128 ≡ x = omega arith in
        let there : 1 ≤ length ((128 + x) ∷ rest) = omega arith in
        record {
          value = simp (le-leb _ _ b, m);
          checks = simp (le-ltb _ _ there, le-leb _ _ b, m, unknown);
          past = simp (le-leb _ _ b);
        }
    go false t =
        let low : x % 128 < 128 = omega arith in
        let b : 128 ≤ 128 + x / 128 = omega arith in
        let m : x % 128 % 128 + 128 * ((128 + x / 128) % 128) ≡ x = omega arith in
        let there : 1 ≤ length (x % 128 ∷ (128 + x / 128) ∷ rest) = omega arith in
        let there1 : 2 ≤ length (x % 128 ∷ (128 + x / 128) ∷ rest) = omega arith in
        let two = ltb-false x 128 t in
        let upper : (128 + x / 128) % 128 ≡ 0 → ⊥ = λ e. omega arith in
        record {
          value = simp (lt-leb _ _ low, m);
          checks = simp (le-ltb _ _ there, le-ltb _ _ there1, lt-leb _ _ low, le-ltb _ _ b, ne_eqb _ _ upper, m, unknown);
          past = simp (lt-leb _ _ low);
        }

-- octets 3 and 3a
record SequenceBack (g : Heading) (s : List ℕ) (at : ℕ) (rest : List ℕ) : Type 0 where
  new : is_new (octet s at) ≡ g.new
  remaining : remaining_of (octet s at) ≡ g.remaining.0
  reference : reference_of s at ≡ g.reference.0
  checks : accepted (sequence_checks s at) ≡ true
  past : drop (past_sequence s at) s ≡ rest

-- an octet 3 whose extension is 0
record Third (new : Bool) (remaining x : ℕ) : Type 0 where
  low : x < 128
  is_new-is : is_new x ≡ new
  remaining-is : remaining_of x ≡ remaining

third-is : (new : Bool) (remaining : ℕ) → remaining ≤ 63 → Third new remaining (if new then 64 + remaining else remaining)
third-is true m h =
    let e : 64 ≤ (64 + m) % 128 = omega arith in
    record { low = omega arith; is_new-is = le-leb 64 ((64 + m) % 128) e; remaining-is = omega arith }
third-is false m h =
    let e : m % 128 < 64 = omega arith in
    record { low = omega arith; is_new-is = lt-leb 64 (m % 128) e; remaining-is = omega arith }

sequence-back : (g : Heading) (s : List ℕ) (at : ℕ) (rest : List ℕ) → g.remaining.0 ≤ 63
    → (is_unsegmented g.new g.remaining.0 ≡ true → g.reference.0 ≡ 255) → (is_unsegmented g.new g.remaining.0 ≡ false → g.reference.0 ≤ 127)
    → drop at s ≡ sequence_octets g ++ rest → SequenceBack g s at rest
sequence-back g s at rest most alone apart = go (is_unsegmented g.new g.remaining.0) refl
  where
    go : (b : Bool) → is_unsegmented g.new g.remaining.0 ≡ b
        → drop at s ≡ (if b then 192 ∷ [] else (if g.new then 64 + g.remaining.0 else g.remaining.0) ∷ (128 + g.reference.0) ∷ []) ++ rest
        → SequenceBack g s at rest
    go true t e =
        let parts = (and-eq-true_iff g.new (eqb g.remaining.0 0)).0 t in
        let o = octet-is s at 192 rest e in
        record {
          new = rw o (sym parts.0);
          remaining = rw o (sym (eqb-true g.remaining.0 0 parts.1));
          reference = simp o (sym (alone t));
          checks = simp (le-ltb _ _ (there s at 192 rest e), o);
          past = simp o (next s at 192 rest e);
        }
    go false t e =
        let x : ℕ = if g.new then 64 + g.remaining.0 else g.remaining.0 in
        let y : ℕ = 128 + g.reference.0 in
        let is = third-is g.new g.remaining.0 most in
        let o = octet-is s at x (y ∷ rest) e in
        let f = next s at x (y ∷ rest) e in
        let o1 = octet-is s (at + 1) y rest f in
        let small = apart t in
        let m : (128 + g.reference.0) % 128 ≡ g.reference.0 = omega arith in
        let b : 128 ≤ 128 + g.reference.0 = omega arith in
        let two : at + 2 ≡ at + 1 + 1 = omega arith in
        record {
          new = rw o is.is_new-is;
          remaining = rw o is.remaining-is;
          reference = simp (o, lt-leb _ _ is.low, o1, m);
          checks = simp (le-ltb _ _ (there s at x (y ∷ rest) e), o, lt-leb _ _ is.low, le-ltb _ _ (there s (at + 1) y rest f), o1, le-ltb _ _ b, is.is_new-is, is.remaining-is, t);
          past = simp (o, lt-leb _ _ is.low, two) (next s (at + 1) y rest f);
        }

-- an address after its length
record AddressBack (a s : List ℕ) (at : ℕ) (rest : List ℕ) : Type 0 where
  size : octet s at ≡ length a
  octets : take (length a) (drop (at + 1) s) ≡ a
  address : address_at s (span_at true s at) ≡ address_of a
  checks : accepted (address_checks s at) ≡ true
  past : drop (past_address s at) s ≡ rest

address-back : (a s : List ℕ) (at : ℕ) (rest : List ℕ) → length a ≤ 20 → drop at s ≡ (length a ∷ a) ++ rest → AddressBack a s at rest
address-back a s at rest most e =
    let size = octet-is s at (length a) (a ++ rest) e in
    let f = next s at (length a) (a ++ rest) e in
    let here = there s at (length a) (a ++ rest) e in
    let l = length-drop (at + 1) s in
    let l1 = ap length f in
    let l2 = length-append a rest in
    let fits : at + 1 + length a ≤ length s = omega arith in
    let octets : take (length a) (drop (at + 1) s) ≡ a = rw f (take-append_seam a rest) in
    record {
      size = size;
      octets = octets;
      address = rw (size, octets);
      checks = simp (le-ltb _ _ here, size, le-ltb _ _ most, le-ltb _ _ fits);
      past = rw (size, ← drop-drop (length a) (at + 1) s, f) (drop-append_seam a rest);
    }

-- both addresses, or none, and the information
record AddressesBack (kind : ℕ) (o d s : List ℕ) (at : ℕ) (rest : List ℕ) : Type 0 where
  origin : address_at s (span_at (has_addresses kind) s at) ≡ address_of o
  destination : address_at s (span_at (has_addresses kind) s (past_address s at)) ≡ address_of d
  checks : accepted (addresses_checks kind s at) ≡ true
  past : drop (information_at kind s at) s ≡ rest

addresses-back : (kind : ℕ) (o d s : List ℕ) (at : ℕ) (rest : List ℕ) → length o ≤ 20 → length d ≤ 20 → ((kind ≡ 2 → ⊥) → length o + length d ≡ 0)
    → drop at s ≡ addresses_octets kind o d ++ rest → AddressesBack kind o d s at rest
addresses-back kind o d s at rest lo ld none = go (eqb kind 2) refl
  where
    go : (b : Bool) → eqb kind 2 ≡ b → drop at s ≡ (if b then (length o ∷ o) ++ (length d ∷ d) else []) ++ rest → AddressesBack kind o d s at rest
    go true t e =
        let first = address-back o s at ((length d ∷ d) ++ rest) lo (e ∙ append_assoc (length o ∷ o) (length d ∷ d) rest) in
        let second = address-back d s (past_address s at) rest ld first.past in
        record {
          origin = simp t first.address;
          destination = simp t second.address;
          checks = simp t (both (address_checks s at) (address_checks s (past_address s at)) first.checks second.checks);
          past = simp t second.past;
        }
    go false t e =
        let no = none (eqb-false kind 2 t) in
        record {
          origin = simp t (rw (empty o (omega arith)));
          destination = simp t (rw (empty d (omega arith)));
          checks = simp t;
          past = simp t e;
        }

-- a heading, addresses and information that make a parameter
pub record Writable (r : List Entry) (g : Heading) (o d information : List ℕ) : Type 0 where
  pub kind : kind_of r g.context.0 ≡ g.kind
  pub registered : 1 ≤ g.kind
  pub known : g.kind ≤ 2
  pub context : g.context.0 ≤ 16383
  pub instruction : g.instruction ≤ 3
  pub remaining : g.remaining.0 ≤ 63
  pub alone : is_unsegmented g.new g.remaining.0 ≡ true → g.reference.0 ≡ 255
  pub apart : is_unsegmented g.new g.remaining.0 ≡ false → g.reference.0 ≤ 127
  pub origin : length o ≤ 20
  pub destination : length d ≤ 20
  pub unaddressed : g.kind ≡ 1 → length o + length d ≡ 0
  pub size : length (parameter_octets g o d information) ≤ 255

pub record ReadsBack (r : List Entry) (s : List ℕ) (g : Heading) (o d info : List ℕ) : Type 0 where
  pub accepted : accepted (reading_checks r s) ≡ true
  pub heading : (fields_of r s).heading ≡ g
  pub origin : address_at s (fields_of r s).origin ≡ address_of o
  pub destination : address_at s (fields_of r s).destination ≡ address_of d
  pub information : drop (fields_of r s).information s ≡ info

-- a heading from its parts
abbrev heading_from : ℕ → ℕ → ℕ → Bool → ℕ → ℕ → Heading
heading_from x kind i new remaining reference =
    record {
      context = record { 0 = x };
      kind = kind;
      instruction = i;
      new = new;
      remaining = record { 0 = remaining };
      reference = record { 0 = reference };
    }

parts-equal : (x y k l i j : ℕ) (m n : Bool) (u v a b : ℕ) → x ≡ y → k ≡ l → i ≡ j → m ≡ n → u ≡ v → a ≡ b → heading_from x k i m u a ≡ heading_from y l j n v b
parts-equal x y k l i j m n u v a b e1 e2 e3 e4 e5 e6 = rw (e1, e2, e3, e4, e5, e6)

module _ (r : List Entry) (g : Heading) (o d information : List ℕ) (w : Writable r g o d information) where
  abbrev after_context : List ℕ
  after_context = (128 + g.instruction) ∷ (sequence_octets g ++ (addresses_octets g.kind o d ++ information))

  parts : parameter_octets g o d information ≡ context_octets g.context.0 ++ after_context
  unfolding parameter_octets
  parts = simp append_assoc

  back : (s : List ℕ) → length s ≤ 255 → ContextBack r g.context.0 s after_context → ReadsBack r s g o d information
  unfolding fields_of reading_checks
  back s fits context =
      let rest : List ℕ = addresses_octets g.kind o d ++ information in
      let kind : kind_of r (context_of s) ≡ g.kind = rw context.value w.kind in
      let i = octet-is s (at2 s) (128 + g.instruction) (sequence_octets g ++ rest) context.past in
      let small = w.instruction in
      let m : (128 + g.instruction) % 4 ≡ g.instruction = omega arith in
      let instruction : octet s (at2 s) % 4 ≡ g.instruction = rw i m in
      let last = last-accepted s (at2 s) g.instruction (sequence_octets g ++ rest) context.past in
      let past2 = next s (at2 s) (128 + g.instruction) (sequence_octets g ++ rest) context.past in
      let sequence = sequence-back g s (at3 s) rest w.remaining w.alone w.apart past2 in
      let none : (g.kind ≡ 2 → ⊥) → length o + length d ≡ 0 = λ other. omega (arith, w.unaddressed (omega (arith, w.registered, w.known, other))) in
      let addresses = addresses-back g.kind o d s (origin_at s) information w.origin w.destination none sequence.past in
      let four : List Check = 4 for length s over parameter_most ∷ [] in
      let cs : List Check = context_checks r s in
      let ls : List Check = last_checks s (at2 s) in
      let qs : List Check = sequence_checks s (at3 s) in
      let one = both four cs (simp (le-ltb _ _ fits)) context.checks in
      let two = both (four ++ cs) ls one last in
      let three = both (four ++ cs ++ ls) qs two sequence.checks in
      record {
        accepted = both (four ++ cs ++ ls ++ qs) _ three (rw kind addresses.checks);
        heading = parts-equal _ _ _ _ _ _ _ _ _ _ _ _ context.value kind instruction sequence.new sequence.remaining sequence.reference;
        origin = rw kind addresses.origin;
        destination = rw kind addresses.destination;
        information = rw kind addresses.past;
      }

  pub parameter-back : ReadsBack r (parameter_octets g o d information) g o d information
  parameter-back =
      let registered : kind_of r g.context.0 ≡ 0 → ⊥ = λ e. omega (arith, w.kind, w.registered) in
      rw parts (back (context_octets g.context.0 ++ after_context) (rw parts at w.size) (context-back r g.context.0 after_context w.context registered))

-- a segment, by any registry that knows its context as the sender's does
module _ (t : Table) (q : Request) (o d whole area : List ℕ) (ok : accepted (sending_checks t q o d whole area) ≡ true) (r : List Entry)
    (same : kind_of r q.context.0 ≡ kind_for t q) where
  abbrev h : ℕ
  h = header_for t q o d

  abbrev g : Heading
  g = heading_for (kind_for t q) h q (length whole)

  writable : Writable r g o d (carried h q whole)
  unfolding segment_octets
  writable =
      let all = cuttable t q o d whole area ok in
      let room = within-room t q o d whole area ok in
      let alone = alone-is t q o d whole area ok in
      record {
        kind = same;
        registered = all.registered;
        known = all.known;
        context = all.context_most;
        instruction = all.instruction;
        remaining = omega (arith, room.count);
        alone = λ e. simp (not-true (is_segmented h q (length whole)) (sym alone ∙ e));
        apart = λ e. simp (not-false (is_segmented h q (length whole)) (sym alone ∙ e)) all.reference;
        origin = all.origin;
        destination = all.destination;
        unaddressed = all.unaddressed;
        size = room.parameter;
      }

  pub read_back : ReadsBack r (segment_octets (kind_for t q) q o d whole) g o d (carried h q whole)
  unfolding segment_octets
  read_back = parameter-back r g o d (carried h q whole) writable
