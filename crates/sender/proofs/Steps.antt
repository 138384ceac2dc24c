-- The sender's steps, one after the other, are the rule of sending.
use Rattle.std.specs.Prelude.{if◌then◌else◌, Result, Ok, Err}
use Prim.Native.Nat.{ℕ, zero, suc, ◌+◌, ◌≤◌, ◌<◌}
use mathlib.Core.Path.{◌≡◌, refl, sym, ap, ◌∙◌}
use mathlib.Core.Bool.{Bool, true, false, and-eq-true_iff}
use mathlib.Core.List.{List, [], ◌∷◌, ◌++◌}
use native.Mathlib.Omega.{arith}
use borrow.Author.Tests.{ltb-false, eqb-false, not-true, not-false, lt-ltb, le-ltb}
use lib.Dec.{ltb}
use lib.ListN.{length, take, drop, length-append}
use lib.Seq.{take_all}
use Rattle.octets.specs.Splice.{splice}
use Rattle.rules.specs.Refusals.{Check, ◌for◌under◌, accepted, first, judged}
use Rattle.rules.specs.Registry.{kind_of}
use Rattle.rules.specs.Layout.{is_unsegmented, has_addresses, context_octets, sequence_octets, addresses_octets, parameter_octets}
use Rattle.rules.specs.Soundness.{sound}
use Rattle.rules.specs.Sending.{Sending, header_length, is_segmented, carried, count_of, segment_octets, sending_checks, sending, heading_with, request_checks, cut_checks, unsent}
use Rattle.rules.proofs.Refusals.{judged-append, judged-then, judged-first, first-accepted}
use Rattle.rules.proofs.Cutting.{neither, kind-known, parameter-length}
use Rattle.rules.specs.declared.Table.{Table}
use Rattle.rules.specs.declared.Heading.{Heading}
use Rattle.rules.specs.declared.Request.{Request}
use Rattle.rules.specs.declared.Sent.{Sent}
use Rattle.rules.specs.Promises.{OfSending}
use Rattle.refusals.specs.Numbers.{number_of}
use Rattle.refusals.proofs.Numbers.{number-some}
use Rattle.refusals.specs.declared.Refusal.{Refusal}
use Rattle.send_cut.specs.Plan.{header_for, piece_of, plan_of, Possible}
use Rattle.send_cut.specs.declared.Piece.{Piece}
use Rattle.sender.specs.Steps.{told, octets_with, emitted, Emitted, Ready}

-- what is asked passes its checks
pub record Asked (sound : Bool) (kind : ℕ) (q : Request) (o d n : ℕ) : Type 0 where
  pub table : sound ≡ true
  pub registered : kind ≡ 0 → ⊥
  pub size : n ≤ 2048
  pub origin : o ≤ 20
  pub destination : d ≤ 20
  pub instruction : q.instruction ≤ 3
  pub reference : q.reference.0 ≤ 127

module _ (sound : Bool) (kind : ℕ) (q : Request) (o d n : ℕ) (e : first (request_checks sound kind q o d n) ≡ 0) where
  pub request-accepted : accepted (request_checks sound kind q o d n) ≡ true
  request-accepted =
      first-accepted (request_checks sound kind q o d n) (omega arith, (omega arith, (omega arith, (omega arith, (omega arith, (omega arith, (omega arith, tt))))))) e

  pub asked : Asked sound kind q o d n
  asked =
      let all = simp and-eq-true_iff at request-accepted in
      let addresses = neither _ _ (not-true _ all.1.1.1.0) in
      record {
        table = not-false sound (not-true _ all.0);
        registered = eqb-false kind 0 (not-true _ all.1.0);
        size = ltb-false 2048 n (not-true _ all.1.1.0);
        origin = ltb-false 20 o addresses.0;
        destination = ltb-false 20 d addresses.1;
        instruction = ltb-false 3 q.instruction (not-true _ all.1.1.1.1.1.0);
        reference = ltb-false 127 q.reference.0 (not-true _ all.1.1.1.1.1.1.0);
      }

-- a registered context of a sound table fits its octets
pub context-fits : (t : Table) (x : ℕ) → sound t ≡ true → (kind_of t.registry x ≡ 0 → ⊥) → x < 16384
unfolding sound
context-fits t x s k =
    let known = kind-known t.registry x (simp and-eq-true_iff at s).0.0.1.0 k in
    omega (arith, known.2)

-- h, by lengths
pub header_is : (kind x : ℕ) (o d : List ℕ) → header_length kind x o d ≡ header_for kind x (length o) (length d)
header_is kind x o d = go (ltb x 128) refl (has_addresses kind) refl
  where
    go : (b : Bool) → ltb x 128 ≡ b → (c : Bool) → has_addresses kind ≡ c → header_length kind x o d ≡ header_for kind x (length o) (length d)
    go true e true f = simp (e, f, length-append) (omega arith)
    go true e false f = simp (e, f)
    go false e true f = simp (e, f, length-append) (omega arith)
    go false e false f = simp (e, f)

-- a parameter's length, by its header's
pub total-is : (g : Heading) (o d information : List ℕ)
    → length (parameter_octets g o d information) ≡ header_length g.kind g.context.0 o d + (if is_unsegmented g.new g.remaining.0 then 0 else 1) + length information
total-is g o d information = parameter-length g o d information ∙ go (is_unsegmented g.new g.remaining.0) refl
  where
    go : (b : Bool) → is_unsegmented g.new g.remaining.0 ≡ b
        → length (context_octets g.context.0) + 1 + length (sequence_octets g) + length (addresses_octets g.kind o d) + length information
        ≡ header_length g.kind g.context.0 o d + (if b then 0 else 1) + length information
    go true e = simp e (omega arith)
    go false e = simp e (omega arith)

-- the last step: the length that it finds, and what it leaves
module _ (kind : ℕ) (q : Request) (p : Piece) (h : ℕ) (o d whole : List ℕ) (ready : Ready kind q p h o d whole) where
  pub total : (g : Heading) (x : ℕ) (information : List ℕ) → g ≡ heading_with kind q p.count p.segmented → x ≡ (if is_unsegmented g.new g.remaining.0 then 0 else 1)
      → information ≡ take p.size (drop p.from whole) → h + x + length information ≡ length (octets_with kind q p o d whole)
  unfolding octets_with
  total g x information e f i =
      rw (f, i, e, ready.header) (sym (total-is (heading_with kind q p.count p.segmented) o d (take p.size (drop p.from whole))))

pub emit-refused : (octets : List ℕ) (count : ℕ) (area : List ℕ) → length area < length octets
    → Emitted octets count area (record { refusal = 20; count = 0; length = 0 }) area
unfolding emitted
emit-refused octets count area h = record { answered = simp (lt-ltb _ _ h); written = simp (lt-ltb _ _ h) }

pub emit-done : (octets : List ℕ) (count : ℕ) (area area' : List ℕ) (n : ℕ) → length octets ≤ length area → n ≡ length octets → area' ≡ splice area 0 octets
    → Emitted octets count area (record { refusal = 0; count = count; length = n }) area'
unfolding emitted
emit-done octets count area area' n h e f = record { answered = simp (le-ltb _ _ h, e); written = f ∙ simp (le-ltb _ _ h) }

-- a piece is what the segment carries
carried-is : (h : ℕ) (q : Request) (whole : List ℕ) → carried h q whole ≡ take (piece_of h q (length whole)).size (drop (piece_of h q (length whole)).from whole)
carried-is h q whole = go (is_segmented h q (length whole)) refl q.number refl
  where
    go : (b : Bool) → is_segmented h q (length whole) ≡ b → (k : ℕ) → q.number ≡ k
        → carried h q whole ≡ take (piece_of h q (length whole)).size (drop (piece_of h q (length whole)).from whole)
    go true e zero f = simp (e, f)
    go true e (suc k) f = simp (e, f)
    go false e k f = simp e (sym (take_all (length whole) whole (omega arith)))

-- after the request, the cut; after the cut, the segment
abbrev pub after_plan : ℕ → Request → List ℕ → List ℕ → List ℕ → List ℕ → Result Piece ℕ → Sending
after_plan kind q o d whole area (Err n) = unsent area n
after_plan kind q o d whole area (Ok p) = emitted (octets_with kind q p o d whole) p.count area

pub sending-is : (t : Table) (q : Request) (o d whole area : List ℕ) → sending t q o d whole area
    ≡ judged (request_checks (sound t) (kind_of t.registry q.context.0) q (length o) (length d) (length whole)) (unsent area)
    (after_plan (kind_of t.registry q.context.0) q o d whole area (plan_of (header_length (kind_of t.registry q.context.0) q.context.0 o d) q (length whole)))
unfolding sending sending_checks plan_of emitted octets_with segment_octets
sending-is t q o d whole area =
    let kind : ℕ = kind_of t.registry q.context.0 in
    let h : ℕ = header_length kind q.context.0 o d in
    let asks : List Check = request_checks (sound t) kind q (length o) (length d) (length whole) in
    let cuts : List Check = cut_checks h q (length whole) in
    let octets : List ℕ = segment_octets kind q o d whole in
    let fits : List Check = 20 for length area under length octets ∷ [] in
    let made : Sending = record { answer = record { refusal = 0; count = count_of h q (length whole); length = length octets }; area = splice area 0 octets } in
    judged-append (asks ++ cuts) fits (unsent area) made
    ∙ judged-append asks cuts (unsent area) _
    ∙ ap (λ (r : Sending). judged asks (unsent area) r)
    (sym (judged-then (after_plan kind q o d whole area) cuts Err (Ok (piece_of h q (length whole))) ∙ ap (λ (r : Sending). judged cuts (unsent area) r) (rw (carried-is h q whole))))

-- the three ways out of the call
module _ (t : Table) (q : Request) (o d whole area : List ℕ) where
  abbrev kind : ℕ
  kind = kind_of t.registry q.context.0

  abbrev asks : List Check
  asks = request_checks (sound t) kind q (length o) (length d) (length whole)

  abbrev plan : Result Piece ℕ
  plan = plan_of (header_length kind q.context.0 o d) q (length whole)

  passed : first asks ≡ 0 → sending t q o d whole area ≡ after_plan kind q o d whole area plan
  passed e = sending-is t q o d whole area ∙ rw (request-accepted (sound t) kind q (length o) (length d) (length whole) e)

  as-rule : (s : Sending) → sending t q o d whole area ≡ s → OfSending t q o d whole area s.answer s.area
  as-rule s e = record { answered = ap (λ (r : Sending). r.answer) (sym e); written = ap (λ (r : Sending). r.area) (sym e) }

  pub not-asked : (n : ℕ) → n ≡ first asks → (n ≡ 0 → ⊥) → OfSending t q o d whole area (record { refusal = n; count = 0; length = 0 }) area
  not-asked n e h =
      as-rule (unsent area n) (sending-is t q o d whole area ∙ judged-first asks (unsent area) _ (λ z. h (e ∙ z)) ∙ rw (← e))

  pub not-cut : (n : ℕ) → first asks ≡ 0 → plan ≡ Err n → OfSending t q o d whole area (record { refusal = n; count = 0; length = 0 }) area
  not-cut n e f = as-rule (unsent area n) (passed e ∙ rw f)

  pub is_cut_lem : (p : Piece) (r : Sent) (area' : List ℕ) → first asks ≡ 0 → plan ≡ Ok p → Emitted (octets_with kind q p o d whole) p.count area r area'
      → OfSending t q o d whole area r area'
  is_cut_lem p r area' e f m =
      let w = as-rule (emitted (octets_with kind q p o d whole) p.count area) (passed e ∙ rw f) in
      record { answered = m.answered ∙ w.answered; written = m.written ∙ w.written }

-- the same by what the code finds: whether the table is sound, the kind, and h
abbrev checks_at : Bool → ℕ → Request → List ℕ → List ℕ → List ℕ → List Check
checks_at good found q o d whole = request_checks good found q (length o) (length d) (length whole)

module _ (t : Table) (q : Request) (o d whole : List ℕ) {good : Bool} {found : ℕ} (is_sound : good ≡ sound t) (is_kind : found ≡ kind_of t.registry q.context.0) where
  asks-are : first (checks_at good found q o d whole) ≡ first (asks t q o d whole [])
  asks-are = rw (is_sound, is_kind)

  pub unasked : {area : List ℕ} (r : Refusal) → number_of r ≡ first (checks_at good found q o d whole) → OfSending t q o d whole area (told (Err r)) area
  unasked {area} r e = not-asked t q o d whole area (number_of r) (e ∙ asks-are) (number-some r)

  module _ (passes : ◌≡◌ {A = ℕ} 0 (first (checks_at good found q o d whole))) {h : ℕ} (is_header : h ≡ header_for found q.context.0 (length o) (length d)) where
    plan-is : plan_of h q (length whole) ≡ plan t q o d whole []
    plan-is = rw (is_header ∙ sym (header_is found q.context.0 o d), is_kind)

    pub uncut : {area : List ℕ} (r : Refusal) → Err (number_of r) ≡ plan_of h q (length whole) → OfSending t q o d whole area (told (Err r)) area
    uncut {area} r e = not-cut t q o d whole area (number_of r) (sym (passes ∙ asks-are)) (sym (e ∙ plan-is))

    pub ready : h ≤ 46 → (p : Piece) → Possible q.number p → Ready found q p h o d whole
    ready short p possible =
        let z = asked good found q (length o) (length d) (length whole) (sym passes) in
        record {
          possible = possible;
          header = is_header ∙ sym (header_is found q.context.0 o d);
          short = short;
          origin = z.origin;
          destination = z.destination;
          size = z.size;
          context = context-fits t q.context.0 (sym is_sound ∙ z.table) (λ e. z.registered (is_kind ∙ e));
          instruction = z.instruction;
          reference = z.reference;
        }

    pub sent : {area area' : List ℕ} {r : Sent} (p : Piece) → Ok p ≡ plan_of h q (length whole) → Emitted (octets_with found q p o d whole) p.count area r area'
        → OfSending t q o d whole area r area'
    sent {area} {area'} {r} p e m =
        is_cut_lem t q o d whole area p r area' (sym (passes ∙ asks-are)) (sym (e ∙ plan-is)) (rw is_kind at m)
