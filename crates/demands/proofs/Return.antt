-- DEMAND 2 of the machine that the rules are: what was cut comes back.
use Rattle.std.specs.Prelude.{if◌then◌else◌, Option, Some, None}
use Prim.Native.Nat.{ℕ, zero, suc, ◌+◌, ◌-◌, ◌*◌, ◌≤◌, ◌<◌}
use mathlib.Core.Path.{◌≡◌, refl, sym, ap, ◌∙◌, subst}
use mathlib.Core.Bool.{Bool, true, false, not, ◌&&◌, ◌||◌}
use mathlib.Core.List.{List, [], ◌∷◌, ◌++◌}
use native.Mathlib.Omega.{arith}
use native.Mathlib.Numerals.{add-one}
use borrow.Author.Tests.{leb-false, eq-eqb, ne_eqb}
use lib.Dec.{eqb, leb}
use lib.ListN.{length, get_or, set, take, drop, length-append, length-take, length-drop}
use lib.Seq.{take_all, drop_at}
use Rattle.octets.specs.Splice.{splice}
use Rattle.octets.proofs.Splice.{splice-length}
use Rattle.rules.specs.Numbers.{place_start}
use Rattle.rules.specs.Registry.{kind_of}
use Rattle.rules.specs.Layout.{is_unsegmented, fields_of}
use Rattle.rules.specs.Records.{record_length, record_octets, records_octets, delivered}
use Rattle.rules.specs.Places.{no_place, free_place, holds, is_free, place_of, lowest_free, is_at, place_at}
use Rattle.rules.specs.Receiving.{line_of, is_start, effect_of, save_at, begun, longer, record_with, reception_of, Reception, Effect}
use Rattle.rules.specs.Refusals.{accepted}
use Rattle.rules.specs.Sweep.{Sweeping, sweep, is_due}
use Rattle.rules.specs.Summary.{Counted, counting, row_checks, total_checks, segment_sums, segment_with}
use Rattle.rules.specs.Arrival.{behind, both_checks, both_with}
use Rattle.rules.specs.Delivery.{delivery, part_of}
use Rattle.rules.specs.Sending.{first_carries, later_carries, piece_of, heading_for, carried, sending}
use Rattle.rules.specs.Calls.{State, state_of, Arrival, Call, Opens, Arrives, Ticks, Releases, Sends, Outcome, after_arrival, step, As}
use Rattle.rules.specs.declared.Entry.{Entry}
use Rattle.rules.specs.declared.Key.{Key}
use Rattle.rules.specs.declared.Place.{Place}
use Rattle.rules.specs.declared.Heading.{Heading}
use Rattle.rules.specs.declared.Fields.{Fields}
use Rattle.rules.specs.declared.Line.{Line}
use Rattle.rules.specs.declared.Line.TheVariants.{Unsegmented, Restart, Start, Final, Next}
use Rattle.rules.specs.declared.Part.TheVariants.{OfStore}
use Rattle.rules.specs.declared.Decision.TheVariants.{Delivered}
use Rattle.rules.proofs.Places.{IsFirst, place_is, free-is}
use Rattle.rules.proofs.Keys.{same_self}
use Rattle.octets.proofs.Number.{empty}
use Rattle.rules.proofs.Cutting.{cuttable, pieces, pieces_step, cut-joins, alone-is, within-room}
use Rattle.rules.proofs.ReadBack.{ReadsBack, read_back}
use Rattle.demands.specs.Machine.{ours, clock_of, clocked_by, InRange, is_opening}
use Rattle.demands.specs.Seen.{seen_by}
use Rattle.demands.specs.Demand2.{Shipment, numbered, header, count_in, segmented_in, segment_of, Sender, sending_of, Sendable, IsSent, key_in, record_in}
use Rattle.demands.specs.Demand2.{SparesTime, Spares, Slot, arrival_in, arrival_of, Comes, Meanwhile, stop, mine, other, is_saved, Saves, BeginsAs, Returns, Ready, place_after, CanTake, RoundTrip, Demand2}
use Rattle.demands.specs.Demanded.{so_far, place_in, Underway, CanBeSent, Carries}
use Rattle.rules.proofs.Sweeping.{clock-sound}
use Rattle.rules.proofs.Arrival.{losses-few, whole_parts, behind-long, clock-is, two-calls}
use Rattle.demands.proofs.Counted.{clocked-counted, summary-kept}
use Rattle.demands.proofs.Spared.{Kept, clash, first-at}
use Rattle.demands.proofs.Typed.{clocked-typed, typed-kept}
use Rattle.demands.proofs.Sound.{kept as sound-kept}
use Rattle.demands.proofs.Sparing.{clock-spared, spared, registry-kept, store_kept}
use Rattle.rules.proofs.Records.{filled_of}
use Rattle.demands.proofs.Arriving.{line-alone, line-new, line-later, arrives, joined_back, mine-kept, one-reported, place-delivers}

-- a part of a parameter that goes to its end
part-tail : (s : List ℕ) (start : ℕ) (i : List ℕ) → drop start s ≡ i → part_of s start (length i) ≡ i
part-tail s start i e = go (leb (start + length i) (length s)) refl
  where
    n : length i ≡ length s - start
    n = sym (ap length e) ∙ length-drop start s

    go : (c : Bool) → leb (start + length i) (length s) ≡ c → (if c then take (length i) (drop start s) else []) ≡ i
    go true h = rw e (take_all (length i) i (omega arith))
    go false h =
        let over = leb-false (start + length i) (length s) h in
        let m = n in
        sym (empty i (omega arith))

pub not-opening : (st : State) (k : Key) (c : Call) → Spares st k c → is_opening c ≡ false
not-opening st k (Opens x) spares = absurd spares
not-opening st k (Arrives x) spares = refl
not-opening st k (Ticks x) spares = refl
not-opening st k (Releases x) spares = refl
not-opening st k (Sends x) spares = refl

-- What one segment that can be sent says of all of them

abbrev first_in : Shipment → ℕ
first_in x = first_carries (header x) x.request

abbrev later_in : Shipment → ℕ
later_in x = later_carries (header x) x.request

abbrev heading_in : Shipment → ℕ → Heading
heading_in x k = heading_for x.kind (header x) (numbered x.request k) (length x.whole)

abbrev information_in : Shipment → ℕ → List ℕ
information_in x k = carried (header x) (numbered x.request k) x.whole

pub record Facts (x : Shipment) (k : ℕ) : Type 0 where
  size : length x.whole ≤ 2048
  origin : length x.origin ≤ 20
  destination : length x.destination ≤ 20
  ten : count_in x ≤ 10
  joins : segmented_in x ≡ true → pieces (first_in x) (later_in x) x.whole (count_in x) ≡ x.whole
  pub alone : is_unsegmented (heading_in x k).new (heading_in x k).remaining.0 ≡ not (segmented_in x)
  pub reads : (r : List Entry) → kind_of r x.request.context.0 ≡ x.kind
      → ReadsBack r (segment_of x k) (heading_in x k) x.origin x.destination (information_in x k)

module _ (x : Shipment) (a : Sender) (k : ℕ) (can : Sendable x a k) where
  -- the rules speak of the kind that the table gives the context, demand 2 of the sending's own
  abbrev by : ℕ → Shipment
  by kind =
      record { request = x.request; origin = x.origin; destination = x.destination; whole = x.whole; kind = kind; association = x.association }

  facts : Facts x k
  facts =
      let all = cuttable _ _ _ _ _ _ can.good in
      subst (λ (kind : ℕ). Facts (by kind) k) can.kind
      (record {
        size = all.size;
        origin = all.origin;
        destination = all.destination;
        ten = (within-room _ _ _ _ _ _ can.good).count;
        joins = cut-joins _ _ _ _ _ _ can.good;
        alone = alone-is _ _ _ _ _ _ can.good;
        reads = read_back _ _ _ _ _ _ can.good;
      })

  made-is : IsSent x a k (seen_by ours a.state (sending_of x a k))
  unfolding step sending delivery
  made-is =
      let ok = can.good in
      subst (λ (kind : ℕ). IsSent (by kind) a k (seen_by ours a.state (sending_of x a k))) can.kind
      (record { answer = rw ok; state = refl; handed = refl })

pub ready-kept : (x : Shipment) (st : State) (c : Call) → is_opening c ≡ false → InRange c → Ready x st → Ready x (step st c).state
ready-kept x st c o range r =
    record {
      sound = sound-kept st c o r.sound;
      typed = typed-kept st c r.typed range;
      kind = rw (registry-kept st c o) r.kind;
      store = rw (store_kept st c) r.store;
      summary = summary-kept st c o range r.summary;
      carrier = r.carrier;
    }

-- .. after an arrival's clock work, and after an own arrival
pub ready-clocked : (x : Shipment) (st : State) (y : Arrival) → Ready x st → Ready x (clocked_by st y)
unfolding sweep
ready-clocked x st y r =
    record {
      sound = clock-sound st.table y.report y.time r.sound;
      typed = clocked-typed st y r.typed;
      kind = r.kind;
      store = r.store;
      summary = clocked-counted st y r.summary;
      carrier = r.carrier;
    }

pub ready-came : (x : Shipment) (st : State) (k : ℕ) (at : Slot) → Comes x st k at → Ready x st → Ready x (step st (arrival_of x k at)).state
ready-came x st k at comes r = ready-kept x st (arrival_of x k at) refl (comes.range, r.carrier) r

module _ (x : Shipment) (ok : (k : ℕ) → k < count_in x → Facts x k) where
  some : 1 ≤ count_in x
  some = go (segmented_in x) refl
    where
      go : (c : Bool) → segmented_in x ≡ c → 1 ≤ count_in x
      go true e = simp e (omega arith)
      go false e = simp e (omega arith)

  abbrev up_to : ℕ → List ℕ
  up_to j = pieces (first_in x) (later_in x) x.whole j

  abbrev part : ℕ → List ℕ
  part k = piece_of (first_in x) (later_in x) x.whole k

  up_to-most : (j : ℕ) → length (up_to j) ≤ 2048
  up_to-most zero = omega arith
  up_to-most (suc j) =
      let most = (ok 0 some).size in
      let e : up_to (suc j) ≡ take (first_in x + j * later_in x) x.whole = rw add-one at (pieces_step (first_in x) (later_in x) x.whole j) in
      rw (e, length-take) (omega arith)

  -- after j segments: the key's place, what it says, and the octets saved there
  record Progress (j : ℕ) (st : State) : Type 0 where
    place : ℕ
    held : Place
    kept : Kept (key_in x) place held (up_to j) st.table.places st.store
    remaining : held.remaining.0 ≡ count_in x - j
    segments : held.segments ≡ j
    octets : held.octets ≡ length (up_to j)
    instruction : held.instruction ≡ x.request.instruction

  progress-kept : (j : ℕ) (st : State) (c : Call) → Ready x st → Spares st (key_in x) c → Progress j st → Progress j (step st c).state
  progress-kept j st c r spares p =
      record {
        place = p.place;
        held = p.held;
        kept = spared (key_in x) p.place p.held (up_to j) (up_to-most j) st c r.sound r.typed spares p.kept;
        remaining = p.remaining;
        segments = p.segments;
        octets = p.octets;
        instruction = p.instruction;
      }

  progress-clocked : (j : ℕ) (st : State) (y : Arrival) → SparesTime st (key_in x) y → Progress j st → Progress j (clocked_by st y)
  progress-clocked j st y spares p =
      record {
        place = p.place;
        held = p.held;
        kept = clock-spared (key_in x) p.place p.held (up_to j) st y spares p.kept;
        remaining = p.remaining;
        segments = p.segments;
        octets = p.octets;
        instruction = p.instruction;
      }

  -- segment k comes: the segment's rule meets what the clock's work leaves, and has the report behind its records
  module _ (old : State) (r₀ : Ready x old) (at : Slot) (k : ℕ) (l : k < count_in x) (comes : Comes x old k at) where
    abbrev y : Arrival
    y = arrival_in x k at

    abbrev w : Counted Sweeping
    w = clock_of old y

    abbrev st : State
    st = clocked_by old y

    abbrev report : List ℕ
    report = behind w

    r : Ready x st
    r = ready-clocked x old y r₀

    ample : record_length ≤ length report
    ample = behind-long old.table old.summary old.store at.report at.time x.association (segment_of x k) comes.timely r₀.typed.count

    abbrev ps : List Place
    ps = st.table.places

    abbrev sent : List ℕ
    sent = segment_of x k

    abbrev second : Counted Reception
    second = segment_with st.table st.summary st.store report x.association sent

    abbrev came : Reception
    came = second.call

    abbrev call : Call
    call = arrival_of x k at

    can : accepted (row_checks st.summary x.association ++ total_checks st.summary (segment_sums st.table st.summary st.store report x.association sent)) ≡ true
    unfolding both_checks
    can = comes.counts

    abbrev f : Fields
    f =
        record {
          heading = heading_in x k;
          origin = (fields_of st.table.registry sent).origin;
          destination = (fields_of st.table.registry sent).destination;
          information = (fields_of st.table.registry sent).information;
        }

    abbrev effect_by : Line → Option ℕ → Place → Option ℕ → List ℕ → Effect
    effect_by line place p free i = effect_of line st.table st.store (key_in x) f i place p free

    reads : ReadsBack st.table.registry sent (heading_in x k) x.origin x.destination (information_in x k)
    reads = (ok k l).reads st.table.registry r.kind

    came-is : (place free : Option ℕ) (p : Place) (i : List ℕ) → place_of (key_in x) ps ≡ place → lowest_free ps ≡ free → place_at ps place ≡ p → information_in x k ≡ i → (line : Line)
        → line_of (is_at place) p.remaining.0 p.octets (heading_in x k) (length i) ≡ line
        → (is_start line && not (is_at free)) ≡ false
        → came ≡ reception_of st.table report (effect_by line place p free i)
    came-is place free p i e1 e2 e3 e4 line e5 e6 =
        arrives st.table st.store report x.association sent (heading_in x k) x.origin x.destination (information_in x k) reads r.sound r.store ample
        st.summary r.summary.sound can place free e1 e2 line (rw (e3, e4) e5) e6
        ∙ (λ n. reception_of st.table report (effect_by line place (e3 n) free (e4 n)))

    -- what is not refused is both
    both_is : (o : Reception) → came ≡ o → o.answer.refusal ≡ 0 → step old call ≡ after_arrival (both_with w (counting second.summary o))
    unfolding step
    both_is o e none =
        let refusal : came.answer.refusal ≡ 0 = ap (λ (o : Reception). o.answer.refusal) e ∙ none in
        let is = two-calls old.table old.summary old.store at.report at.time x.association sent comes.timely r₀.typed.count (λ z. omega arith) in
        let clock = clock-is old.table old.summary old.store at.report at.time x.association sent comes.timely in
        ap after_arrival is ∙ (λ n. after_arrival (both_with (clock n) (counting second.summary (e n))))

    state-is : (o : Reception) → came ≡ o → o.answer.refusal ≡ 0 → (step old call).state ≡ state_of o.answer.table second.summary o.store
    state-is o e none = ap (λ (u : Outcome). u.state) (both_is o e none)

    keeps-by : (o : Reception) → came ≡ o → o.answer.refusal ≡ 0 → is_saved (As o.answer.decision) ≡ true → o.answer.records ≡ 0
        → Saves (step old call).answer
    keeps-by o e e1 e2 e3 = rw (both_is o e e1) (record { accepted = e1; saved = e2; records = omega arith })

    -- its record stands behind the clock's
    behind-clocks : (o : Reception) → drop (w.call.answer.records * record_length) (take (w.call.answer.records * record_length) w.call.report ++ o.report) ≡ o.report
    unfolding sweep
    behind-clocks o =
        let few = losses-few (is_due at.time old.table.timer) 6 old.table.places in
        let count = r₀.typed.count in
        let long = (whole_parts old.table old.summary old.store at.report at.time x.association sent comes.timely).reports in
        let n : ℕ = w.call.answer.records * record_length in
        drop_at (take n w.call.report) o.report n (rw (length-take n w.call.report, splice-length) (omega arith))

    returns-by : (o : Reception) → came ≡ o → o.answer.refusal ≡ 0 → o.answer.records ≡ 1 → take record_length o.report ≡ record_octets (record_in x)
        → delivery o.answer.decision sent o.store ≡ x.whole → Returns x (seen_by ours old call)
    returns-by o e e1 e2 e3 e4 =
        let is = both_is o e e1 in
        record {
          accepted = ap (λ (u : Outcome). u.answer.refusal) is ∙ e1;
          records = rw is (ap (λ (n : ℕ). w.call.answer.records + n) e2);
          reported = rw (is, behind-clocks o) e3;
          handed = rw is e4;
        }

    ended_by_lem : (instruction segments n : ℕ) → instruction ≡ x.request.instruction → segments ≡ count_in x → n ≡ length x.whole
        → take record_length (splice report 0 (records_octets (record_with delivered 0 (key_in x) instruction segments n ∷ []))) ≡ record_octets (record_in x)
    ended_by_lem instruction segments n e1 e2 e3 = rw (e1, e2, e3) (one-reported (record_in x) report (record { origin = filled_of x.origin (ok k l).origin; destination = filled_of x.destination (ok k l).destination }) ample)

    -- the only one
    module _ (whole-one : segmented_in x ≡ false) where
      returns-alone : Returns x (seen_by ours old call)
      unfolding effect_of delivery
      returns-alone =
          returns-by _
          (came-is (place_of (key_in x) ps) (lowest_free ps) (place_at ps (place_of (key_in x) ps)) x.whole refl refl refl carries Unsegmented
          (line-alone _ _ _ (heading_in x k) _ lone) refl)
          refl refl (ended_by_lem _ 1 _ refl count refl) delivers
        where
          count : 1 ≡ count_in x
          count = rw whole-one

          carries : information_in x k ≡ x.whole
          carries = rw whole-one

          lone : is_unsegmented (heading_in x k).new (heading_in x k).remaining.0 ≡ true
          lone = (ok k l).alone ∙ rw whole-one

          delivers : part_of sent f.information (length x.whole) ≡ x.whole
          delivers = part-tail sent f.information x.whole (reads.information ∙ carries)

    module _ (several : segmented_in x ≡ true) where
      carries : information_in x k ≡ part k
      carries = rw several

      grows : length (up_to (suc k)) ≡ length (up_to k) + length (part k)
      grows = length-append (up_to k) (part k)

      -- a later one
      module _ (p : Progress k st) (one : 1 ≤ k) where
        there : place_of (key_in x) ps ≡ Some p.place
        there = first-at (holds (key_in x)) ps p.place p.kept.first

        inside : p.place < 16
        inside =
            let h = p.kept.first.0 in
            let n = r.typed.count in
            omega arith

        fits : p.held.octets + length (part k) ≤ 2048
        fits =
            let most = up_to-most (suc k) in
            let g = grows in
            let n = p.octets in
            omega arith

        line : line_of true p.held.remaining.0 p.held.octets (heading_in x k) (length (part k)) ≡ (if eqb (count_in x - 1 - k) 0 then Final else Next)
        line =
            let most = (ok k l).ten in
            let before = p.remaining in
            line-later p.held.remaining.0 p.held.octets (heading_in x k) _ (omega arith) (ne_eqb k 0 (omega arith)) (omega arith) fits

        stores : place_start p.place + length (up_to k) + length (part k) ≤ length st.store
        stores =
            let n = p.octets in
            let i = inside in
            let m = fits in
            let w = r.store in
            omega arith

        module _ (more : suc k < count_in x) where
          new : Place
          new = longer p.held (key_in x) (heading_in x k) (length (part k))

          went : came ≡ reception_of st.table report (effect_by Next (Some p.place) p.held (lowest_free ps) (part k))
          went =
              came-is (Some p.place) (lowest_free ps) p.held (part k) there refl p.kept.there carries Next
              (line ∙ rw (ne_eqb (count_in x - 1 - k) 0 (omega arith))) refl

          keeps : Saves (step old call).answer
          unfolding effect_of
          keeps = keeps-by _ went refl refl refl

          goes_on : Progress (suc k) (step old call).state
          unfolding effect_of new
          goes_on =
              subst (λ (u : State). Progress (suc k) u) (sym (state-is _ went refl))
              (record {
                place = p.place;
                held = new;
                kept = mine-kept (key_in x) ps p.place new st.store p.held.octets (up_to k) (part k) p.kept.first.0 p.kept.first.2
                    (same_self (key_in x)) p.octets p.kept.stretch stores;
                remaining = omega arith;
                segments = omega (arith, p.segments);
                octets = omega (arith, grows, p.octets);
                instruction = p.instruction;
              })

        module _ (last : suc k ≡ count_in x) where
          ended : came ≡ reception_of st.table report (effect_by Final (Some p.place) p.held (lowest_free ps) (part k))
          ended =
              came-is (Some p.place) (lowest_free ps) p.held (part k) there refl p.kept.there carries Final
              (line ∙ rw (eq-eqb (count_in x - 1 - k) 0 (omega arith))) refl

          whole_is : up_to (suc k) ≡ x.whole
          whole_is = ap up_to last ∙ (ok k l).joins several

          octets-is : p.held.octets + length (part k) ≡ length x.whole
          octets-is = omega (arith, grows, p.octets, ap length whole_is)

          delivers : delivery (Delivered (OfStore p.place (p.held.octets + length (part k)))) sent
              (save_at st.store p.place p.held.octets (part k)) ≡ x.whole
          unfolding delivery
          delivers =
              let n : p.held.octets + length (part k) ≡ length (up_to (suc k)) = omega (arith, grows, p.octets) in
              place-delivers (save_at st.store p.place p.held.octets (part k)) p.place _ inside fits
              (rw splice-length r.store)
              ∙ rw n (joined_back st.store p.place p.held.octets (up_to k) (part k) p.octets p.kept.stretch stores)
              ∙ whole_is

          returns : Returns x (seen_by ours old call)
          unfolding effect_of
          returns = returns-by _ ended refl refl (ended_by_lem _ _ _ p.instruction (omega (arith, p.segments)) octets-is) delivers

  -- the first of several
  module _ (old : State) (r₀ : Ready x old) (at : Slot) (several : segmented_in x ≡ true) (comes : Comes x old 0 at) where
    abbrev now : State
    now = clocked_by old (arrival_in x 0 at)

    abbrev places : List Place
    places = now.table.places

    abbrev begins : Call
    begins = arrival_of x 0 at

    begun-line : (c : Bool) (before saved : ℕ) → line_of c before saved (heading_in x 0) (length (part 0)) ≡ (if c then Restart else Start)
    begun-line c before saved =
        line-new c before saved (heading_in x 0) _
        ((ok 0 some).alone ∙ rw several) (omega (arith, (ok 0 some).ten)) refl

    start : Place
    start = begun now.table.clock (key_in x) (heading_in x 0) (length (part 0))

    -- its place, wherever it is
    placed : (m : ℕ) → m < length places → ((j : ℕ) → j < m → holds (key_in x) (get_or places j no_place) ≡ false)
        → Kept (key_in x) m start (up_to 1) (set places m start) (save_at now.store m 0 (part 0))
    unfolding start
    placed m inside before =
        let n = (ready-clocked x old (arrival_in x 0 at) r₀).typed.count in
        let long = r₀.store in
        let most = up_to-most 1 in
        mine-kept (key_in x) places m start now.store 0 [] (part 0) inside before (same_self (key_in x)) refl refl (omega arith)

    begun-progress : (m : ℕ) (u : State) → Kept (key_in x) m start (up_to 1) u.table.places u.store → Progress 1 u
    unfolding start
    begun-progress m u kept =
        record { place = m; held = start; kept = kept; remaining = omega arith; segments = refl; octets = refl; instruction = refl }

    record Begun (place : Option ℕ) : Type 0 where
      answer : BeginsAs (step old begins).answer place (is_at place)
      progress : Progress 1 (step old begins).state

    restarted : (m : ℕ) → place_of (key_in x) places ≡ Some m → IsFirst (holds (key_in x)) places (Some m) → Begun (Some m)
    unfolding effect_of start
    restarted m e h =
        let went = came-is old r₀ at 0 some comes (Some m) (lowest_free places) (get_or places m no_place) (part 0) e refl refl (carries old r₀ at 0 some comes several) Restart
        (begun-line true _ _) refl in
        record {
          answer = rw (both_is old r₀ at 0 some comes _ went refl) (record { accepted = refl; lost = refl; records = refl });
          progress = subst (λ (u : State). Progress 1 u) (sym (state-is old r₀ at 0 some comes _ went refl)) (begun-progress m _ (placed m h.0 h.2));
        }

    started : (m : ℕ) → place_of (key_in x) places ≡ None → lowest_free places ≡ Some m → IsFirst (holds (key_in x)) places None → IsFirst is_free places (Some m)
        → Begun None
    unfolding effect_of start
    started m e e' h g =
        let went = came-is old r₀ at 0 some comes None (Some m) free_place (part 0) e e' refl (carries old r₀ at 0 some comes several) Start (begun-line false _ _) refl in
        record {
          answer = keeps-by old r₀ at 0 some comes _ went refl refl refl;
          progress = subst (λ (u : State). Progress 1 u) (sym (state-is old r₀ at 0 some comes _ went refl))
              (begun-progress m _ (placed m g.0 (λ j l. h j (omega (arith, g.0)))));
        }

    begun_first : CanTake x old at → Begun (place_of (key_in x) places)
    begun_first = go (place_of (key_in x) places) refl (place_is (key_in x) places) (lowest_free places) refl (free-is places)
      where
        go : (place : Option ℕ) → place_of (key_in x) places ≡ place → IsFirst (holds (key_in x)) places place → (free : Option ℕ) → lowest_free places ≡ free
            → IsFirst is_free places free → (is_at place || is_at free) ≡ true → Begun place
        go (Some m) e h free e' g some = restarted m e h
        go None e h (Some m) e' g some = started m e e' h g
        go None e h None e' g some = absurd (clash some refl)

  -- between the segments
  ahead : {st st' : State} {i j : ℕ} → Meanwhile ours x st i st' j → i ≤ j
  ahead stop = omega arith
  ahead (mine at comes rest) = let l = ahead rest in omega arith
  ahead (other c range spares rest) = ahead rest

  along : {st st' : State} {i j : ℕ} → segmented_in x ≡ true → Meanwhile ours x st i st' j → 1 ≤ i → j < count_in x → Ready x st → Progress i st
      → Ready x st' × Progress j st'
  along several stop one under r p = (r, p)
  along several (mine {st} {st'} {i} {j} at comes rest) one under r p =
      let l = ahead rest in
      along several rest (omega arith) under (ready-came x st i at comes r)
      (goes_on st r at i (omega arith) comes several (progress-clocked i st (arrival_in x i at) comes.spares p) one (omega arith))
  along several (other {st} {st'} {i} {j} c range spares rest) one under r p =
      along several rest one under (ready-kept x st c (not-opening st (key_in x) c spares) range r) (progress-kept i st c r spares p)

  round_trip : (st : State) → Ready x st → (at : Slot) → Comes x st 0 at → RoundTrip ours x st at
  round_trip st r at comes =
      record {
        alone = λ whole-one. returns-alone st r at 0 some comes whole-one;
        first = λ several can. (begun_first st r at several comes can).answer;
        later = λ several can j under st' rest again comes'.
            let l = ahead rest in
            let there = along several rest (omega arith) under (ready-came x st 0 at comes r) (begun_first st r at several comes can).progress in
            let p = progress-clocked j st' (arrival_in x j again) comes'.spares there.1 in (
              λ more. keeps st' there.0 again j under comes' several p (omega arith) more,
              λ last. returns st' there.0 again j under comes' several p (omega arith) last,
            );
      }

  -- the same of one call, by what its state holds
  so-far : (j : ℕ) → up_to j ≡ so_far x j
  so-far zero = refl
  so-far (suc j) = rw add-one at (pieces_step (first_in x) (later_in x) x.whole j)

  underway : (j : ℕ) (st : State) → Ready x st → Progress j st → Underway x j st
  underway j st r p =
      let k = p.kept in
      record {
        ready = r;
        place = p.place;
        there = first-at (holds (key_in x)) st.table.places p.place k.first;
        remaining = ap (λ (q : Place). q.remaining.0) k.there ∙ p.remaining;
        segments = ap (λ (q : Place). q.segments) k.there ∙ p.segments;
        octets = ap (λ (q : Place). q.octets) k.there ∙ p.octets ∙ ap length (so-far j);
        instruction = ap (λ (q : Place). q.instruction) k.there ∙ p.instruction;
        saved = rw (so-far j) at k.stretch;
      }

  progress : (j : ℕ) (st : State) → Underway x j st → Progress j st
  progress j st u =
      record {
        place = u.place;
        held = place_in x st u.place;
        kept = record {
          first = subst (IsFirst (holds (key_in x)) st.table.places) u.there (place_is (key_in x) st.table.places);
          there = refl;
          stretch = rw (so-far j) u.saved;
        };
        remaining = u.remaining;
        segments = u.segments;
        octets = u.octets ∙ ap length (sym (so-far j));
        instruction = u.instruction;
      }

  spared-underway : (st : State) (c : Call) → InRange c → (j : ℕ) → Underway x j st → Spares st (key_in x) c → Underway x j (step st c).state
  spared-underway st c range j u spares =
      underway j (step st c).state (ready-kept x st c (not-opening st (key_in x) c spares) range u.ready) (progress-kept j st c u.ready spares (progress j st u))

  pub underway-clocked : (st : State) (y : Arrival) (j : ℕ) → Underway x j st → SparesTime st (key_in x) y → Underway x j (clocked_by st y)
  underway-clocked st y j u spares = underway j (clocked_by st y) (ready-clocked x st y u.ready) (progress-clocked j st y spares (progress j st u))

  module _ (st : State) (at : Slot) where
    first-underway : segmented_in x ≡ true → Ready x st → Comes x st 0 at → CanTake x st at
        → BeginsAs (step st (arrival_of x 0 at)).answer (place_after x st at) (is_at (place_after x st at)) × Underway x 1 (step st (arrival_of x 0 at)).state
    first-underway several r comes vacant =
        let b = begun_first st r at several comes vacant in
        (b.answer, underway 1 _ (ready-came x st 0 at comes r) b.progress)

    later-underway : segmented_in x ≡ true → (j : ℕ) → 1 ≤ j → j < count_in x → Underway x j st → Comes x st j at
        → (suc j < count_in x → Saves (step st (arrival_of x j at)).answer × Underway x (suc j) (step st (arrival_of x j at)).state)
        × (suc j ≡ count_in x → Returns x (seen_by ours st (arrival_of x j at)))
    later-underway several j one under u comes =
        let r = u.ready in
        let p = progress-clocked j st (arrival_in x j at) comes.spares (progress j st u) in (
          λ more. (keeps st r at j under comes several p one more, underway (suc j) _ (ready-came x st j at comes r) (goes_on st r at j under comes several p one more)),
          λ last. returns st r at j under comes several p one last,
        )

pub all-facts : (x : Shipment) → CanBeSent x → (k : ℕ) → k < count_in x → Facts x k
all-facts x can k l = facts x (can k l).0 k (can k l).1

-- demand 2 of one call
pub carries-all : (st : State) (c : Call) → InRange c → Carries (seen_by ours st c)
carries-all st c range =
    record {
      sends = λ x a k e f can.
          subst (λ (c : Call). IsSent x a k (seen_by ours st c)) (sym f) (subst (λ (st : State). IsSent x a k (seen_by ours st (sending_of x a k))) (sym e) (made-is x a k can));
      arrives = λ x can.
          (let ok = all-facts x can in
          record {
            alone = λ one r at comes e. subst (λ (c : Call). Returns x (seen_by ours st c)) (sym e) (returns-alone x ok st r at 0 (some x ok) comes one);
            first = λ several r at comes vacant e.
                subst (λ (c : Call). BeginsAs (step st c).answer (place_after x st at) (is_at (place_after x st at)) × Underway x 1 (step st c).state) (sym e)
                (first-underway x ok st at several r comes vacant);
            later = λ several j one under u at comes e.
                subst
                (λ (c : Call).
                (suc j < count_in x → Saves (step st c).answer × Underway x (suc j) (step st c).state) × (suc j ≡ count_in x → Returns x (seen_by ours st c)))
                (sym e) (later-underway x ok st at several j one under u comes);
          });
      spares = λ x can j u spares. spared-underway x (all-facts x can) st c range j u spares;
    }

pub demand-2 : Demand2 ours
demand-2 =
    record {
      made = made-is;
      back = λ x from can st r at comes. round_trip x (λ k l. facts x (from k) k (can k l)) st r at comes;
      delivers = λ d s store. refl;
    }
