-- Every call hands a sound summary back sound.
use Rattle.std.specs.Prelude.{Option, Some, None}
use Prim.Native.Nat.{ℕ, ◌<◌, ◌^◌}
use mathlib.Core.Path.{◌≡◌, refl, ◌∙◌}
use mathlib.Core.Bool.{Bool, true, false, not, ◌||◌, true≢false}
use mathlib.Core.List.{List}
use lib.ListN.{length, replicate}
use Rattle.rules.specs.General.{every}
use Rattle.rules.specs.Numbers.{place_count}
use Rattle.rules.specs.Layout.{fields_of}
use Rattle.rules.specs.Places.{free_place, is_open, is_at, put_place}
use Rattle.rules.specs.Receiving.{information_of, begun, longer, effect_of, received_at, Reception}
use Rattle.rules.specs.Sweep.{Sweeping, sweep, losses_by, is_due}
use Rattle.rules.specs.Summary.{Counted, row_of, row_for, is_seated, summary_sound, took, billed, segment_sums, sweep_sums, row_count, empty_summary}
use Rattle.rules.specs.Calls.{State, Arrival, Call, Opens, Arrives, Ticks, Releases, Sends, Opening, step}
use Rattle.rules.specs.declared.Key.{Key}
use Rattle.rules.specs.declared.Place.{Place}
use Rattle.rules.specs.declared.Table.{Table}
use Rattle.rules.specs.declared.Fields.{Fields}
use Rattle.rules.specs.declared.Line.{Line}
use Rattle.rules.specs.declared.Line.TheVariants.{Unsegmented, Broken, Restart, Start, Final, Next}
use Rattle.rules.specs.declared.Record.{Record}
use Rattle.rules.specs.declared.Opened.{Opened}
use Rattle.rules.proofs.Apart.{every_set}
use Rattle.rules.proofs.Answers.{opened-by, segment-with, segment-accepted, clock-with, release-with}
use Rattle.rules.proofs.Fitting.{length-took, length-billed}
use Rattle.rules.proofs.Seats.{took-sound, billed-sound, billed-keeps, sound-beside, seats-of, swept-seats}
use Rattle.demands.specs.Machine.{clocked_by, is_opening, InRange, SoundSummary}
use Rattle.demands.proofs.Parts.{segmented, arrival-state}

-- a place that is put has its row, or is free
module _ (m : List ℕ) where
  put-seats : (ps : List Place) (f : Option ℕ) (p : Place) → is_seated m p ≡ true → every (is_seated m) ps ≡ true → every (is_seated m) (put_place ps f p) ≡ true
  put-seats ps (Some i) p e h = every_set (is_seated m) ps i p e h
  put-seats ps None p e h = h

  free-seated : is_seated m free_place ≡ true
  free-seated = refl

  own-seated : (p : Place) → is_at (row_of m p.key.association) ≡ true → is_seated m p ≡ true
  own-seated p e = go (is_open p)
    where
      go : (b : Bool) → (not b || is_at (row_of m p.key.association)) ≡ true
      go true = e
      go false = refl

  -- what a line puts is of its own association
  effect-seats : (line : Line) (t : Table) (store : List ℕ) (key : Key) (f : Fields) (octets : List ℕ) (place : Option ℕ) (p : Place) (vacant : Option ℕ)
      → is_at (row_of m key.association) ≡ true → every (is_seated m) t.places ≡ true → every (is_seated m) (effect_of line t store key f octets place p vacant).places ≡ true
  unfolding effect_of
  effect-seats Unsegmented t store key f octets place p vacant row h = h
  effect-seats (Broken cause) t store key f octets place p vacant row h = put-seats t.places place free_place free-seated h
  effect-seats Restart t store key f octets place p vacant row h =
      put-seats t.places place _ (own-seated (begun t.clock key f.heading (length octets)) row) h
  effect-seats Start t store key f octets place p vacant row h =
      put-seats t.places vacant _ (own-seated (begun t.clock key f.heading (length octets)) row) h
  effect-seats Final t store key f octets place p vacant row h = put-seats t.places place free_place free-seated h
  effect-seats Next t store key f octets place p vacant row h = put-seats t.places place _ (own-seated (longer p key f.heading (length octets)) row) h

-- an empty one beside a table with nothing open
empty-sound : (ps : List Place) → every (is_seated empty_summary) ps ≡ true → summary_sound empty_summary ps ≡ true
unfolding summary_sound row_count empty_summary
empty-sound ps h = h

pub none_open : summary_sound empty_summary (replicate place_count free_place) ≡ true
none_open = empty-sound (replicate place_count free_place) refl

pub summary-emptied : (st : State) (x : Opening) → SoundSummary (step st (Opens x)).state
unfolding step empty_summary
summary-emptied st x =
    record {
      size = refl;
      sound = opened-by (λ (o : Opened). summary_sound empty_summary o.table.places ≡ true) x.registry x.timer x.time
          (λ e. none_open) (λ e. none_open);
    }

-- a segment
segment-counted : (st : State) (report : List ℕ) (association : ℕ) (s : List ℕ) → association < 2 ^ 16 → is_at (row_for st.summary association) ≡ true → SoundSummary st
    → SoundSummary (record {
      table = (received_at st.table st.store report association s).answer.table;
      summary = segment_sums st.table st.summary st.store report association s;
      store = (received_at st.table st.store report association s).store;
    })
unfolding segment_sums
segment-counted st report association s small row h =
    let t : Table = st.table in
    let f : Fields = fields_of t.registry s in
    let n : ℕ = length (information_of s f) in
    let made : List Record = (received_at t st.store report association s).made in
    let one = took-sound st.summary t.places association n h.size small row h.sound in
    let m' : List ℕ = billed (took st.summary association n) made in
    let sums = billed-sound (took st.summary association n) made t.places one.0 in
    record {
      size = length-billed _ made ∙ length-took st.summary association n ∙ h.size;
      sound = sound-beside m' t.places _ sums
          (effect-seats m' _ t st.store _ f (information_of s f) _ _ _ (billed-keeps (took st.summary association n) made t.places one.0 association one.1) (seats-of m' t.places sums));
    }

-- a sweep
swept-counted : (st : State) (test : Place → Bool) (cause time : ℕ) (report : List ℕ) → SoundSummary st
    → let o : Sweeping = sweep test cause time st.table report in
    (length (sweep_sums st.summary o) ≡ 512) × (summary_sound (sweep_sums st.summary o) o.answer.table.places ≡ true)
unfolding sweep
swept-counted st test cause time report s =
    let made : List Record = losses_by test cause st.table.places in
    (length-billed st.summary made ∙ s.size, swept-seats st.summary made test st.table.places s.sound)

pub clocked-counted : (st : State) (x : Arrival) → SoundSummary st → SoundSummary (clocked_by st x)
clocked-counted st x s = let k = swept-counted st (is_due x.time st.table.timer) 6 x.time x.report s in record { size = k.0; sound = k.1 }

segmented-counted : (st : State) (x : Arrival) → x.association < 2 ^ 16 → SoundSummary st → SoundSummary (segmented st x).state
segmented-counted st x r s =
    segment-with st.table st.summary st.store x.report x.association x.parameter
    (λ (o : Counted Reception). SoundSummary (record { table = o.call.answer.table; summary = o.summary; store = o.call.store }))
    (λ e. segment-counted st x.report x.association x.parameter r (segment-accepted st.table st.summary st.store x.report x.association x.parameter e).1.row s)
    (λ e. record { size = s.size; sound = s.sound })

pub summary-kept : (st : State) (c : Call) → is_opening c ≡ false → InRange c → SoundSummary st → SoundSummary (step st c).state
unfolding step
summary-kept st (Opens x) o r s = absurd (true≢false o)
summary-kept st (Arrives x) o r s = arrival-state st x SoundSummary s (λ e. clocked-counted st x s) (λ e f. segmented-counted (clocked_by st x) x r.1 (clocked-counted st x s))
summary-kept st (Ticks x) o r s =
    clock-with st.table st.summary x.report x.time
    (λ (o : Counted Sweeping). SoundSummary (record { table = o.call.answer.table; summary = o.summary; store = st.store }))
    (λ e. let k = swept-counted st _ 6 x.time x.report s in record { size = k.0; sound = k.1 })
    (λ e. record { size = s.size; sound = s.sound })
summary-kept st (Releases x) o r s =
    release-with st.table st.summary x.report x.association
    (λ (o : Counted Sweeping). SoundSummary (record { table = o.call.answer.table; summary = o.summary; store = st.store }))
    (λ e. let k = swept-counted st _ 7 st.table.clock x.report s in record { size = k.0; sound = k.1 })
    (λ e. record { size = s.size; sound = s.sound })
summary-kept st (Sends x) o r s = record { size = s.size; sound = s.sound }
