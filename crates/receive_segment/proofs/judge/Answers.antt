use Rattle.std.proofs.Common.{◌≡◌, ℕ, refl, sym, ap, ◌∙◌, drop, Ok, Err}
use Rattle.rules.specs.Refusals.{judged_at}
use Rattle.rules.specs.Records.{record_length}
use Rattle.rules.specs.Soundness.{sound}
use Rattle.rules.specs.Receiving.{information_of, lent_checks}
use Rattle.rules.specs.declared.Key.{Key}
use Rattle.param_read.specs.Reading.{reading}
use Rattle.table.specs.Seeking.{place_in}
use Rattle.receive_segment.specs.Arrival.{arrival}
use Rattle.receive_seek.proofs.Reading.{read-fields, read_number}
use Rattle.receive_segment.proofs.Arriving.{leads-as, refused-verdict, segment-read, after_reading}
use Rattle.receive_segment.proofs.judge.Goals as goal

pub arrive-requires-clause-t_value : goal.arrive-requires-clause-t_value
arrive-requires-clause-t_value c =
    let r = c.in-Ok.ensures.read _ refl in
    let q = c.requires.reading_value.1 _ r.1.1 in
    (sym c.requires.is_sound_value ∙ r.0, (sym c.requires.reading_value.0 ∙ r.1.1, record { key-is = refl; points = rw (← q.key-is) at q.points }))

pub returns-in-Ok : goal.returns-in-Ok
returns-in-Ok c =
    let a = c.args in
    let t = a.t.now in
    let s = a.s.now in
    let f = c.in-Ok.f in
    let r = c.in-Ok.ensures.read _ refl in
    let q = c.requires.reading_value.1 f r.1.1 in
    let read : judged_at (lent_checks record_length (sound t) a.store a.report) Err (reading t.registry s) ≡ Ok f =
    rw (← c.requires.is_sound_value, ← c.requires.reading_value.0) (sym c.in-Ok.ensures.value) in
    record {
      leads = λ st rp g h.
          leads-as
          (ap (λ (k : Key). arrival t st rp k f (information_of s f)) q.key-is
          ∙ sym (segment-read t st rp a.association s _ _ g h ∙ ap (after_reading t st rp a.association s) read))
          (c.arrive.ensures.by_index st rp);
      fits = c.arrive.ensures.by_index_2 _ r.1.0;
      taken = λ z.
          ap (λ (k : ℕ). drop k s) (c.arrive.ensures.information_value z)
          ∙ ap (information_of s) (sym (read-fields t.registry s f (sym c.requires.reading_value.0 ∙ r.1.1)));
      own = λ z. ap (λ (k : Key). k.association) q.key-is;
      some = c.arrive.ensures.some;
    }

pub returns-in-Err : goal.returns-in-Err
returns-in-Err c =
    let a = c.args in
    let t = a.t.now in
    let s = a.s.now in
    let x = c.in-Err.fault in
    let read : judged_at (lent_checks record_length (sound t) a.store a.report) Err (reading t.registry s) ≡ Err x =
    rw (← c.requires.is_sound_value, ← c.requires.reading_value.0) (sym c.in-Err.ensures.value) in
    refused-verdict t (place_in a.q.search) x a.q.key a.held _ c.requires.at_lt_place_count.1 c.refused.ensures a.store a.report a.association s
    (c.in-Err.ensures.some (λ y e. read_number t.registry s y (sym c.requires.reading_value.0 ∙ e)) x refl)
    (λ st rp g h. segment-read t st rp a.association s _ _ g h ∙ ap (after_reading t st rp a.association s) read)
