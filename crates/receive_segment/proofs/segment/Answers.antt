use Rattle.std.proofs.Common.{refl, ◌∙◌}
use Rattle.receive_segment.proofs.Weighing.{settled, settled-sums}
use Rattle.receive_segment.proofs.segment.Goals as goal

pub returns : goal.returns
returns c =
    let a = c.args in
    let verdict = rw (← c.at-at.ensures) at c.judge-v.ensures in
    let weighs = rw c.tail-octets.ensures at c.count-counted.ensures in
    let leads = settled a.t.now a.m.now a.store.now a.report.now a.association a.s.now a.is_summed c.requires.1 c.at-at.result c.seek-q.result.key c.judge-v.result verdict c.count-counted.result weighs _ refl c.settle-w.result c.settle-w.ensures in
    record {
      answered = c.received.ensures ∙ leads.answered;
      summed = settled-sums a.t.now a.m.now a.store.now a.report.now a.association a.s.now a.is_summed c.requires.1 c.at-at.result c.seek-q.result.key c.judge-v.result verdict c.count-counted.result weighs _ refl c.settle-w.result c.settle-w.ensures _ (rw c.tail-octets.ensures at c.tally.ensures.m_after) c.tally.ensures.m_unchanged;
      stored = rw c.tail-octets.ensures at c.perform.ensures.store_after ∙ leads.stored;
      reported = c.perform.ensures.report_after ∙ leads.reported;
    }
