use native.Mathlib.Omega.{arith}
use Rattle.loop_laps.specs.Laps.{asked}
use Rattle.loop_laps.proofs.Laps.{laps-next, laps-end}
use Rattle.loop_laps.proofs.others.Goals as goal

pub loop-k-preserved : goal.loop-k-preserved
loop-k-preserved c =
    let a = c.args in
    record {
      so_far = laps-next (asked a.c.now.table a.c.now.request a.c.now.association a.c.now.origin.now a.c.now.destination.now a.c.now.whole.now) a.count c.loop-k.k _ _ _ c.loop-k.invariant.so_far (omega arith) c.one-l.ensures.lapped;
      number = c.one-l.ensures.number;
      area = omega arith;
      store = omega arith;
      report = omega arith;
    }

pub returns : goal.returns
returns c =
    let a = c.args in
    record {
      lapped = laps-end (asked a.c.now.table a.c.now.request a.c.now.association a.c.now.origin.now a.c.now.destination.now a.c.now.whole.now) a.count c.loop-k.k _ _ c.loop-k.invariant.so_far (omega arith);
      number = c.loop-k.invariant.number;
    }
