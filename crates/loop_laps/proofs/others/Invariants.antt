use Prim.Native.Nat.{◌-◌}
use mathlib.Core.Path.{◌≡◌}
use lib.ListN.{length}
use Rattle.rules.specs.Calls.{lending}
use Rattle.loop_laps.specs.Laps.{asked, laps, lap_of}
use Rattle.loop_laps.proofs.others.Given as goal

abbrev pub invariant-loop-k : goal.invariant-loop-k
invariant-loop-k l = record {
  so_far : laps (l.count - 1) 1 (asked l.c.table l.c.request l.c.association l.c.origin.now l.c.destination.now l.c.whole.now) (lap_of l.initial.l l.initial.m l.initial.store (lending l.initial.report l.initial.area)) ≡ laps (l.count - l.k) l.k (asked l.c.table l.c.request l.c.association l.c.origin.now l.c.destination.now l.c.whole.now) (lap_of l.l l.m l.store (lending l.report l.area));
  number : l.l.number ≡ 0;
  area : length l.area ≡ length l.initial.area;
  store : length l.store ≡ length l.initial.store;
  report : length l.report ≡ length l.initial.report;
}
