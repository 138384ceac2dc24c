-- Every theorem of the demands, by name, of the machine of the rules. The wrong machines are refuted in Rejected.antt, and the crate demanded has them of the code.
use Prim.Native.Nat.{ℕ}
use mathlib.Core.Path.{◌≡◌, refl}
use mathlib.Core.Bool.{false}
use mathlib.Core.List.{List}
use Rattle.rules.specs.Calls.{State, Call, Opens, Opening}
use Rattle.rules.specs.Trace.{Observer}
use Rattle.demands.specs.Machine.{Machine, ours, is_opening, InRange}
use Rattle.demands.specs.Seen.{seen_by}
use Rattle.demands.specs.Demand1.{Demand1}
use Rattle.demands.specs.Demand2.{Demand2}
use Rattle.demands.specs.Demand3.{Demand3}
use Rattle.demands.specs.Timer.{Timer}
use Rattle.demands.specs.Release.{Release}
use Rattle.demands.specs.Soundness.{Sound}
use Rattle.demands.specs.Exactly.{Octets, Exactly}
use Rattle.demands.specs.Follows.{Orderly, Billed, Unforgetting, OneForm, Pointing}
use Rattle.demands.specs.Demanded.{Demanded, Begun}
use Rattle.demands.specs.Totals.{Totals, Balance}
use Rattle.demands.specs.Replayed.{Replayed}
use Rattle.demands.specs.Exchanges.{Exchanges}
use Rattle.demands.proofs.Refused as Refused
use Rattle.demands.proofs.Sound as Sound
use Rattle.demands.proofs.Return as Return
use Rattle.demands.proofs.Exchanges as Exchanges
use Rattle.demands.proofs.Kept as Kept
use Rattle.demands.proofs.Timing as Timing
use Rattle.demands.proofs.Releasing as Releasing
use Rattle.demands.proofs.Follows as Follows
use Rattle.demands.proofs.OneForm as Form
use Rattle.demands.proofs.Pointing as Pointing
use Rattle.demands.proofs.Totalling as Totalling
use Rattle.demands.proofs.Balancing as Balancing
use Rattle.demands.proofs.Demanded as One
use Rattle.demands.proofs.Replayed as Replay

-- demand 1: every call is answered, refusals by number and in order, and a refused call changes nothing
pub demand-1 : Demand1 ours
demand-1 = Refused.demand-1

-- a good opening gives a sound table, and every call keeps it sound; so none is refused by 1
pub soundness : Sound ours
soundness = Sound.soundness

-- demand 2: data that is cut comes back unchanged
pub demand-2 : Demand2 ours
demand-2 = Return.demand-2

-- two exchanges behind one gateway: data that is cut for two destinations comes back, however the segments are interleaved
pub exchanges : Exchanges ours
exchanges = Exchanges.exchanges

-- demand 3: every record is the rules' and covers what it says, every delivery is what its record covers, and table and store are what the history tells
pub demand-3 : Demand3 ours
demand-3 = Kept.demand-3

-- the timer: a sequence is lost with cause 6 exactly when its true age reaches T at a clock call or in an arrival
pub timer : Timer ours
timer = Timing.timer

-- release: what is uncovered of an association is lost with cause 7 exactly at its release
pub releasing : Release ours
releasing = Releasing.releasing

-- totals: the summary's 512 numbers are what the history gives; balance: taken is delivered, lost and held
pub totals : Totals ours
totals = Totalling.totals

pub balance : Balance ours
balance = Balancing.balance

-- exactly: whatever else there is to see is the rules'
pub exactly : Exactly ours
exactly = record { every = λ st c s q. record { answer = refl; state = refl; handed = refl } }

-- what follows, of any machine
pub orderly : (m : Machine) → Demand3 m → Orderly m
orderly = Follows.orderly

pub billed : (m : Machine) → Demand3 m → Billed m
billed = Follows.billed

pub unforgetting : (m : Machine) → Unforgetting m
unforgetting = Follows.unforgetting

pub one_form : (m : Machine) → Demand1 m → OneForm m
one_form = Form.one_form

pub pointing : (m : Machine) → Demand1 m → Pointing m
pointing = Pointing.pointing

-- all of it of one call, along any history that matches: what the contracts of the crate demanded say of the code
pub of-call : (st : State) (c : Call) → InRange c → is_opening c ≡ false → Demanded (seen_by ours st c)
of-call = One.demanded

pub of-opening : (st : State) (x : Opening) → InRange (Opens x) → Begun (seen_by ours st (Opens x))
of-opening = One.begun

-- what replay, records or any other observer prints is told by a run that meets the demands
pub replayed : {M : Type 0} (o : Observer M) (m : M) (trace : List ℕ) → Octets trace → Replayed o m trace
replayed = Replay.replayed
