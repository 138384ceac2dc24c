use Prim.Native.Nat.{◌+◌, ◌*◌}
use Rattle.octets.proofs.Splice.{splice-part}
use native.Mathlib.Omega.{arith}
use Rattle.receive_perform.proofs.save.Goals as goal

pub returns-in-Some : goal.returns-in-Some
returns-in-Some c =
    let a = c.args in
    let room = rw c.in-Some.is at c.requires.1 in
    rw c.in-Some.is (splice-part (2048 * a.place) (2048 * a.place + 2048) c.in-Some.from _ _ _ (rw c.from.ensures at c.put_at.ensures) (omega arith) (omega arith) (omega arith))
