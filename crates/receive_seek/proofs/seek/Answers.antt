use Rattle.std.proofs.Common.{sym}
use Rattle.receive_seek.proofs.Reading.{read_short}
use Rattle.receive_seek.proofs.seek.Goals as goal

pub key_of-key-requires : goal.key_of-key-requires
key_of-key-requires c =
    let short = read_short c.args.t.now c.args.s.now _ (sym c.in-Ok.ensures) in
    (short.origin, short.destination)
