use Rattle.std.proofs.Common.{◌∙◌, ◌≡◌, length, drop, take_all, length-drop, arith}
use Rattle.trace_items.proofs.Reading.{word_at}
use Rattle.trace_items.proofs.item_of.Goals as goal

pub returns-in-32 : goal.returns-in-32
returns-in-32 c =
    let b = c.args.body.now in
    let n : length b ≡ 8 = rw c.in-32.is at c.requires in
    let d = length-drop 4 b in
    let first = c.from_be_bytes.ensures ∙ word_at _ b 0 c.octets_at.ensures (omega arith) in
    let second = c.from_be_bytes-in-32.ensures ∙ word_at _ b 4 c.octets_at-in-32.ensures (omega arith) in
    rw (c.in-32.is, first, second, take_all 4 (drop 4 b) (omega arith))
