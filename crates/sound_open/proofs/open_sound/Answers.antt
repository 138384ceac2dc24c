use Rattle.rules.specs.Soundness.{open_sound}
use Rattle.sound_open.proofs.open_sound.Goals as goal

pub returns-then-numbers : goal.returns-then-numbers
unfolding open_sound
returns-then-numbers c =
    let numbers = rw (c.from.ensures, c.from-2.ensures) at c.if-numbers.true in
    rw (
      c.elapsed.ensures,
      c.address_sound-to.ensures,
      c.address_sound-from.ensures,
      ← c.kind_of-kind.ensures,
      numbers,
    )

pub returns-else-numbers : goal.returns-else-numbers
unfolding open_sound
returns-else-numbers c =
    let numbers = rw (c.from.ensures, c.from-2.ensures) at c.if-numbers.false in
    rw (← c.kind_of-kind.ensures, numbers)
