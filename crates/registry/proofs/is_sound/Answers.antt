use Rattle.registry.proofs.Contexts.{sound-is}
use Rattle.registry.proofs.is_sound.Goals as goal

pub returns : goal.returns
returns c = rw (c.contexts_differ.ensures, c.all_usable.ensures) (sound-is c.args.registry.now)
