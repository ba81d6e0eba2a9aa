-- `store::mending::mend` meets its contract.
use Rattle.std.proofs.Common.{arith}
use Rattle.sound.specs.Laws.Directory.{sound_few}
use Rattle.store.proofs.mending.mend.Goals as goal

pub overflow_cast-from : goal.overflow_cast-from
overflow_cast-from c = omega (arith, c.requires.0, c.requires.1, sound_few c.args.sound.now.sound)

pub overflow_cast-upto : goal.overflow_cast-upto
overflow_cast-upto c = omega (arith, c.requires.1, sound_few c.args.sound.now.sound)
