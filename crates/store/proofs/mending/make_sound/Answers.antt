-- `store::mending::make_sound` meets its contract.
use Rattle.std.proofs.Common.{refl, ◌∙◌, arith}
use Rattle.ground.specs.Laws.Runs.{laid_whole}
use Rattle.texts.specs.Paper.Directory.{entries, sum, start_at, directory_of}
use Rattle.sound.specs.Paper.Lengths.{lengths_of}
use Rattle.sound.specs.Laws.Directory.{sound_entries}
use Rattle.store.proofs.mending.make_sound.Goals as goal

pub mend-requires : goal.mend-requires
unfolding start_at sum
mend-requires c = (omega arith, omega arith, c.requires, refl)

pub returns : goal.returns
unfolding entries
returns c =
    c.mend.ensures
    ∙ laid_whole c.args.dir.now (directory_of (lengths_of c.args.sound.now.roll c.args.sound.now.buf.now)) (entries c.args.sound.now.roll.n) (sound_entries c.args.sound.now.sound)
