-- `frames::write_frames::text_size` meets its contract.
use mathlib.Core.Path.{refl}
use Rattle.frames.specs.Paper.Frames.{later_for}
use Rattle.frames.specs.Helpers.Sizes.{text_size}
use Rattle.frames.proofs.write_frames.text_size.Goals as goal

pub returns : goal.returns
unfolding text_size later_for
returns c = refl
