-- `frames::read_first::no_record` meets its contract.
use Rattle.std.proofs.Common.{refl}
use Rattle.ground.specs.Paper.Rows.{zeros}
use Rattle.frames.specs.Paper.Operations.{no_record}
use Rattle.frames.proofs.read_first.no_record.Goals as goal

pub returns : goal.returns
unfolding no_record zeros
returns c = refl
