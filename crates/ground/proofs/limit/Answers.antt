-- `ground::limit` meets its contract.
use Rattle.std.proofs.Common.{refl}
use Rattle.ground.specs.Paper.Limit.{limit}
use Rattle.ground.proofs.limit.Goals as goal

pub returns : goal.returns
unfolding limit
returns c = refl
