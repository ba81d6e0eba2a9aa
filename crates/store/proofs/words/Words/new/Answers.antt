-- `store::words::Words::new` meets its contract.
use Rattle.std.proofs.Common.{refl}
use Rattle.ground.specs.Paper.Rows.{zeros}
use Rattle.store.proofs.words.Words.new.Goals as goal

pub returns : goal.returns
unfolding zeros
returns c = refl
