-- `stopper::codeword_of::no_word` meets its contract.
use Rattle.std.proofs.Common.{refl}
use Rattle.ground.specs.Paper.Rows.{zeros, padded}
use Rattle.stopper.proofs.codeword_of.no_word.Goals as goal

pub returns : goal.returns
unfolding zeros padded
returns c = refl
