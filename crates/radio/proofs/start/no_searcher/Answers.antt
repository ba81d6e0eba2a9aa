-- `radio::start::no_searcher` meets its contract.
use Rattle.ground.specs.Paper.Rows.{zeros, padded}
use Rattle.radio.proofs.start.no_searcher.Goals as goal

pub returns : goal.returns
unfolding zeros padded
returns c = rw c.judge_of.ensures
