-- `choosing::choose::no_table` meets its contract.
use Rattle.ground.specs.Paper.Rows.{zeros, padded}
use Rattle.choosing.proofs.choose.no_table.Goals as goal

pub returns : goal.returns
unfolding zeros padded
returns c = rw c.even_code.ensures
