-- `texts::entries::entries_for` meets its contract.
use Rattle.std.proofs.Common.{arith}
use Rattle.texts.specs.Paper.Directory.{entries}
use Rattle.texts.proofs.entries.entries_for.Goals as goal

pub returns : goal.returns
unfolding entries
returns c = omega arith
