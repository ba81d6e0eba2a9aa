-- `store::words::goes_on` meets its contract.
use Rattle.std.proofs.Common.{lt-ltb, le-ltb}
use Rattle.store.specs.Helpers.Words.{goes_on}
use Rattle.store.proofs.words.goes_on.Goals as goal

pub returns-then-long-gt0 : goal.returns-then-long-gt0
unfolding goes_on
returns-then-long-gt0 c = rw (lt-ltb _ _ c.if-long-gt0.true)

pub returns-else-long-gt0 : goal.returns-else-long-gt0
unfolding goes_on
returns-else-long-gt0 c = rw (le-ltb _ _ c.if-long-gt0.false)
