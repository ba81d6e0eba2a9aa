-- `stopper::character_of::if_last` meets its contract.
use borrow.Author.Tests.{lt-ltb, le-ltb}
use Rattle.stopper.specs.Helpers.Answers.{if_last}
use Rattle.stopper.proofs.character_of.if_last.Goals as goal

pub returns-then-read-length : goal.returns-then-read-length
unfolding if_last
returns-then-read-length c = simp (lt-ltb _ _ c.if-read-length.true)

pub returns-else-read-length : goal.returns-else-read-length
unfolding if_last
returns-else-read-length c = simp (le-ltb _ _ c.if-read-length.false)
