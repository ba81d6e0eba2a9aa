-- `sound::ends::pass_first` meets its contract.
use Rattle.sound.specs.Helpers.Ends.{end_of, end_from}
use Rattle.sound.proofs.ends.pass_first.Goals as goal

pub returns-then-count-eq0 : goal.returns-then-count-eq0
unfolding end_from end_of
returns-then-count-eq0 c = rw c.if-count-eq0.true
