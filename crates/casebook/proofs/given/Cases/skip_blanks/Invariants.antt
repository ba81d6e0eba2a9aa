use Rattle.std.proofs.Common.{length}
use Rattle.casebook.proofs.given.Cases.skip_blanks.Given as goal

abbrev pub decreases-loop-b : goal.decreases-loop-b
decreases-loop-b l = length l.self.left.now
