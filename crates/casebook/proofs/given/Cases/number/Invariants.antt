use Rattle.std.proofs.Common.{◌≤◌, length}
use Rattle.casebook.proofs.given.Cases.number.Given as goal

abbrev pub invariant-loop-b : goal.invariant-loop-b
invariant-loop-b l = l.value ≤ 10000000000009

abbrev pub decreases-loop-b : goal.decreases-loop-b
decreases-loop-b l = length l.self.left.now
