use Rattle.std.proofs.Common.{◌≡◌, take}
use Rattle.ground.specs.Paper.Rows.{tab}
use Rattle.choosing.specs.Paper.Choosing.{occurs}
use Rattle.choosing.proofs.count.tally.Given as goal

abbrev pub invariant-loop-b : goal.invariant-loop-b
invariant-loop-b l = l.counts ≡ tab (occurs (take l.b-index l.text)) 0 256
