use Rattle.std.proofs.Common.{◌≤◌, length}
use Rattle.casebook.proofs.printed.rises.Given as goal

abbrev pub invariant-loop-first : goal.invariant-loop-first
invariant-loop-first g l = length l.left ≤ length l.numbers

abbrev pub decreases-loop-first : goal.decreases-loop-first
decreases-loop-first g l = length l.left
