use Rattle.std.proofs.Common.{◌≡◌, ◌+◌, ◌-◌, ◌≤◌, length}
use Rattle.stretches.proofs.codewords.pass.Given as goal

abbrev pub invariant-loop-to : goal.invariant-loop-to
invariant-loop-to l = (length l.text ≡ 256) × (l.far ≤ l.laid) × (l.far ≤ l.upto - l.from + l.skip)

abbrev pub decreases-loop-to : goal.decreases-loop-to
decreases-loop-to l = l.far
