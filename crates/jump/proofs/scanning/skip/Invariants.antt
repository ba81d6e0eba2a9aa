use Rattle.std.proofs.Common.{◌+◌, ◌-◌, ◌≤◌, ◌<◌}
use Rattle.jump.specs.Helpers.Windows.{Skipped}
use Rattle.jump.proofs.scanning.skip.Given as goal

abbrev pub invariant-loop-e : goal.invariant-loop-e
invariant-loop-e l = (l.from ≤ l.e) × (l.e < l.full + (l.places + l.back)) × Skipped l.back l.places l.t l.buf l.from l.e

abbrev pub decreases-loop-e : goal.decreases-loop-e
decreases-loop-e l = l.full + (l.places + l.back) - l.e
