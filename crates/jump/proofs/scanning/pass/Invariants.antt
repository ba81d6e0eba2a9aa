use Rattle.std.proofs.Common.{◌+◌, ◌-◌, ◌≤◌}
use Rattle.jump.specs.Helpers.Windows.{Skipped}
use Rattle.jump.proofs.scanning.pass.Given as goal

abbrev pub invariant-loop-e : goal.invariant-loop-e
invariant-loop-e l = (l.from ≤ l.e) × (l.e ≤ l.full + l.places) × Skipped 1 l.places l.t l.buf l.from l.e

abbrev pub decreases-loop-e : goal.decreases-loop-e
decreases-loop-e l = l.full + l.places + 1 - l.e
