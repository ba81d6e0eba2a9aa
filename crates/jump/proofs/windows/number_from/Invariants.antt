use Rattle.std.proofs.Common.{◌≡◌}
use Rattle.jump.specs.Helpers.Windows.{number_from}
use Rattle.jump.proofs.windows.number_from.Given as goal

abbrev pub invariant-loop-x : goal.invariant-loop-x
invariant-loop-x l = l.b ≡ number_from l.k l.sought.symbols.now l.j l.x-index
