use Rattle.std.proofs.Common.{◌≡◌, ℕ, [], ◌∷◌}
use Rattle.ground.specs.Paper.Rows.{tab}
use Rattle.symbols.specs.Paper.Symbols.{symbols_of}
use Rattle.stopper.specs.Paper.Table.{stoppers}
use Rattle.stopper.specs.declared.code.Code.{Code}
use Rattle.sound.specs.Helpers.Ends.{stops}
use Rattle.sound.specs.Laws.Stops.{filled}
use Rattle.sound.proofs.ends.stops_counted.Given as goal

abbrev pub entry : Code → ℕ → ℕ
entry code b = stops (stoppers code) 0 (symbols_of code.k (b ∷ []))

abbrev pub invariant-loop-b : goal.invariant-loop-b
invariant-loop-b l = l.stops-items ≡ tab (filled (entry l.good.code) l.b) 0 256
