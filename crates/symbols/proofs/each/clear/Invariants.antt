use Rattle.std.proofs.Common.{◌≡◌}
use Rattle.ground.specs.Helpers.Moved.{cleared}
use Rattle.symbols.specs.Paper.Symbols.{symbols_of}
use Rattle.symbols.proofs.each.clear.Given as goal

abbrev pub invariant-loop-i : goal.invariant-loop-i
invariant-loop-i l = symbols_of l.k l.buf ≡ cleared (symbols_of l.k l.initial.buf) l.from l.i
