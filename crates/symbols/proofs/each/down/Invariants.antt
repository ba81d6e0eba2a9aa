use Rattle.std.proofs.Common.{◌≡◌}
use Rattle.ground.specs.Helpers.Moved.{moved_down}
use Rattle.symbols.specs.Paper.Symbols.{symbols_of}
use Rattle.symbols.proofs.each.down.Given as goal

abbrev pub invariant-loop-i : goal.invariant-loop-i
invariant-loop-i l = symbols_of l.k l.buf ≡ moved_down (symbols_of l.k l.initial.buf) l.from l.i l.by
