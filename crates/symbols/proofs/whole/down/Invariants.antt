use Rattle.std.proofs.Common.{◌≡◌, ◌+◌, ◌*◌}
use Rattle.ground.specs.Helpers.Moved.{moved_down}
use Rattle.symbols.specs.Paper.Symbols.{per, symbols_of}
use Rattle.symbols.proofs.whole.down.Given as goal

abbrev pub invariant-loop-j : goal.invariant-loop-j
invariant-loop-j l =
    symbols_of l.k l.buf ≡ moved_down (symbols_of l.k l.initial.buf) (l.first * per l.k + l.by) (l.j * per l.k + l.by) l.by
