use Rattle.std.proofs.Common.{◌≡◌, ◌-◌, ◌*◌, ◌≤◌}
use Rattle.ground.specs.Helpers.Moved.{moved_up}
use Rattle.symbols.specs.Paper.Symbols.{per, symbols_of}
use Rattle.symbols.proofs.whole.up.Given as goal

abbrev pub invariant-loop-j : goal.invariant-loop-j
invariant-loop-j l =
    (l.first ≤ l.j) × (symbols_of l.k l.buf ≡ moved_up (symbols_of l.k l.initial.buf) (l.j * per l.k - l.by) (l.last * per l.k - l.by) l.by)
