use Rattle.std.proofs.Common.{◌≡◌, ◌≤◌}
use Rattle.ground.specs.Helpers.Moved.{moved_up}
use Rattle.symbols.specs.Paper.Symbols.{symbols_of}
use Rattle.symbols.proofs.each.up.Given as goal

abbrev pub invariant-loop-i : goal.invariant-loop-i
invariant-loop-i l = (l.from ≤ l.i) × (symbols_of l.k l.buf ≡ moved_up (symbols_of l.k l.initial.buf) l.i l.to l.by)
