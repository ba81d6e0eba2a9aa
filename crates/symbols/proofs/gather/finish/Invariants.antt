use Rattle.std.proofs.Common.{◌≡◌, ◌+◌, ◌-◌, ◌*◌, ◌/◌, ◌^◌}
use Rattle.ground.specs.Paper.Runs.{over}
use Rattle.symbols.specs.Paper.Symbols.{symbols_of}
use Rattle.symbols.specs.Helpers.Gathered.{digits}
use Rattle.symbols.proofs.gather.finish.Given as goal

abbrev pub invariant-loop-i : goal.invariant-loop-i
invariant-loop-i l =
    symbols_of l.k l.buf ≡ over (symbols_of l.k l.initial.buf) l.first (digits (2 ^ l.k) l.i (l.g.bits / 2 ^ (l.k * (l.g.count - l.i)))) (l.first + l.i)
