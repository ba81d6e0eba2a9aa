use Rattle.std.proofs.Common.{◌≡◌, ◌+◌, ◌*◌, ◌≤◌}
use Rattle.symbols.specs.Paper.Symbols.{per}
use Rattle.jump.specs.Helpers.Counting.{number_at}
use Rattle.jump.proofs.counting.ended_in_block.Given as goal

abbrev pub invariant-loop-j : goal.invariant-loop-j
invariant-loop-j l =
    (l.n ≤ 2 * l.j) × (number_at l.good.code l.buf (l.i * per l.good.code.k) + l.n ≡ number_at l.good.code l.buf ((l.i + l.j) * per l.good.code.k))
