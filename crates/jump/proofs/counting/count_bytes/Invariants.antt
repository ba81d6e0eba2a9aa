use Rattle.std.proofs.Common.{◌≡◌, ◌+◌, ◌*◌}
use Rattle.symbols.specs.Paper.Symbols.{per}
use Rattle.jump.specs.Helpers.Counting.{number_at}
use Rattle.jump.proofs.counting.count_bytes.Given as goal

abbrev pub invariant-loop-b : goal.invariant-loop-b
invariant-loop-b l = l.ended ≡ number_at l.fn.good.code l.buf ((l.fn.counted.next + l.b-index) * per l.fn.good.code.k)
