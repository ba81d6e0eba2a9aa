use Rattle.std.proofs.Common.{◌≡◌, ◌-◌, ◌*◌, ◌≤◌}
use Rattle.symbols.specs.Paper.Symbols.{per}
use Rattle.jump.specs.Helpers.Counting.{number_at}
use Rattle.jump.proofs.counting.count_blocks.Given as goal

abbrev pub invariant-loop-next : goal.invariant-loop-next
invariant-loop-next l = (l.next ≤ l.end) × (l.ended ≡ number_at l.good.code l.buf (l.next * per l.good.code.k))

abbrev pub decreases-loop-next : goal.decreases-loop-next
decreases-loop-next l = l.end - l.next
