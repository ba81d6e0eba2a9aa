use Rattle.std.proofs.Common.{◌≡◌, ◌++◌, ◌+◌, ◌-◌, ◌*◌, ◌/◌, ◌^◌, take, drop}
use Rattle.symbols.specs.Paper.Symbols.{per, symbols_of}
use Rattle.symbols.specs.Helpers.Gathered.{digits}
use Rattle.symbols.proofs.gather.store.Given as goal

abbrev pub invariant-loop-next : goal.invariant-loop-next
invariant-loop-next l =
    (l.next * per l.k + l.count ≡ l.g.next * per l.k + l.g.count)
    × (symbols_of l.k (take l.next l.buf) ≡ symbols_of l.k (take l.g.next l.initial.buf) ++ digits (2 ^ l.k) (l.g.count - l.count) (l.g.bits / 2 ^ (l.k * l.count)))
    × (drop l.next l.buf ≡ drop l.next l.initial.buf)
