use Rattle.std.proofs.Common.{take}
use Rattle.symbols.specs.Helpers.Gathered.{Added}
use Rattle.symbols.proofs.gather.add_each.Given as goal

abbrev pub invariant-loop-y : goal.invariant-loop-y
invariant-loop-y l = Added l.k l.initial.all l.initial.buf (take l.y-index l.row) l.all l.buf
