use Rattle.std.proofs.Common.{◌≡◌, ◌*◌, ◌^◌, ◌<◌, take}
use Rattle.symbols.specs.Helpers.Gathered.{digits}
use Rattle.symbols.proofs.gather.join_all.Given as goal

abbrev pub invariant-loop-y : goal.invariant-loop-y
invariant-loop-y l = (l.bits < 2 ^ (l.k * l.y-index)) × (digits (2 ^ l.k) l.y-index l.bits ≡ take l.y-index l.row)
