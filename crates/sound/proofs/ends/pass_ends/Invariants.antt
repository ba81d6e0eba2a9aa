use Prim.Native.Nat.{◌-◌, ◌*◌, ◌<◌}
use lib.ListN.{length}
use Rattle.symbols.specs.Paper.Symbols.{per}
use Rattle.sound.specs.Helpers.Ends.{Passing}
use Rattle.sound.proofs.ends.pass_ends.Given as goal

abbrev pub invariant-loop-left : goal.invariant-loop-left
invariant-loop-left l = Passing l.stops.good.code l.buf l.p l.count (l.j * per l.stops.good.code.k) l.left × (0 < l.left)

abbrev pub decreases-loop-left : goal.decreases-loop-left
decreases-loop-left l = length l.buf - l.j
