use Prim.Native.Nat.{◌-◌}
use Rattle.sound.specs.Helpers.Ends.{Passing, end_from}
use Rattle.sound.proofs.ends.pass_symbols.Given as goal

abbrev pub invariant-loop-left : goal.invariant-loop-left
invariant-loop-left l = Passing l.code l.buf l.p l.count l.q l.left

abbrev pub decreases-loop-left : goal.decreases-loop-left
decreases-loop-left l = end_from l.code l.buf l.p l.count - l.q
