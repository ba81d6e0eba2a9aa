use Rattle.std.proofs.Common.{◌≡◌, ◌++◌, take, drop}
use Rattle.frames.specs.Paper.Frames.{packed_in}
use Rattle.frames.proofs.read_frame.take_packed.Given as goal

abbrev pub invariant-loop-i : goal.invariant-loop-i
invariant-loop-i l = l.out ≡ take l.i (packed_in l.line) ++ drop l.i l.initial.out
