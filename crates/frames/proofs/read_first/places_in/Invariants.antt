use Rattle.std.proofs.Common.{◌≡◌, ◌++◌, take, drop}
use Rattle.ground.specs.Paper.Rows.{zeros}
use Rattle.frames.specs.Paper.Frames.{bytes_in, first_head}
use Rattle.frames.proofs.read_first.places_in.Given as goal

abbrev pub invariant-loop-i : goal.invariant-loop-i
invariant-loop-i l = l.places ≡ take l.i (drop first_head (bytes_in l.line)) ++ drop l.i (zeros 256)
