use Rattle.std.proofs.Common.{◌≡◌, length}
use Rattle.moves.specs.Helpers.Moves.{bound_in, PartIn}
use Rattle.moves.proofs.byte.bounds_of.Given as goal

-- the bounds of the byte values below b are written
abbrev pub invariant-loop-b : goal.invariant-loop-b
invariant-loop-b l = (length l.r ≡ 256) × PartIn bound_in l.t l.b l.r
