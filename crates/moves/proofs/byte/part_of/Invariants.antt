use Rattle.std.proofs.Common.{◌≡◌, length}
use Rattle.moves.specs.Helpers.Moves.{part_in, PartIn}
use Rattle.moves.proofs.byte.part_of.Given as goal

-- the bytes of the moves below b are written
abbrev pub invariant-loop-b : goal.invariant-loop-b
invariant-loop-b l = (length l.r ≡ 256) × PartIn (part_in l.low) l.t l.b l.r
