-- `moves::byte::part_of` meets its contract.
use Rattle.std.proofs.Common.{arith, length-set}
use Rattle.moves.specs.Helpers.Moves.{part_in}
use Rattle.moves.specs.Laws.Moves.{part_more}
use Rattle.moves.proofs.byte.part_of.Goals as goal

pub loop-b-preserved : goal.loop-b-preserved
loop-b-preserved c =
    (simp length-set c.loop-b.invariant.0, part_more (part_in c.args.low) c.args.t.now c.loop-b.r c.loop-b.b (omega arith) c.loop-b.invariant.1)
