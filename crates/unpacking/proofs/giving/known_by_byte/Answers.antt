-- `unpacking::giving::known_by_byte` meets its contract: what is not worked out yet is 0, a move of no state.
use Rattle.std.proofs.Common.{◌∙◌, arith, length-set}
use Rattle.ground.specs.Paper.Rows.{zeros}
use Rattle.ground.specs.Laws.Rows.{length_zeros}
use Rattle.unpacking.specs.Laws.Gives.{known_none, known_more}
use Rattle.unpacking.proofs.giving.known_by_byte.Goals as goal
use Rattle.unpacking.proofs.giving.known_by_byte.Goals.{in-Some, in_default}

pub loop-b-init : goal.loop-b-init
unfolding zeros
loop-b-init c = (length_zeros 256, length_zeros 256, known_none c.args.ranks.good.code c.args.ranks.sigma c.args.places.now 256)

pub loop-b-preserved : goal.loop-b-preserved
loop-b-preserved c =
    let b = c.loop-b.b in
    let (long, long_too, known) = c.loop-b.invariant in
    elim c.match-gives_of.branch [
      | in-Some w ↦
          rw (w.go-is, w.gives-is) (
            length-set c.loop-b.go b _ ∙ long,
            length-set c.loop-b.gives b _ ∙ long_too,
            known_more c.args.ranks.good.code c.args.ranks.sigma c.args.places.now c.loop-b.go c.loop-b.gives b _ _ (omega arith) (omega arith) known
                (c.moves_by_byte.ensures b c.loop-b-test.true, λ _. rw (w.gives_in_one.ensures.0, w.gives_in_one.ensures.1, w.gives_in_one.ensures.2) w.in-Some.ensures),
          )
      | in_default w ↦ rw (w.go-is, w.gives-is) c.loop-b.invariant
    ]
