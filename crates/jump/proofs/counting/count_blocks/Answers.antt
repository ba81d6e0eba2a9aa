-- `jump::counting::count_blocks` meets its contract: the codewords that end in the bytes before `next` are counted.
use Rattle.std.proofs.Common.{◌+◌, arith}
use Rattle.jump.specs.Laws.Counting.{number_fits, counts_next}
use Rattle.jump.proofs.counting.count_blocks.Goals as goal

pub loop-next-init : goal.loop-next-init
loop-next-init c =
    let a = c.args in
    (counts_next a.good.code c.args.good.good a.buf.now a.end c.requires.2, c.requires.2.number)

pub overflow_add-ended : goal.overflow_add-ended
overflow_add-ended c =
    let a = c.args in
    omega (
      arith,
      c.loop-next.invariant.1,
      c.ended_in_block.ensures,
      c.from-ended.ensures,
      number_fits a.good.code c.args.good.good a.buf.now a.end c.requires.1 (c.loop-next.next + 48) (omega (arith, c.loop-next-test.true)),
    )
