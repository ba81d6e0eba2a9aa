-- `jump::counting::number_of` meets its contract: the codewords that end before symbol i are counted.
use Rattle.std.proofs.Common.{ℕ, ◌<◌, length, arith}
use Rattle.stopper.specs.Laws.Table.{code_width}
use Rattle.symbols.specs.Paper.Symbols.{symbols_of}
use Rattle.jump.specs.Laws.Counting.{number_upto, number_stopper, number_continuer}
use Rattle.jump.proofs.counting.number_of.Goals as goal
use Rattle.jump.proofs.counting.number_of.Goals.{then-from-s, else-from-s}

pub per_byte-requires : goal.per_byte-requires
per_byte-requires c = code_width c.args.good.code c.args.good.good

pub get-requires : goal.get-requires
get-requires c = (code_width c.args.good.code c.args.good.good, omega (arith, c.requires.0))

pub overflow_add-number : goal.overflow_add-number
overflow_add-number c =
    omega (arith, c.loop-i.invariant, number_upto c.args.good.code c.args.buf.now c.loop-i.i, c.requires.1)

pub loop-i-preserved : goal.loop-i-preserved
loop-i-preserved c =
    let code = c.args.good.code in
    let i : ℕ = c.loop-i.i in
    let lt : i < length (symbols_of code.k c.args.buf.now) = omega (arith, c.loop-i-test.true, c.requires.0) in
    elim c.if-from-s.branch [
      | then-from-s w ↦ omega (arith, w.number-is, c.loop-i.invariant, number_stopper code c.args.buf.now i lt (omega (arith, w.if-from-s.true, c.from.ensures, c.get.ensures, c.stoppers_at-s.ensures)))
      | else-from-s w ↦ omega (arith, w.number-is, c.loop-i.invariant, number_continuer code c.args.buf.now i lt (omega (arith, w.if-from-s.false, c.from.ensures, c.get.ensures, c.stoppers_at-s.ensures)))
    ]
