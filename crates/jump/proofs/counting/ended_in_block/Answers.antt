-- `jump::counting::ended_in_block` meets its contract: the codewords that end in the first j of its bytes are counted.
use Rattle.std.proofs.Common.{◌≡◌, ℕ, ◌+◌, ◌*◌, ap, ⊎_elim, arith}
use Rattle.stopper.specs.Laws.Table.{code_width}
use Rattle.symbols.specs.Paper.Symbols.{per}
use Rattle.jump.specs.Helpers.Counting.{number_at}
use Rattle.jump.specs.Laws.Counting.{number_byte}
use Rattle.jump.proofs.counting.ended_in_block.Goals as goal

pub stops_of_four-n-requires : goal.stops_of_four-n-requires
stops_of_four-n-requires c =
    ⊎_elim (λ e. absurd (c.if-good-eq2.false e)) (λ e. e) (code_width c.args.good.code c.args.good.good)

pub loop-j-preserved : goal.loop-j-preserved
loop-j-preserved c =
    let a = c.args in
    let q : ℕ = a.i + c.loop-j.j in
    let e : q + 1 ≡ a.i + (c.loop-j.j + 1) = omega arith in (
      omega (arith, c.stops_of_four-n.ensures.1, c.loop-j.invariant.0),
      omega (
        arith,
        c.loop-j.invariant.1,
        number_byte a.good.code c.args.good.good a.buf.now q (omega (arith, c.requires, c.loop-j-test.true)),
        c.stops_of_four-n.ensures.0,
        ap (λ (n : ℕ). number_at a.good.code a.buf.now (n * per a.good.code.k)) e,
      ),
    )
