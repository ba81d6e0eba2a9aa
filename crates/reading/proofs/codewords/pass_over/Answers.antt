-- `reading::codewords::pass_over` meets its contract: what is passed over from symbol `at` on is the codewords that are left.
use Rattle.std.proofs.Common.{◌≡◌, sym, ap, ◌∙◌, ◌+◌, ◌-◌, arith}
use lib.Seq.{length-take-le}
use Rattle.symbols.specs.Paper.Symbols.{symbols_of}
use Rattle.reading.specs.Paper.Reading.{row_upto}
use Rattle.reading.specs.Helpers.Codewords.{passed_from}
use Rattle.reading.specs.Laws.Codewords.{found_word}
use Rattle.reading.specs.Laws.Passed.{pass_word, pass_bad, pass_none}
use Rattle.reading.proofs.codewords.pass_over.Goals as goal

pub loop-init : goal.loop-init
loop-init c =
    let none : c.args.count ≡ c.args.count - 0 = omega arith in
    (c.requires, ap (passed_from c.args.packed.now.ranks.good.code c.args.packed.now.ranks.sigma (row_upto c.args.packed.now.ranks.good.code c.args.packed.now.h c.args.packed.now.buf.now) c.args.p) none)

pub codeword_at-requires : goal.codeword_at-requires
codeword_at-requires c = c.loop.invariant.0

pub loop-preserved : goal.loop-preserved
loop-preserved c =
    let code = c.args.packed.now.ranks.good.code in
    let row = row_upto code c.args.packed.now.h c.args.packed.now.buf.now in
    let long = length-take-le c.args.packed.now.h (symbols_of code.k c.args.packed.now.buf.now) c.args.packed.now.held in
    let e = sym c.in-Some.is ∙ c.codeword_at.ensures in
    let v = found_word code c.args.packed.now.ranks.good.good c.args.packed.now.ranks.sigma row e (omega (arith, long, c.loop.invariant.0)) in
    let one : c.args.count - c.loop.counter - 1 ≡ c.args.count - (c.loop.counter + 1) = omega arith in (
      omega (arith, v.upto, long),
      c.loop.invariant.1
          ∙ pass_word code c.args.packed.now.ranks.sigma row c.loop.«at» (c.args.count - c.loop.counter) (omega (arith, c.loop-test.true)) e
          ∙ ap (passed_from code c.args.packed.now.ranks.sigma row _) one,
    )

pub returns-in_default : goal.returns-in_default
returns-in_default c =
    let code = c.args.packed.now.ranks.good.code in
    sym (c.loop.invariant.1
    ∙ pass_bad code c.args.packed.now.ranks.sigma (row_upto code c.args.packed.now.h c.args.packed.now.buf.now) c.loop.«at» (c.args.count - c.loop.counter) (omega (arith, c.loop-test.true)) (sym c.in_default.is ∙ c.codeword_at.ensures))

pub returns : goal.returns
returns c =
    let code = c.args.packed.now.ranks.good.code in
    sym (c.loop.invariant.1
    ∙ pass_none code c.args.packed.now.ranks.sigma (row_upto code c.args.packed.now.h c.args.packed.now.buf.now) c.loop.«at» (c.args.count - c.loop.counter) (omega (arith, c.loop-test.false)))
