-- `symbols::each::clear` meets its contract: the symbols passed are cleared.
use Rattle.std.proofs.Common.{◌≡◌, ◌+◌, sym, ◌∙◌, length, arith, pow_pos}
use Rattle.ground.specs.Laws.Runs.{cleared_none, cleared_one, cleared_more}
use Rattle.symbols.specs.Paper.Symbols.{symbols_of}
use Rattle.symbols.specs.Laws.Rows.{symbols_even}
use Rattle.symbols.proofs.each.clear.Goals as goal

pub loop-i-init : goal.loop-i-init
loop-i-init c = sym (cleared_none (symbols_of c.args.k c.args.buf.now) c.args.from)

pub put-requires : goal.put-requires
put-requires c =
    (c.requires.0, omega (arith, symbols_even c.args.k c.loop-i.buf c.args.buf.now c.loop-i.auto.buf), pow_pos c.args.k)

pub loop-i-preserved : goal.loop-i-preserved
loop-i-preserved c =
    let k = c.args.k in
    let now = symbols_of k c.loop-i.buf in
    let i = c.loop-i.i in
    let even : length now ≡ length (symbols_of k c.args.buf.now) = symbols_even k c.loop-i.buf c.args.buf.now c.loop-i.auto.buf in
    cleared_more (symbols_of k c.args.buf.now) c.args.from i (i + 1) c.loop-i.invariant (c.put.ensures ∙ cleared_one now i (omega arith))
    (omega arith) (omega arith) (omega arith)
