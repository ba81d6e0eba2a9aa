-- `symbols::each::down` meets its contract: the symbols passed are moved.
use Rattle.std.proofs.Common.{◌≡◌, ◌+◌, ◌-◌, ◌∙◌, ap, length, set, arith, pow_pos}
use Rattle.ground.specs.Laws.Rows.{get_or_below}
use Rattle.ground.specs.Laws.Runs.{down_one, down_more}
use Rattle.symbols.specs.Paper.Symbols.{symbols_of}
use Rattle.symbols.specs.Laws.Rows.{symbols_even, symbols_below}
use Rattle.symbols.proofs.each.down.Goals as goal

pub put-requires : goal.put-requires
put-requires c =
    let k = c.args.k in
    let even : length (symbols_of k c.loop-i.buf) ≡ length (symbols_of k c.args.buf.now) = symbols_even k c.loop-i.buf c.args.buf.now c.loop-i.auto.buf in
    (c.requires.0, omega arith, rw c.get-y.ensures (get_or_below (symbols_below k c.loop-i.buf) (pow_pos k) c.loop-i.i))

pub loop-i-preserved : goal.loop-i-preserved
loop-i-preserved c =
    let k = c.args.k in
    let by = c.args.by in
    let old = symbols_of k c.args.buf.now in
    let now = symbols_of k c.loop-i.buf in
    let i = c.loop-i.i in
    let even : length now ≡ length old = symbols_even k c.loop-i.buf c.args.buf.now c.loop-i.auto.buf in
    down_more old c.args.from i (i + 1) by c.loop-i.invariant
    (c.put.ensures ∙ ap (set now (i - by)) c.get-y.ensures ∙ down_one now i by (omega arith) (omega arith))
    (omega arith) (omega arith) (omega arith) (omega arith)
