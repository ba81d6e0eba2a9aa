-- `symbols::each::up` meets its contract: the symbols from `i` on are moved.
use Rattle.std.proofs.Common.{◌≡◌, ℕ, ◌+◌, ◌-◌, ◌∙◌, ap, length, set, arith, pow_pos}
use Rattle.ground.specs.Helpers.Moved.{moved_up}
use Rattle.ground.specs.Laws.Rows.{get_or_below}
use Rattle.ground.specs.Laws.Runs.{up_one, up_more}
use Rattle.symbols.specs.Paper.Symbols.{symbols_of}
use Rattle.symbols.specs.Laws.Rows.{symbols_even, symbols_below}
use Rattle.symbols.proofs.each.up.Goals as goal

pub get-y-requires : goal.get-y-requires
get-y-requires c = (c.requires.0, omega (arith, symbols_even c.args.k c.loop-i.buf c.args.buf.now c.loop-i.auto.buf))

pub put-requires : goal.put-requires
put-requires c =
    let k = c.args.k in
    let even : length (symbols_of k c.loop-i.buf) ≡ length (symbols_of k c.args.buf.now) = symbols_even k c.loop-i.buf c.args.buf.now c.loop-i.auto.buf in
    (c.requires.0, omega arith, rw c.get-y.ensures (get_or_below (symbols_below k c.loop-i.buf) (pow_pos k) (c.loop-i.i - 1)))

pub loop-i-preserved : goal.loop-i-preserved
loop-i-preserved c =
    let k = c.args.k in
    let by = c.args.by in
    let old = symbols_of k c.args.buf.now in
    let now = symbols_of k c.loop-i.buf in
    let i = c.loop-i.i - 1 in
    let next : i + 1 ≡ c.loop-i.i = omega arith in
    let even : length now ≡ length old = symbols_even k c.loop-i.buf c.args.buf.now c.loop-i.auto.buf in (
      omega arith,
      up_more old i c.loop-i.i c.args.to by c.loop-i.invariant.1
          (c.put.ensures ∙ ap (set now (i + by)) c.get-y.ensures ∙ up_one now i by (omega arith) ∙ ap (λ (n : ℕ). moved_up now i n by) next)
          (omega arith) (omega arith) (omega arith),
    )
