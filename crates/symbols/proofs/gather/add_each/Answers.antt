-- `symbols::gather::add_each` meets its contract: the symbols passed are added.
use Rattle.std.proofs.Common.{◌≡◌, ◌^◌, ◌<◌, length, take, get_or, arith, add-one, mul-one, take-suc, take_all, length-take-le}
use Rattle.ground.specs.Laws.Rows.{below_at}
use Rattle.symbols.specs.Helpers.Gathered.{Waiting}
use Rattle.symbols.specs.Laws.Gathered.{digits_one, added_none, added_more}
use Rattle.symbols.specs.Laws.Rows.{symbols_even}
use Rattle.symbols.proofs.gather.add_each.Goals as goal

pub loop-y-init : goal.loop-y-init
loop-y-init c = added_none c.args.k c.args.g c.args.buf.now c.requires.1.few c.requires.1.small

pub add-all-requires : goal.add-all-requires
add-all-requires c =
    let k = c.args.k in
    let row = c.args.row.now in
    let i = c.loop-y.y-index in
    let a = c.loop-y.invariant in
    let done : length (take i row) ≡ i = length-take-le i row (omega arith) in
    let waits : Waiting k c.loop-y.all c.loop-y.buf 1 = record {
      few = a.few;
      small = a.small;
      within = omega (arith, c.requires.1.within, symbols_even k c.loop-y.buf c.args.buf.now c.loop-y.auto.buf);
      counts = omega (arith, c.requires.1.counts);
    } in
    (c.requires.0, waits, omega arith, rw (mul-one k, c.from.ensures) (below_at c.requires.2 i (omega arith)))

pub loop-y-preserved : goal.loop-y-preserved
loop-y-preserved c =
    let row = c.args.row.now in
    let i = c.loop-y.y-index in
    let h : i < length row = omega arith in
    rw (add-one i, take-suc row i 0 h)
    (added_more c.loop-y.invariant (rw (c.from.ensures, digits_one (2 ^ c.args.k) (get_or row i 0) (below_at c.requires.2 i h)) at c.add-all.ensures))

pub returns : goal.returns
returns c = rw (take_all c.loop-y.y-index c.args.row.now c.loop-y-test.false) at c.loop-y.invariant
