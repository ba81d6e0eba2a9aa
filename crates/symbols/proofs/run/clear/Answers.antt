-- `symbols::run::clear` meets its contract: three parts, one after the other.
use Rattle.std.proofs.Common.{◌-◌, ◌*◌, ◌≡◌, ◌++◌, take, drop, ◌∙◌, ap, length, arith}
use Rattle.ground.specs.Helpers.Moved.{cleared}
use Rattle.ground.specs.Laws.Runs.{part_filled, cleared_more, cleared_length}
use Rattle.symbols.specs.Paper.Symbols.{symbols_of}
use Rattle.symbols.specs.Laws.Whole.{symbols_cleared}
use Rattle.symbols.proofs.Between.{Between, between}
use Rattle.symbols.proofs.run.clear.Goals as goal
use Rattle.symbols.proofs.run.clear.Goals.{After-per_byte-per, After-fill}

known : (c : After-per_byte-per)
    → Between c.args.k c.args.buf.now c.args.from c.args.to c.bytes_for-first.result c.byte_of-last.result c.per_byte-per.result
known c =
    between c.requires.0 c.args.buf.now _ _ _ _ _
    c.per_byte-per.ensures c.bytes_for-first.ensures c.byte_of-last.ensures
    c.if-last-first.false c.requires.2

pub clear-requires-2 : goal.clear-requires-2
clear-requires-2 c =
    let b = known (goal.at.clear-requires-2 c).After-per_byte-per in
    (c.requires.0, b.starts, omega (arith, c.requires.2))

pub slice_bounds-fill-end : goal.slice_bounds-fill-end
slice_bounds-fill-end c = omega (arith, known (goal.at.slice_bounds-fill-end c).After-per_byte-per, c.clear-2.auto.buf)

-- the whole bytes filled with 0, behind the symbols before them
filled : (c : After-fill)
    → let a = c.args in let bs = c.clear-2.new.buf in let first = c.bytes_for-first.result in let last = c.byte_of-last.result in
    Between a.k a.buf.now a.from a.to first last c.per_byte-per.result
    → symbols_of a.k (take first bs ++ (c.fill.new.self ++ drop (last - first) (drop first bs)))
    ≡ cleared (symbols_of a.k a.buf.now) a.from (last * c.per_byte-per.result)
filled c b =
    let k = c.args.k in
    let row = symbols_of k c.args.buf.now in
    let bs = c.clear-2.new.buf in
    let first = c.bytes_for-first.result in
    let last = c.byte_of-last.result in
    let n = c.per_byte-per.result in
    let bytes = part_filled bs c.fill.new.self first last (omega arith) (omega (arith, c.clear-2.auto.buf)) (c.fill.ensures.after (λ y e. e)) in
    cleared_more row c.args.from (first * n) (last * n) c.clear-2.ensures
    (ap (symbols_of k) bytes ∙ rw b.fill (symbols_cleared c.requires.0 bs first last))
    b.starts b.grows (omega (arith, c.requires.2))

pub clear-requires-3 : goal.clear-requires-3
clear-requires-3 c =
    let b = known (goal.at.clear-requires-3 c).After-per_byte-per in
    let row = symbols_of c.args.k c.args.buf.now in
    let last = c.byte_of-last.result * c.per_byte-per.result in
    let f = filled (goal.at.clear-requires-3 c).After-fill b in
    let even = cleared_length row c.args.from last (omega arith) (omega (arith, c.requires.2)) in
    (c.requires.0, b.ends, omega (arith, c.requires.2, ap length f, even))

pub returns : goal.returns
returns c =
    let b = known (goal.at.returns c).After-per_byte-per in
    cleared_more (symbols_of c.args.k c.args.buf.now) c.args.from (c.byte_of-last.result * c.per_byte-per.result) c.args.to
    (filled (goal.at.returns c).After-fill b) c.clear-3.ensures
    (omega arith) b.ends c.requires.2
