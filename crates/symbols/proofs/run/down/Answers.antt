-- `symbols::run::down` meets its contract: three parts, the first first.
use Rattle.std.proofs.Common.{◌≡◌, ◌+◌, ◌-◌, ◌*◌, sym, ◌∙◌, arith}
use Rattle.ground.specs.Helpers.Moved.{moved_down}
use Rattle.ground.specs.Laws.Runs.{down_more}
use Rattle.symbols.specs.Paper.Symbols.{symbols_of}
use Rattle.symbols.specs.Laws.Rows.{symbols_even}
use Rattle.symbols.proofs.Between.{Between, between}
use Rattle.symbols.proofs.run.down.Goals as goal
use Rattle.symbols.proofs.run.down.Goals.{After-per_byte-per}

known : (c : After-per_byte-per)
    → let a = c.args in Between a.k a.buf.now (a.from - a.by) (a.to - a.by) c.bytes_for-first.result c.byte_of-last.result c.per_byte-per.result
known c =
    between c.requires.0 c.args.buf.now _ _ _ _ _
    c.per_byte-per.ensures c.bytes_for-first.ensures c.byte_of-last.ensures
    c.if-last-first.false (omega arith)

pub down-requires-2 : goal.down-requires-2
down-requires-2 c =
    let b = known (goal.at.down-requires-2 c).After-per_byte-per in
    (c.requires.0, c.requires.1, omega arith, omega (arith, c.requires.3))

pub down-requires-3 : goal.down-requires-3
down-requires-3 c =
    let b = known (goal.at.down-requires-3 c).After-per_byte-per in
    let even = symbols_even c.args.k c.down-2.new.buf c.args.buf.now c.down-2.auto.buf in
    (c.requires.0, omega (arith, c.if-last-first.false), rw (sym b.fill) (omega (arith, c.requires.3)))

pub overflow_mul-last : goal.overflow_mul-last
overflow_mul-last c = omega (arith, known (goal.at.overflow_mul-last c).After-per_byte-per)

pub overflow_add-last : goal.overflow_add-last
overflow_add-last c = omega (arith, known (goal.at.overflow_add-last c).After-per_byte-per)

pub down-requires-4 : goal.down-requires-4
down-requires-4 c =
    let b = known (goal.at.down-requires-4 c).After-per_byte-per in
    let even = symbols_even c.args.k c.down-3.new.buf c.args.buf.now (c.down-3.auto.buf ∙ c.down-2.auto.buf) in
    (c.requires.0, omega arith, omega (arith, c.requires.1, c.requires.2), omega (arith, c.requires.3))

pub returns : goal.returns
returns c =
    let k = c.args.k in
    let row = symbols_of k c.args.buf.now in
    let first = c.bytes_for-first.result in
    let last = c.byte_of-last.result in
    let n = c.per_byte-per.result in
    let b = known (goal.at.returns c).After-per_byte-per in
    let by = c.args.by in
    let one = symbols_of k c.down-2.new.buf in
    let bytes : symbols_of k c.down-3.new.buf ≡ moved_down one (first * n + by) (last * n + by) by
    = rw b.fill c.down-3.ensures in
    let two = down_more row c.args.from (first * n + by) (last * n + by) by c.down-2.ensures bytes
    c.requires.1 (omega (arith, c.requires.1)) (omega arith) (omega (arith, c.requires.1, c.requires.2, c.requires.3)) in
    down_more row c.args.from (last * n + by) c.args.to by two c.down-4.ensures
    c.requires.1 (omega (arith, c.requires.1)) (omega (arith, c.requires.1, c.requires.2)) c.requires.3

pub overflow_mul-first : goal.overflow_mul-first
overflow_mul-first c = omega (arith, known (goal.at.overflow_mul-first c).After-per_byte-per)

pub overflow_add-first : goal.overflow_add-first
overflow_add-first c = omega (arith, known (goal.at.overflow_add-first c).After-per_byte-per)
