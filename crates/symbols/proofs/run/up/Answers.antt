-- `symbols::run::up` meets its contract: three parts, the last first.
use Rattle.std.proofs.Common.{◌≡◌, ◌+◌, ◌-◌, ◌*◌, ◌≤◌, ◌∙◌, arith}
use Rattle.ground.specs.Helpers.Moved.{moved_up}
use Rattle.ground.specs.Laws.Runs.{up_more}
use Rattle.symbols.specs.Paper.Symbols.{symbols_of}
use Rattle.symbols.specs.Laws.Rows.{symbols_even}
use Rattle.symbols.proofs.Between.{Between, between}
use Rattle.symbols.proofs.run.up.Goals as goal
use Rattle.symbols.proofs.run.up.Goals.{After-per_byte-per}

known : (c : After-per_byte-per)
    → let a = c.args in Between a.k a.buf.now (a.from + a.by) (a.to + a.by) c.bytes_for-first.result c.byte_of-last.result c.per_byte-per.result
known c =
    between c.requires.0 c.args.buf.now _ _ _ _ _
    c.per_byte-per.ensures c.bytes_for-first.ensures c.byte_of-last.ensures
    c.if-last-first.false c.requires.2

pub up-requires-2 : goal.up-requires-2
up-requires-2 c =
    (c.requires.0, omega (arith, known (goal.at.up-requires-2 c).After-per_byte-per), c.requires.2, c.requires.3)

pub up-requires-3 : goal.up-requires-3
up-requires-3 c =
    let b = known (goal.at.up-requires-3 c).After-per_byte-per in
    let far : c.args.by ≤ c.bytes_for-first.result * c.per_byte-per.result = omega arith in
    (c.requires.0, omega (arith, c.if-last-first.false), rw b.fill at far, omega (arith, c.up-2.auto.buf))

pub overflow_mul-first : goal.overflow_mul-first
overflow_mul-first c = omega (arith, known (goal.at.overflow_mul-first c).After-per_byte-per)

pub overflow_sub-first : goal.overflow_sub-first
overflow_sub-first c = omega (arith, known (goal.at.overflow_sub-first c).After-per_byte-per)

pub up-requires-4 : goal.up-requires-4
up-requires-4 c =
    let b = known (goal.at.up-requires-4 c).After-per_byte-per in
    let even = symbols_even c.args.k c.up-3.new.buf c.args.buf.now (c.up-3.auto.buf ∙ c.up-2.auto.buf) in
    (c.requires.0, omega arith, omega (arith, c.requires.2), omega (arith, c.requires.3))

pub returns : goal.returns
returns c =
    let k = c.args.k in
    let row = symbols_of k c.args.buf.now in
    let first = c.bytes_for-first.result in
    let last = c.byte_of-last.result in
    let n = c.per_byte-per.result in
    let b = known (goal.at.returns c).After-per_byte-per in
    let by = c.args.by in
    let one = symbols_of k c.up-2.new.buf in
    let bytes : symbols_of k c.up-3.new.buf ≡ moved_up one (first * n - by) (last * n - by) by
    = rw b.fill c.up-3.ensures in
    let two = up_more row (first * n - by) (last * n - by) c.args.to by c.up-2.ensures bytes
    (omega arith) (omega arith) c.requires.2 in
    up_more row c.args.from (first * n - by) c.args.to by two c.up-4.ensures
    (omega arith) (omega arith) c.requires.2

pub overflow_mul-last : goal.overflow_mul-last
overflow_mul-last c = omega (arith, known (goal.at.overflow_mul-last c).After-per_byte-per)

pub overflow_sub-last : goal.overflow_sub-last
overflow_sub-last c = omega (arith, known (goal.at.overflow_sub-last c).After-per_byte-per)
