-- `jump::counting::count_to` meets its contract.
use Rattle.std.proofs.Common.{◌≡◌, List, ℕ, ◌*◌, ◌/◌, ◌^◌, ◌≤◌, T, length, arith, div-mul-le_self}
use Rattle.stopper.specs.Paper.Table.{good_code}
use Rattle.stopper.specs.Laws.Table.{code_width}
use Rattle.stopper.specs.declared.code.Code.{Code}
use Rattle.symbols.specs.Paper.Symbols.{per, symbols_of}
use Rattle.jump.specs.Laws.Counting.{end_inside, end_behind, counts_byte, counts_symbol}
use Rattle.jump.proofs.counting.count_to.Goals as goal

-- where the byte of symbol a is
inside : (code : Code) → T (good_code code) → (buf : List ℕ) {a end : ℕ} → end ≡ a / per code.k → a ≤ length (symbols_of code.k buf) → a ≤ 2 ^ 24
    → (end ≤ length buf) × (end * per code.k ≤ 2 ^ 24)
inside code g buf {a} e h l =
    rw e (end_inside code g buf a h, omega (arith, div-mul-le_self a (per code.k), l))

pub byte_of-end-requires : goal.byte_of-end-requires
byte_of-end-requires c = code_width c.args.good.code c.args.good.good

pub count_blocks-most-requires : goal.count_blocks-most-requires
count_blocks-most-requires c =
    let a = c.args in
    let i = inside a.good.code c.args.good.good a.buf.now c.byte_of-end.ensures c.requires.1 c.requires.2 in
    (i.0, i.1, rw c.byte_of-end.ensures (counts_byte a.good.code c.args.good.good a.buf.now a.a c.requires.3))

pub count_bytes-requires : goal.count_bytes-requires
count_bytes-requires c =
    let a = c.args in
    let i = inside a.good.code c.args.good.good a.buf.now c.byte_of-end.ensures c.requires.1 c.requires.2 in
    (c.requires.0, i.0, i.1, c.count_blocks-most.ensures.0)

pub returns : goal.returns
returns c =
    let a = c.args in
    let e = c.count_bytes.ensures in (
      counts_symbol a.good.code c.args.good.good a.buf.now a.a (rw c.byte_of-end.ensures at e.1),
      rw (e.0, c.byte_of-end.ensures) (end_behind a.good.code c.args.good.good a.buf.now a.a),
    )
