-- `symbols::symbol::put` meets its contract.
use Prim.Native.Nat.{◌+◌, ◌≤◌}
use native.Mathlib.Nat.{mod-lt}
use native.Mathlib.Omega.{arith}
use Rattle.symbols.specs.Laws.Rows.{byte_within}
use Rattle.symbols.specs.Laws.Width.{per_pos, narrow, wide, shift_within}
use Rattle.symbols.proofs.Stored.{stored_row}
use Rattle.symbols.proofs.symbol.put.Goals as goal

pub bounds-buf-at : goal.bounds-buf-at
bounds-buf-at c =
    rw c.byte_of-at.ensures (byte_within c.requires.0 _ _ c.requires.1)

pub laid_in-requires : goal.laid_in-requires
laid_in-requires c =
    let in_byte = mod-lt c.args.i (per_pos c.requires.0) in
    let fits : c.shift_of-low.result + c.args.k ≤ 8 = rw c.shift_of-low.ensures (shift_within c.requires.0 in_byte) in
    (narrow c.requires.0, omega (arith, fits, wide c.requires.0), fits, c.requires.2)

pub bounds-buf-at-2 : goal.bounds-buf-at-2
bounds-buf-at-2 c =
    rw c.byte_of-at.ensures (byte_within c.requires.0 _ _ c.requires.1)

pub returns : goal.returns
returns c =
    let a = c.args in
    rw (c.laid_in.ensures, c.shift_of-low.ensures, c.byte_of-at.ensures)
    (stored_row c.requires.0 a.buf.now a.i a.y c.requires.1 c.requires.2)
