-- `symbols::symbol::get` meets its contract.
use mathlib.Core.Path.{sym, ◌∙◌}
use native.Mathlib.Nat.{mod-lt}
use native.Mathlib.Omega.{arith}
use Rattle.symbols.specs.Paper.Symbols.{symbol_at}
use Rattle.symbols.specs.Laws.Rows.{byte_within, symbols_at}
use Rattle.symbols.specs.Laws.Width.{per_pos, narrow, wide, shift_within}
use Rattle.symbols.proofs.symbol.get.Goals as goal

pub bounds-buf-byte_of : goal.bounds-buf-byte_of
bounds-buf-byte_of c = rw c.byte_of.ensures (byte_within c.requires.0 _ _ c.requires.1)

pub cut_out-requires : goal.cut_out-requires
cut_out-requires c =
    let in_byte = mod-lt c.args.i (per_pos c.requires.0) in
    (narrow c.requires.0, omega (arith, c.shift_of.ensures, shift_within c.requires.0 in_byte, wide c.requires.0))

pub returns : goal.returns
unfolding symbol_at
returns c =
    sym (symbols_at c.requires.0 c.args.buf.now c.args.i ∙ cc)
