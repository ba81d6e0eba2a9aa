-- The cases of specs/Worked, computed.
use Rattle.std.specs.Prelude.{refl}
use Rattle.ground.specs.Paper.Rows.{tab}
use Rattle.symbols.specs.Paper.Symbols.{per, bytes_for, shift, symbol_at, symbols_of, number, byte_at, bytes_of}
use Rattle.symbols.specs.Worked.{Worked}

pub worked : Worked
unfolding tab per bytes_for shift symbol_at symbols_of number byte_at bytes_of
worked = (refl, refl, refl, refl, refl, refl, refl)
