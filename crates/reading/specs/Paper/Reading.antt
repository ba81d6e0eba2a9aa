-- The symbols of a buffer read as codewords.
use Rattle.std.specs.Prelude.{Bool, true, false, List, ℕ, take, drop}
use Rattle.stopper.specs.Paper.Table.{base, stoppers}
use Rattle.stopper.specs.Paper.Reading.{Reading, done, bad, read_from}
use Rattle.stopper.specs.declared.code.Code.{Code}
use Rattle.symbols.specs.Paper.Symbols.{symbols_of}

-- the symbols of a buffer up to symbol h
abbrev pub row_upto : Code → ℕ → List ℕ → List ℕ
row_upto c h buf = take h (symbols_of c.k buf)

-- what reading a row as codewords from symbol p on gives
abbrev pub row_reading : Code → ℕ → List ℕ → ℕ → Reading
row_reading c σ row p = read_from (base c) (stoppers c) σ p 0 0 (drop p row)

-- whether there is a bad codeword, and the ranks read: all of them, or those before the bad one
unfoldable pub is_bad : Reading → Bool
is_bad (done rs) = false
is_bad (bad f p rs) = true

unfoldable pub ranks_read : Reading → List ℕ
ranks_read (done rs) = rs
ranks_read (bad f p rs) = rs

-- the first symbol of the bad codeword: if there is none, of one that would start at symbol h
unfoldable pub first_bad : ℕ → Reading → ℕ
first_bad h (done rs) = h
first_bad h (bad f p rs) = p
