-- A text packed under a table, and a roll in its buffer.
use Rattle.std.specs.Prelude.{◌≡◌, false, List, map, ℕ, ◌*◌, ◌≤◌, T, length, get_or}
use Rattle.ground.specs.Paper.Runs.{run}
use Rattle.ground.specs.Paper.Rows.{all_zero}
use Rattle.stopper.specs.Paper.Table.{base, stoppers, good_table, characters, rank_in}
use Rattle.stopper.specs.Paper.Reading.{Reading, write}
use Rattle.stopper.specs.declared.code.Code.{Code}
use Rattle.stopper.specs.declared.table.Table.{Table}
use Rattle.symbols.specs.Paper.Symbols.{per, bytes_for, room, symbols_of}
use Rattle.reading.specs.Paper.Reading.{row_upto, row_reading, is_bad, ranks_read}
use Rattle.sound.specs.declared.records.Roll.{Roll}

-- ---- a text under a table

-- the symbols of a text: the codewords of its characters, one after the other
unfoldable pub text_row : Code → List ℕ → List ℕ → List ℕ
text_row c l text = write (base c) (stoppers c) (map (rank_in l) text)

abbrev pub symbols_for : Table → List ℕ → List ℕ
symbols_for t text = text_row t.code (characters t) text

-- the record of a text
abbrev pub record_of : Table → List ℕ → Roll
record_of t text = record { table = t; n = length text; h = length (symbols_for t text) }

-- ---- a roll in its buffer

-- a roll read from symbol p on, and from its first
unfoldable pub reading_from : Roll → List ℕ → ℕ → Reading
reading_from r buf p = row_reading r.table.code r.table.sigma (row_upto r.table.code r.h buf) p

abbrev pub reading : Roll → List ℕ → Reading
reading r buf = reading_from r buf 0

-- the text of a sound roll
unfoldable pub text_of : Roll → List ℕ → List ℕ
text_of r buf = map (λ rank. get_or r.table.places rank 0) (ranks_read (reading r buf))

-- the unused symbols of the last byte, the one that holds symbol h - 1
abbrev pub unused_of : Roll → List ℕ → List ℕ
unused_of r buf = let k : ℕ = r.table.code.k in run (symbols_of k buf) r.h (bytes_for k r.h * per k)

-- a roll is sound if all checks pass
pub record Sound (r : Roll) (buf : List ℕ) : Type 0 where
  pub table : T (good_table r.table)
  pub fits : r.h ≤ room r.table.code.k (length buf)
  pub reads : is_bad (reading r buf) ≡ false
  pub count : length (ranks_read (reading r buf)) ≡ r.n
  pub unused : T (all_zero (unused_of r buf))
