-- Searching by symbols: the symbols of a pattern, and the codewords at whose start they stand.
use Rattle.std.specs.Prelude.{Bool, cond, List, [], ℕ, eqb, length, drop}
use Rattle.stopper.specs.Paper.Table.{base, stoppers}
use Rattle.stopper.specs.Paper.Reading.{write}
use Rattle.stopper.specs.declared.code.Code.{Code}
use Rattle.texts.specs.Paper.Characters.{first_foreign}
use Rattle.texts.specs.Paper.Hits.{stands}
use Rattle.texts.specs.Helpers.Passing.{passing}
use Rattle.reading.specs.Paper.Reading.{row_upto, ranks_read}
use Rattle.sound.specs.Paper.Roll.{text_row, reading}
use Rattle.sound.specs.Helpers.Ends.{end_from}
use Rattle.sound.specs.declared.records.Roll.{Roll}

-- the symbols of a pattern; none if a character of it is not in the row
unfoldable pub pattern_row : Code → List ℕ → List ℕ → List ℕ
pattern_row c l pattern = cond (eqb (first_foreign l pattern) (length pattern)) (text_row c l pattern) []

-- whether symbols stand at the start of codeword i
abbrev pub stands_at : Code → List ℕ → List ℕ → ℕ → Bool
stands_at c ranks symbols i = stands symbols (write (base c) (stoppers c) (drop i ranks))

-- whether they stand, among the first h symbols of a buffer, where its first i codewords end
abbrev pub stands_behind : Code → List ℕ → ℕ → List ℕ → ℕ → Bool
stands_behind c buf h symbols i = stands symbols (drop (end_from c buf 0 i) (row_upto c h buf))

-- the codewords of a roll at whose start they stand
unfoldable pub word_hits : Roll → List ℕ → List ℕ → List ℕ
word_hits r buf symbols = let ranks : List ℕ = ranks_read (reading r buf) in passing (stands_at r.table.code ranks symbols) (length ranks)
