-- A text packed into a buffer, and packed in place of a roll with its directory.
use Rattle.std.specs.Prelude.{List, ◌++◌, ℕ, length, drop}
use Rattle.ground.specs.Paper.Runs.{in_place}
use Rattle.symbols.specs.Paper.Symbols.{bytes_for, bytes_of}
use Rattle.texts.specs.Paper.Directory.{entries, directory_of}
use Rattle.sound.specs.Paper.Roll.{symbols_for}
use Rattle.sound.specs.Paper.Lengths.{lengths_for}
use Rattle.sound.specs.declared.records.Roll.{Roll}

-- a row of symbols packed into a buffer: the packed bytes, later bytes unchanged
abbrev pub packed_into : ℕ → List ℕ → List ℕ → List ℕ
packed_into k row buf = bytes_of k row ++ drop (bytes_for k (length row)) buf

-- a text packed in place of a roll: its bytes, and its directory
abbrev pub bytes_after : Roll → List ℕ → List ℕ → List ℕ
bytes_after r text buf = let k : ℕ = r.table.code.k in in_place (bytes_for k r.h) (bytes_of k (symbols_for r.table text)) buf

abbrev pub directory_after : Roll → List ℕ → List ℕ → List ℕ
directory_after r text dir = in_place (entries r.n) (directory_of (lengths_for r.table text)) dir
