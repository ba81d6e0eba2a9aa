-- The lengths of a roll's codewords and of a text's, and a right directory.
use Rattle.std.specs.Prelude.{◌≡◌, List, map, ℕ, take}
use Rattle.stopper.specs.Paper.Table.{characters, rank_in, length_of}
use Rattle.stopper.specs.declared.table.Table.{Table}
use Rattle.texts.specs.Paper.Directory.{directory_of, entries}
use Rattle.reading.specs.Paper.Reading.{ranks_read}
use Rattle.sound.specs.Paper.Roll.{reading}
use Rattle.sound.specs.declared.records.Roll.{Roll}

-- the lengths of a sound roll's codewords: n of them
unfoldable pub lengths_of : Roll → List ℕ → List ℕ
lengths_of r buf = map (length_of r.table.code) (ranks_read (reading r buf))

-- the lengths of a text's codewords
unfoldable pub lengths_for : Table → List ℕ → List ℕ
lengths_for t text = map (λ b. length_of t.code (rank_in (characters t) b)) text

-- the entries that a sound roll has are right
abbrev pub Right : Roll → List ℕ → List ℕ → Type 0
Right r buf dir = take (entries r.n) dir ≡ directory_of (lengths_of r buf)
