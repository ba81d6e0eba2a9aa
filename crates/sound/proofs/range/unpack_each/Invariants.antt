use Rattle.std.proofs.Common.{◌≡◌, List, ◌++◌, map, ℕ, ◌+◌, take, drop, get_or}
use Rattle.stopper.specs.Paper.Table.{length_of}
use Rattle.stopper.specs.declared.code.Code.{Code}
use Rattle.texts.specs.Paper.Directory.{start_at}
use Rattle.reading.specs.Paper.Reading.{row_upto, row_reading, ranks_read}
use Rattle.sound.proofs.range.unpack_each.Given as goal

-- the ranks that are read, and their characters
abbrev pub ranks : Code → ℕ → List ℕ → ℕ → List ℕ
ranks code sigma buf h = ranks_read (row_reading code sigma (row_upto code h buf) 0)

abbrev pub characters : List ℕ → List ℕ → List ℕ
characters places rs = map (λ rank. get_or places rank 0) rs

abbrev pub invariant-loop-i : goal.invariant-loop-i
invariant-loop-i l =
    (l.p ≡ start_at (map (length_of l.table.code) (ranks l.table.code l.table.sigma l.sound.buf.now l.sound.roll.h)) (l.start + l.i))
    × (l.out ≡ take l.i (drop l.start (characters l.table.places (ranks l.table.code l.table.sigma l.sound.buf.now l.sound.roll.h))) ++ drop l.i l.initial.out)
