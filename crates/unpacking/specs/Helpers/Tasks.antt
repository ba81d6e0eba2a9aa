-- What is written of a task.
use Rattle.std.specs.Prelude.{List, ℕ}
use Rattle.reading.specs.Helpers.Codewords.{row_of}
use Rattle.moves.specs.declared.passing.Way.{Way}
use Rattle.unpacking.specs.Helpers.Gives.{Wrote, WroteBytes}
use Rattle.unpacking.specs.declared.task.Task.{Task}

-- as far as its row was read
abbrev pub Written : Task → List ℕ → Way → Type 0
Written t out way = Wrote t.packed.ranks.good.code t.packed.ranks.sigma t.places.now (row_of t.packed) t.p out way

-- where bytes are counted
abbrev pub WrittenBytes : Task → List ℕ → Way → Type 0
WrittenBytes t out way = WroteBytes t.packed.ranks.good.code t.packed.ranks.sigma t.places.now (row_of t.packed) t.p out way
