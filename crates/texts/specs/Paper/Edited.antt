-- A text with a run replaced.
use Rattle.std.specs.Prelude.{List, ℕ}
use Rattle.ground.specs.Paper.Runs.{over}

-- the text with another in place of its characters from start up to end
abbrev pub edited : List ℕ → ℕ → ℕ → List ℕ → List ℕ
edited text start end new = over text start new end
