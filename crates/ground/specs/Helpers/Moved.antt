-- A run of a row cleared, moved, laid over.
use Rattle.std.specs.Prelude.{List, ℕ, ◌+◌, ◌-◌, length}
use Rattle.ground.specs.Paper.Rows.{zeros}
use Rattle.ground.specs.Paper.Runs.{over, run}

-- that run cleared
abbrev pub cleared : List ℕ → ℕ → ℕ → List ℕ
cleared row from to = over row from (zeros (to - from)) to

-- that run laid over the one `by` places up
abbrev pub moved_up : List ℕ → ℕ → ℕ → ℕ → List ℕ
moved_up row from to by = over row (from + by) (run row from to) (to + by)

-- that run laid over the one `by` places down
abbrev pub moved_down : List ℕ → ℕ → ℕ → ℕ → List ℕ
moved_down row from to by = over row (from - by) (run row from to) (to - by)

-- a row of symbols laid over another from a symbol on
abbrev pub laid_from : List ℕ → ℕ → List ℕ → List ℕ
laid_from row first xs = over row first xs (first + length xs)

abbrev pub laid : List ℕ → List ℕ → ℕ → ℕ → List ℕ
laid row wanted from to = over row from (run wanted from to) to
