-- A run of a row: cut out, replaced, and a row put in place of what another used.
use Rattle.std.specs.Prelude.{List, ◌++◌, ℕ, ◌+◌, ◌-◌, take, drop, length}
use Rattle.ground.specs.Paper.Rows.{zeros}

-- the row with xs in place of its run from `from` to `to`
abbrev pub over : List ℕ → ℕ → List ℕ → ℕ → List ℕ
over row from xs to = take from row ++ (xs ++ drop to row)

-- the run from `from` to `to`
abbrev pub run : List ℕ → ℕ → ℕ → List ℕ
run row from to = take (to - from) (drop from row)

-- a row in place of the first `used` of another: what was used before and is no longer is 0, the rest unchanged
abbrev pub in_place : ℕ → List ℕ → List ℕ → List ℕ
in_place used new row = let gone : ℕ = used - length new in new ++ (zeros gone ++ drop (length new + gone) row)
