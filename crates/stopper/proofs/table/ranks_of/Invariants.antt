use Rattle.std.proofs.Common.{◌≡◌, ◌+◌, ◌≤◌, ℕ, List, length, take, drop}
use Rattle.ground.specs.Paper.Rows.{tab}
use Rattle.stopper.specs.Paper.Table.{rank_in}
use Rattle.stopper.proofs.table.ranks_of.Given as goal

-- the rank of b among the characters from place i on, counted from the first
abbrev pub from : List ℕ → ℕ → ℕ → ℕ
from l i b = i + rank_in (drop i l) b

pub record Filled (places : List ℕ) (n : ℕ) (ranks : List ℕ) (i : ℕ) : Type 0 where
  pub long : length (take n places) ≡ n
  pub few : n ≤ 256
  pub upto : i ≤ n
  pub row : ranks ≡ tab (from (take n places) i) 0 256

abbrev pub invariant-loop-i : goal.invariant-loop-i
invariant-loop-i l = Filled l.places l.sigma l.ranks l.i
