use Rattle.std.proofs.Common.{◌≡◌, ◌≤◌, ◌<◌, ℕ, List, length, get_or}
use Rattle.choosing.specs.Paper.Choosing.{twelve, counted}
use Rattle.choosing.proofs.raising.raised_of.Given as goal

-- no count is lower than lent or higher than it counts as, and those of the first i of the twelve are not 0
pub record Upto (counts raised : List ℕ) (i : ℕ) : Type 0 where
  pub long : length raised ≡ 256
  pub low : (b : ℕ) → get_or counts b 0 ≤ get_or raised b 0
  pub high : (b : ℕ) → get_or raised b 0 ≤ counted counts b
  pub first : (j : ℕ) → j < i → 0 < get_or raised (get_or twelve j 0) 0

abbrev pub invariant-loop-b : goal.invariant-loop-b
invariant-loop-b l = Upto l.counts l.raised l.b-index
