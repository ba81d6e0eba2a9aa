use Rattle.std.proofs.Common.{◌≡◌, ℕ, ◌≤◌, List, length, take}
use Rattle.stopper.specs.Paper.Table.{longest}
use Rattle.stopper.specs.Laws.Seen.{Seen}
use Rattle.stopper.specs.declared.code.Code.{Code}
use Rattle.stopper.specs.declared.reading.Reader.{Reader}
use Rattle.stopper.proofs.character_of.rank_of_word.Given as goal

pub record At (c : Code) (σ n : ℕ) (symbols : List ℕ) (i : ℕ) (r : Reader) : Type 0 where
  pub long : length (take n symbols) ≡ n
  pub room : n ≤ longest
  pub seen : Seen c σ (take n symbols) i r

abbrev pub invariant-loop-i : goal.invariant-loop-i
invariant-loop-i l = At l.ranks.good.code l.ranks.sigma l.length l.symbols l.i l.r
