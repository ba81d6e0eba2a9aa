use Rattle.std.proofs.Common.{◌-◌, ◌*◌, ◌≤◌, ◌<◌}
use Rattle.symbols.specs.Paper.Symbols.{per}
use Rattle.reading.specs.Helpers.Codewords.{row_of}
use Rattle.moves.specs.Helpers.Moves.{Here}
use Rattle.moves.proofs.passing.by_moves.Given as goal

abbrev pub invariant-loop-at : goal.invariant-loop-at
invariant-loop-at l =
    let s = l.packed in
    record {
      inside : l.at ≤ l.whole;
      small : l.x < 131072;
      here : Here s.ranks.good.code s.ranks.sigma (row_of s) (l.at * per s.ranks.good.code.k) l.x l.n;
    }

abbrev pub decreases-loop-at : goal.decreases-loop-at
decreases-loop-at l = l.whole - l.at
