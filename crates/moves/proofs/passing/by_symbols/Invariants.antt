use Rattle.std.proofs.Common.{◌<◌}
use Rattle.reading.specs.Helpers.Codewords.{row_of}
use Rattle.moves.specs.Helpers.Moves.{Here}
use Rattle.moves.proofs.passing.by_symbols.Given as goal

abbrev pub invariant-loop-at : goal.invariant-loop-at
invariant-loop-at l =
    let s = l.packed in record { small : l.x < 131072; here : Here s.ranks.good.code s.ranks.sigma (row_of s) l.at l.x l.n }
