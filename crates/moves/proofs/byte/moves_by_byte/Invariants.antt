use Rattle.std.proofs.Common.{◌≡◌, ◌^◌}
use Rattle.stopper.specs.Paper.Table.{base}
use Rattle.moves.specs.Helpers.Moves.{MovesOf}
use Rattle.moves.proofs.byte.moves_by_byte.Given as goal

abbrev pub invariant-loop-n : goal.invariant-loop-n
invariant-loop-n l = (l.size ≡ base l.ranks.good.code ^ l._n) × MovesOf l.ranks.good.code l.ranks.sigma l._n l.t
