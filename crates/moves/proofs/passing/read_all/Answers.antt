-- `moves::passing::read_all` meets its contract.
use native.Mathlib.Omega.{arith}
use Rattle.reading.specs.Helpers.Codewords.{row_of}
use Rattle.moves.specs.Laws.Moves.{here_start}
use Rattle.moves.proofs.passing.read_all.Goals as goal

pub by_symbols-all-requires : goal.by_symbols-all-requires
by_symbols-all-requires c = (
  omega arith,
  omega arith,
  here_start c.args.packed.now.ranks.good.code c.args.packed.now.ranks.sigma (row_of c.args.packed.now),
  omega arith,
)

pub told-requires : goal.told-requires
told-requires c =
    let z = c.by_symbols-all.ensures in
    (z.0, z.1, z.3)
