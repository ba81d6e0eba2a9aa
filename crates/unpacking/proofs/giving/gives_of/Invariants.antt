use Rattle.std.proofs.Common.{[], ◌∷◌, drop}
use Rattle.symbols.specs.Paper.Symbols.{symbols_of}
use Rattle.unpacking.specs.Helpers.Gives.{Says}
use Rattle.unpacking.proofs.giving.gives_of.Given as goal

abbrev pub invariant-loop-t : goal.invariant-loop-t
invariant-loop-t l = Says l.good.code l.places (drop l.t (symbols_of l.good.code.k (l.b ∷ []))) l.g
