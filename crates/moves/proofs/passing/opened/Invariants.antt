use Rattle.std.proofs.Common.{◌≡◌, take}
use Rattle.symbols.specs.Paper.Symbols.{symbols_of}
use Rattle.moves.specs.Helpers.States.{open_from}
use Rattle.moves.proofs.passing.opened.Given as goal

-- no codeword starts between symbol p and symbol `at`
abbrev pub invariant-loop-p : goal.invariant-loop-p
invariant-loop-p l = open_from l.good.code 0 0 (take l.at (symbols_of l.good.code.k l.buf)) ≡ open_from l.good.code 0 0 (take l.p (symbols_of l.good.code.k l.buf))
