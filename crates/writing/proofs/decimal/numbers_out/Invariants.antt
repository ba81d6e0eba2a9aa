use Rattle.std.proofs.Common.{drop}
use Rattle.writing.specs.Paper.Written.{number_lines}
use Rattle.writing.specs.Laws.Written.{Going}
use Rattle.writing.proofs.decimal.numbers_out.Given as goal

abbrev pub invariant-loop-n : goal.invariant-loop-n
invariant-loop-n l = Going (number_lines l.numbers) l.initial.out l.at l.out l.p (number_lines (drop l.n-index l.numbers))
