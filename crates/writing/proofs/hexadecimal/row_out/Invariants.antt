use Rattle.std.proofs.Common.{drop}
use Rattle.writing.specs.Paper.Written.{hex_row}
use Rattle.writing.specs.Laws.Written.{Going}
use Rattle.writing.proofs.hexadecimal.row_out.Given as goal

abbrev pub invariant-loop-b : goal.invariant-loop-b
invariant-loop-b l = Going (hex_row l.bytes) l.initial.out l.at l.out l.p (hex_row (drop l.b-index l.bytes))
