use Rattle.std.proofs.Common.{◌≡◌}
use Rattle.std.specs.Slice.Iter.{chunks_rest, chunks_size}
use Rattle.writing.specs.Paper.Written.{hex_lines}
use Rattle.writing.specs.Laws.Written.{Going}
use Rattle.writing.proofs.hexadecimal.hex_out.Given as goal

abbrev pub invariant-loop-line : goal.invariant-loop-line
invariant-loop-line l =
    (chunks_size l.line-iterator ≡ 32) × Going (hex_lines l.fn.bytes) l.initial.out l.at l.out l.p (hex_lines (chunks_rest l.line-iterator))
