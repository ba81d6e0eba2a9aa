use Rattle.std.proofs.Common.{◌≡◌, ◌+◌, ◌-◌, ◌*◌, ◌≤◌, T, length}
use Rattle.std.specs.Slice.Iter.{chunks_rest, chunks_size}
use Rattle.writing.specs.Laws.Written.{Going}
use Rattle.frames.specs.Paper.Frames.{later_for, most_bytes, all_right, packed_from}
use Rattle.frames.proofs.read_frames.store_lines.Given as goal

abbrev pub invariant-loop-line : goal.invariant-loop-line
invariant-loop-line l =
    (goal.iterator-loop-line).can_next l.line-iterator
    × (goal.iterator-loop-line).is_finite l.line-iterator
    × (chunks_size l.line-iterator ≡ 2 * most_bytes + 3)
    × (l.at ≤ length l.initial.out)
    × (length l.out ≡ length l.initial.out)
    × T (all_right (later_for (length l.initial.out - l.at)) (length l.initial.out - l.at) (chunks_rest l.line-iterator))
    × Going (packed_from (later_for (length l.initial.out)) l.rest) l.initial.out 0 l.out l.at (packed_from (later_for (length l.initial.out - l.at)) (chunks_rest l.line-iterator))
