use Rattle.std.proofs.Common.{◌≡◌, List, ℕ, length}
use Rattle.std.specs.Slice.Iter.{chunks_rest, chunks_size}
use Rattle.writing.specs.Laws.Written.{Going}
use Rattle.frames.specs.Paper.Frames.{later_for, later_frames, most_bytes}
use Rattle.frames.proofs.write_frames.frames_out.Given as goal

-- the frames of so many bytes
abbrev pub later : List ℕ → List ℕ
later bytes = later_frames (later_for (length bytes)) bytes

abbrev pub invariant-loop-packed : goal.invariant-loop-packed
invariant-loop-packed l =
    (goal.iterator-loop-packed).can_next l.packed-iterator
    × (goal.iterator-loop-packed).is_finite l.packed-iterator
    × (chunks_size l.packed-iterator ≡ most_bytes)
    × Going (later l.bytes) l.initial.out l.at l.out l.p (later (chunks_rest l.packed-iterator))
