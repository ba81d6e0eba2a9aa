use Rattle.std.proofs.Common.{◌≡◌, List, ℕ, ◌+◌, ◌*◌, T, length}
use Rattle.std.specs.Slice.Iter.{chunks_rest, chunks_size}
use Rattle.judge.specs.Paper.Judge.{judge_after}
use Rattle.judge.specs.Helpers.Steady.{Steady}
use Rattle.judge.specs.declared.records.Judge.{Judge}
use Rattle.frames.specs.Paper.Frames.{later_for, most_bytes, all_right, packed_from}
use Rattle.frames.specs.Paper.Operations.{packed_after}
use Rattle.frames.proofs.read_frames.judge_lines.Given as goal

-- the lines of `text` are right, and their bytes are what the judge has still to hear of all
pub record Unheard (begun : Judge) (all : List ℕ) (judge : Judge) (text : List ℕ) : Type 0 where
  pub bytes : ℕ
  pub right : T (all_right (later_for bytes) bytes text)
  pub heard : judge_after begun all ≡ judge_after judge (packed_from (later_for bytes) text)

abbrev pub invariant-loop-line : goal.invariant-loop-line
invariant-loop-line l =
    (goal.iterator-loop-line).can_next l.line-iterator
    × (goal.iterator-loop-line).is_finite l.line-iterator
    × (chunks_size l.line-iterator ≡ 2 * most_bytes + 3)
    × (length l.piece ≡ most_bytes)
    × (l.judge.roll ≡ l.fn.roll)
    × Steady l.judge.roll.h l.judge.progress
    × Unheard l.initial.judge (packed_after l.fn.roll l.rest) l.judge (chunks_rest l.line-iterator)
