use Rattle.std.proofs.Common.{◌≡◌, List, ℕ, suc, ◌+◌, ◌≤◌, length}
use Rattle.frames.specs.Paper.Frames.{later_for, all_right, right_before}
use Rattle.frames.proofs.read_frames.check_lines.Given as goal

-- the lines before `text` are passed
pub record Passed (rest : List ℕ) (bytes : ℕ) (text : List ℕ) (left number : ℕ) : Type 0 where
  pub inside : number + length text ≤ length rest + 1
  pub all : all_right (later_for bytes) bytes rest ≡ all_right (later_for left) left text
  pub before : suc (right_before (later_for bytes) bytes rest) ≡ number + right_before (later_for left) left text

abbrev pub invariant-loop-left : goal.invariant-loop-left
invariant-loop-left l = Passed l.fn.rest l.bytes l.rest l.left l.number

abbrev pub decreases-loop-left : goal.decreases-loop-left
decreases-loop-left l = l.left
