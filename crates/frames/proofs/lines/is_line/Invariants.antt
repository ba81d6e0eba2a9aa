use Rattle.std.proofs.Common.{◌≡◌, take}
use Rattle.frames.specs.Helpers.Lines.{all_digits}
use Rattle.frames.proofs.lines.is_line.Given as goal

abbrev pub invariant-loop-c : goal.invariant-loop-c
invariant-loop-c l = l.good ≡ all_digits (take l.c-index l.line)
