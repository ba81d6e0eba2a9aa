-- `frames::lines::digit_of` meets its contract.
use native.Mathlib.Omega.{arith}
use Rattle.frames.specs.Laws.Lines.{digit_is}
use Rattle.frames.proofs.lines.digit_of.Goals as goal

pub returns : goal.returns
returns c = let (e, l) = digit_is c.args.c c.requires in (e, omega arith)
