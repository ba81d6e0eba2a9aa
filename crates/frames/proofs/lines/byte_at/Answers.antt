-- `frames::lines::byte_at` meets its contract: both digits stand before byte 10.
use Rattle.std.proofs.Common.{sym, ap₂, ◌∙◌, ℕ, ◌+◌, ◌*◌, arith}
use Rattle.frames.specs.Laws.Lines.{line_long, line_digit, bytes_at}
use Rattle.frames.proofs.lines.byte_at.Goals as goal

pub digit_of-requires : goal.digit_of-requires
digit_of-requires c =
    let line = c.args.line.now in
    line_digit line c.requires.0 (2 * c.args.i) (omega (arith, line_long line c.requires.0, c.requires.1))

pub digit_of-requires-2 : goal.digit_of-requires-2
digit_of-requires-2 c =
    let line = c.args.line.now in
    line_digit line c.requires.0 (2 * c.args.i + 1) (omega (arith, line_long line c.requires.0, c.requires.1))

pub returns : goal.returns
returns c =
    let line = c.args.line.now in
    ap₂ (λ (a b : ℕ). 16 * a + b) c.digit_of.ensures.0 c.digit_of-2.ensures.0
    ∙ sym (bytes_at line c.args.i (omega (arith, line_long line c.requires.0, c.requires.1)))
