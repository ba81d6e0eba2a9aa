-- `frames::read_frame::is_later` meets its contract.
use Rattle.std.proofs.Common.{rules, ◌≡◌, sym, ap, ◌∙◌, false, ℕ, eqb, arith}
use Rattle.ground.specs.Laws.Tests.{true_yes}
use Rattle.frames.specs.Paper.Frames.{is_later}
use Rattle.frames.specs.Laws.Lines.{line_long}
use Rattle.frames.specs.Laws.Forms.{later_none, later_short, later_over, later_is}
use Rattle.frames.proofs.read_frame.is_later.Goals as goal

pub byte_at-requires : goal.byte_at-requires
byte_at-requires c =
    let (l, some, few) = c.if-line-le-MOST_LINE.true in
    let t = true_yes _ (sym c.is_line.ensures ∙ l) in
    (t, omega (arith, line_long c.args.line.now t, some))

pub returns-then-line-le-MOST_LINE : goal.returns-then-line-le-MOST_LINE
returns-then-line-le-MOST_LINE c =
    let (l, some, few) = c.if-line-le-MOST_LINE.true in
    ap (λ (b : ℕ). eqb b 2) c.byte_at.ensures ∙ later_is c.args.line.now (sym c.is_line.ensures ∙ l) some few

pub returns-else-line-le-MOST_LINE : goal.returns-else-line-le-MOST_LINE
returns-else-line-le-MOST_LINE c =
    let line = c.args.line.now in
    let no : is_later line ≡ false = search (rules, later_none, later_short, later_over) in
    rw no (search rules)
