-- `frames::read_first::is_first` meets its contract.
use Rattle.std.proofs.Common.{rules, ◌≡◌, sym, ap, ◌∙◌, true, false, ℕ, ◌+◌, ◌*◌, ◌≤◌, eqb, length, get_or, arith}
use Rattle.ground.specs.Laws.Tests.{true_yes}
use Rattle.frames.specs.Paper.Frames.{bytes_in, first_head, is_first}
use Rattle.frames.specs.Laws.Lines.{line_long}
use Rattle.frames.specs.Laws.Forms.{first_none, first_short, first_other, first_is}
use Rattle.frames.proofs.read_first.is_first.Goals as goal

pub byte_at-requires : goal.byte_at-requires
byte_at-requires c =
    let line = c.args.line.now in
    let l : c.is_line.result ≡ true = search rules in
    let long : 2 * first_head + 1 ≤ length line = search rules in
    let t = true_yes _ (sym c.is_line.ensures ∙ l) in
    (t, omega (arith, line_long line t, long))

pub two_at-requires : goal.two_at-requires
two_at-requires c =
    let line = c.args.line.now in
    let l : c.is_line.result ≡ true = search rules in
    let long : 2 * first_head + 1 ≤ length line = search rules in
    let t = true_yes _ (sym c.is_line.ensures ∙ l) in
    (t, omega (arith, line_long line t, long), omega arith)

pub returns-then-byte_at-eq1 : goal.returns-then-byte_at-eq1
returns-then-byte_at-eq1 c =
    let line = c.args.line.now in
    let l : c.is_line.result ≡ true = search rules in
    let long : 2 * first_head + 1 ≤ length line = search rules in
    let one : get_or (bytes_in line) 0 0 ≡ 1 = search rules in
    ap (λ (n : ℕ). eqb (length line) (2 * (first_head + n) + 1)) (c.from.ensures ∙ c.two_at.ensures)
    ∙ first_is line (sym c.is_line.ensures ∙ l) long one

pub returns-else-byte_at-eq1 : goal.returns-else-byte_at-eq1
returns-else-byte_at-eq1 c =
    let line = c.args.line.now in
    let no : is_first line ≡ false = search (rules, first_none, first_short, first_other) in
    rw no (search rules)
