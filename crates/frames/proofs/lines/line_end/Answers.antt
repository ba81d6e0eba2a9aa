-- `frames::lines::line_end` meets its contract: no byte before the first byte 10 ends the line.
use Rattle.std.proofs.Common.{rules, ◌≢◌, ℕ, zero, suc, ◌<◌, ◌≤◌, List, length, get_or, add-one, arith}
use Rattle.frames.specs.Laws.Lines.{EndsFrom, ends_later, ends_here, ends_none}
use Rattle.frames.proofs.lines.line_end.Goals as goal

passed : (text : List ℕ) (i : ℕ) → i ≤ length text → ((k : ℕ) → k < i → get_or text k 0 ≢ 10) → EndsFrom text i
passed text zero h other = omega arith
passed text (suc i) h other =
    rw (← add-one i) (ends_later text i (passed text i (omega arith) (λ k l. other k (omega arith))) h (other i (omega arith)))

pub returns-in-Some : goal.returns-in-Some
returns-in-Some c =
    let text = c.args.text.now in
    let i = c.in-Some.i in
    let other : (k : ℕ) → k < i → get_or text k 0 ≢ 10 = search rules in
    let inside : i < length text = search rules in
    ends_here text i (passed text i (omega arith) other) inside (search rules)

pub returns-in-None : goal.returns-in-None
returns-in-None c =
    let text = c.args.text.now in
    let other : (k : ℕ) → k < length text → get_or text k 0 ≢ 10 = search rules in
    ends_none text (length text) (passed text (length text) (omega arith) other) (search rules)
