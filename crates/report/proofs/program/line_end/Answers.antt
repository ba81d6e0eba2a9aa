-- `report::program::line_end` meets its contract: before the first byte 10 stands the pattern.
use Rattle.std.proofs.Common.{rules, ◌≡◌, ◌≢◌, sym, ◌∙◌, ℕ, zero, suc, ◌+◌, ◌<◌, ◌≤◌, List, length, drop, get_or, arith}
use Rattle.report.specs.Paper.Report.{given_pattern}
use Rattle.report.specs.Laws.Split.{line_ends, line_goes, line_over}
use Rattle.report.proofs.program.line_end.Goals as goal

passed : (input : List ℕ) (i : ℕ) → i ≤ length input → ((k : ℕ) → k < i → get_or input k 0 ≢ 10) → i + length (given_pattern (drop i input)) ≡ length (given_pattern input)
passed input zero h other = omega arith
passed input (suc i) h other = sym (line_goes input i h (other i (omega arith))) ∙ passed input i (omega arith) (λ k l. other k (omega arith))

pub returns-in-Some : goal.returns-in-Some
returns-in-Some c =
    let input = c.args.input.now in
    let i = c.in-Some.i in
    let other : (k : ℕ) → k < i → get_or input k 0 ≢ 10 = search rules in
    let inside : i < length input = search rules in
    record { within = omega arith; pattern = sym (line_ends input i inside (search rules)) ∙ passed input i (omega arith) other }

pub returns-in-None : goal.returns-in-None
returns-in-None c =
    let input = c.args.input.now in
    let end = length input in
    let other : (k : ℕ) → k < end → get_or input k 0 ≢ 10 = search rules in
    record { within = omega arith; pattern = sym (line_over input end (omega arith)) ∙ passed input end (omega arith) other }
