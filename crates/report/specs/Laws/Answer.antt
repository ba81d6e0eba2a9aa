-- The answer, row by row: 11 first, then 4 for a text over 16,384 bytes, then packing's; else the lines.
use Rattle.std.specs.Prelude.{◌≡◌, true, false, List, ◌++◌, ℕ, ◌≤◌, ◌<◌, length, drop}
use Rattle.std.proofs.Common.{ap, ◌∙◌, arith, length-append}
use borrow.Author.Tests.{lt-ltb, le-ltb}
use Rattle.ground.specs.Paper.Refusals.{Outcome, refused}
use Rattle.ground.specs.Paper.Rows.{zeros}
use Rattle.ground.specs.Laws.Refusals.{Accepted}
use Rattle.texts.specs.Paper.Hits.{good_pattern}
use Rattle.roll.specs.Paper.Operations.{pack_says}
use Rattle.report.specs.Paper.Report.{given_pattern, given_text, refused_line, own_table, lines_for, report_of}
use Rattle.report.specs.Helpers.Answers.{answer_for}

module _ (input : List ℕ) where
  -- what packing the text says
  abbrev pub own_says : Outcome (Unit {0})
  own_says = pack_says (own_table (given_text input)) (given_text input) (zeros 16384)

  pub report_11 : good_pattern (given_pattern input) ≡ false → report_of input ≡ refused_line 11 0
  unfolding report_of
  report_11 g = rw g

  module _ (g : good_pattern (given_pattern input) ≡ true) where
    pub report_4 : 16384 < length (given_text input) → report_of input ≡ refused_line 4 16384
    unfolding report_of
    report_4 h = rw (g, lt-ltb 16384 (length (given_text input)) h)

    module _ (h : length (given_text input) ≤ 16384) where
      -- packing decides
      pub report_answer : report_of input ≡ answer_for (given_pattern input) (given_text input)
      unfolding report_of answer_for
      report_answer = rw (g, le-ltb 16384 (length (given_text input)) h)

      pub report_pack : {n v : ℕ} → own_says ≡ refused n v → report_of input ≡ refused_line n v
      unfolding answer_for
      report_pack e = report_answer ∙ rw e

      pub report_yes : Accepted own_says → report_of input ≡ lines_for (given_pattern input) (given_text input)
      unfolding answer_for
      report_yes e = report_answer ∙ rw e

-- an answer that was written lies in the array
pub written_within : (answer old : List ℕ) {out : List ℕ} {r : ℕ} → r ≡ length answer → out ≡ answer ++ drop (length answer) old → r ≤ length out
written_within answer old e w = omega (arith, ap length w, length-append answer (drop (length answer) old))
