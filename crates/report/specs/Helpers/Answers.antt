-- What helpers answer.
use Rattle.std.specs.Prelude.{◌≡◌, cond, List, ◌++◌, ℕ, ◌+◌, ltb, length, drop, Result}
use Rattle.ground.specs.Paper.Refusals.{Outcome, accepted, ◌then◌, kept}
use Rattle.ground.specs.Paper.Rows.{zeros}
use Rattle.ground.specs.Paper.Answers.{number_of, value_of, outcome_of}
use Rattle.ground.specs.declared.refusal.Refusal.{Refusal}
use Rattle.roll.specs.Paper.Operations.{pack_says}
use Rattle.report.specs.Paper.Report.{refused_line, own_table, lines_for, answered, packed_says}

-- where the text starts, behind a line that ends at `end`
unfoldable pub start_of_text : ℕ → ℕ → ℕ
start_of_text end long = cond (ltb end long) (end + 1) end

-- the line of a refusal
abbrev pub line_for : Refusal → List ℕ
line_for refusal = refused_line (number_of refusal) (value_of refusal)

-- the answer to a good pattern and a text of at most 16,384 bytes
unfoldable pub answer_for : List ℕ → List ℕ → List ℕ
answer_for pattern text = answered (packed_says pattern text)

-- what packing the text says
abbrev pub text_says : List ℕ → Outcome (Unit {0})
text_says text = pack_says (own_table text) text (zeros 16384)

-- packing's refusal; or how long the lines are, which are then put
pub record PackedOut (pattern text out : List ℕ) (answer : Result ℕ Refusal) (after : List ℕ) : Type 0 where
  pub says : outcome_of answer ≡ (text_says text then accepted (length (lines_for pattern text)))
  pub leaves : after ≡ kept (text_says text) out (lines_for pattern text ++ drop (length (lines_for pattern text)) out)
