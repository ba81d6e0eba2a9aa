-- `report::program::report` meets its contract.
use Rattle.std.proofs.Common.{◌≡◌, sym, ap, ap₂, ◌∙◌, List, ◌++◌, ℕ, ◌-◌, ◌<◌, ◌≤◌, length, take, drop, length-drop, length-take-le, arith, rules}
use Rattle.std.proofs.Math.Seq.{take-length}
use Rattle.ground.specs.Laws.Tests.{true_yes}
use Rattle.texts.specs.Paper.Hits.{good_pattern}
use Rattle.report.specs.Paper.Report.{given_pattern, given_text, report_of}
use Rattle.report.specs.Helpers.Answers.{start_of_text, answer_for}
use Rattle.report.specs.Laws.Split.{pattern_take, text_drop}
use Rattle.report.specs.Laws.Answer.{report_11, report_4, report_answer}
use Rattle.report.proofs.program.report.Goals as goal

-- an answer that is written is the report
told : (input answer old : List ℕ) {r : ℕ} {out : List ℕ} → report_of input ≡ answer → (r ≡ length answer) × (out ≡ answer ++ drop (length answer) old)
    → (r ≡ length (report_of input)) × (out ≡ report_of input ++ drop (length (report_of input)) old)
told input answer old e w = rw e w

-- the pattern's line, and the text behind it
module _ (input : List ℕ) {end : ℕ} (e : end ≡ length (given_pattern input)) where
  pattern_is : take end input ≡ given_pattern input
  pattern_is = rw e (pattern_take input)

  good_is : {good : _} → good ≡ good_pattern (take end input) → good ≡ good_pattern (given_pattern input)
  good_is g = g ∙ ap good_pattern pattern_is

  module _ {from : ℕ} (f : from ≡ start_of_text end (length input)) where
    text_is : drop from input ≡ given_text input
    text_is = rw (f, e) (text_drop input)

    text_long : length input - from ≡ length (given_text input)
    text_long = sym (length-drop from input) ∙ ap length text_is

    text_lent : take (length input - from) (drop from input) ≡ given_text input
    text_lent = ap₂ take text_long text_is ∙ take-length (given_text input)

pub slice_bounds-good_pattern-end : goal.slice_bounds-good_pattern-end
slice_bounds-good_pattern-end c = sym (length-take-le _ _ c.line_end-end.ensures.within)

pub slice_bounds-answer-end : goal.slice_bounds-answer-end
slice_bounds-answer-end c = sym (length-take-le _ _ c.line_end-end.ensures.within)

pub returns-then-not-good_pattern : goal.returns-then-not-good_pattern
returns-then-not-good_pattern c =
    let input = c.args.input.now in
    let bad = sym (good_is input c.line_end-end.ensures.pattern c.good_pattern.ensures) ∙ c.if-not-good_pattern.true in
    let w = told input _ c.args.out.now (report_11 input bad) (c.refused_out.ensures.length, c.refused_out.ensures.out) in
    record { length = w.0; out = w.1 }

pub returns-then-input-from-gt16384 : goal.returns-then-input-from-gt16384
returns-then-input-from-gt16384 c =
    let input = c.args.input.now in
    let e = c.line_end-end.ensures.pattern in
    let good = sym (good_is input e c.good_pattern.ensures) ∙ c.if-not-good_pattern.false in
    let long : 16384 < length (given_text input) = omega (arith, text_long input e c.text_start-from.ensures.next, c.if-input-from-gt16384.true) in
    let r = c.refused_out-then-input-from-gt16384.ensures in
    let w = told input _ c.args.out.now (report_4 input good long) (r.length, r.out) in
    record { length = w.0; out = w.1 }

pub answer-requires : goal.answer-requires
answer-requires c =
    let input = c.args.input.now in
    let e = c.line_end-end.ensures.pattern in
    let f = c.text_start-from.ensures.next in (
      rw (pattern_is input e) (true_yes _ (sym (good_is input e c.good_pattern.ensures) ∙ c.if-not-good_pattern.false)),
      rw (text_lent input e f) (omega (arith, text_long input e f, c.if-input-from-gt16384.false)),
      search rules,
    )

pub returns : goal.returns
returns c =
    let input = c.args.input.now in
    let e = c.line_end-end.ensures.pattern in
    let f = c.text_start-from.ensures.next in
    let good = sym (good_is input e c.good_pattern.ensures) ∙ c.if-not-good_pattern.false in
    let short : length (given_text input) ≤ 16384 = omega (arith, text_long input e f, c.if-input-from-gt16384.false) in
    let w =
    told input _ c.args.out.now (report_answer input good short ∙ sym (ap₂ answer_for (pattern_is input e) (text_lent input e f))) (c.answer.ensures.length, c.answer.ensures.out) in
    record { length = w.0; out = w.1 }
