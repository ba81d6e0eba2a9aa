-- `radio::start::start` meets its contract.
use Rattle.std.proofs.Common.{sym, ◌∙◌, ◌≤◌, arith}
use Rattle.ground.specs.Paper.Limit.{limit}
use Rattle.ground.specs.Laws.Tests.{true_yes}
use Rattle.texts.specs.Laws.Patterns.{pattern_most}
use Rattle.radio.specs.Laws.Operations.{start_refused, start_yes, start_1, start_5, start_11, start_accepted}
use Rattle.radio.proofs.start.start.Goals as goal

pub returns-then-not-good_table : goal.returns-then-not-good_table
returns-then-not-good_table c = start_refused (start_1 _ _ (sym c.good_table.ensures ∙ c.if-not-good_table.true))

pub returns-then-limit-roll : goal.returns-then-limit-roll
returns-then-limit-roll c =
    start_refused (start_5 _ _ (sym c.good_table.ensures ∙ c.if-not-good_table.false) (omega (arith, c.if-limit-roll.true, c.limit.ensures)))

pub returns-then-not-good_pattern : goal.returns-then-not-good_pattern
returns-then-not-good_pattern c =
    let t = sym c.good_table.ensures ∙ c.if-not-good_table.false in
    let h : c.args.roll.h ≤ limit = omega (arith, c.if-limit-roll.false, c.limit.ensures) in
    start_refused (start_11 _ _ t h (sym c.good_pattern.ensures ∙ c.if-not-good_pattern.true))

pub kept_pattern-requires : goal.kept_pattern-requires
kept_pattern-requires c = pattern_most _ (true_yes _ (sym c.good_pattern.ensures ∙ c.if-not-good_pattern.false))

pub overflow_cast-result-2 : goal.overflow_cast-result-2
overflow_cast-result-2 c = omega (arith, pattern_most _ (true_yes _ (sym c.good_pattern.ensures ∙ c.if-not-good_pattern.false)))

pub returns : goal.returns
returns c =
    let t = sym c.good_table.ensures ∙ c.if-not-good_table.false in
    let h : c.args.roll.h ≤ limit = omega (arith, c.if-limit-roll.false, c.limit.ensures) in
    start_yes (start_accepted _ _ t h (sym c.good_pattern.ensures ∙ c.if-not-good_pattern.false)) (rw (c.judge_of.ensures, c.kept_pattern.ensures))
