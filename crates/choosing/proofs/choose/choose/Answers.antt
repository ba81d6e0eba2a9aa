-- `choosing::choose::choose` meets its contract: the operation's refusals in order, and its acceptance.
use mathlib.Core.Path.{sym, ap, ◌∙◌}
use native.Mathlib.Omega.{arith}
use Rattle.std.proofs.Common.{rules}
use borrow.Author.Tests.{ne_eqb}
use Rattle.ground.specs.Laws.Tests.{true_yes}
use Rattle.choosing.specs.Paper.Operations.{choose_says}
use Rattle.choosing.specs.Helpers.Answers.{count_in}
use Rattle.choosing.specs.Laws.Ranking.{length_ranked}
use Rattle.choosing.specs.Laws.Accepting.{chooses_is}
use Rattle.choosing.specs.Laws.Operations.{choose_refused, raised_ranking, raised_best, choose_yes}
use Rattle.choosing.specs.declared.ranking.Ranking.{Ranking}
use Rattle.choosing.proofs.choose.choose.Goals as goal

pub returns-then-not-good_width : goal.returns-then-not-good_width
unfolding choose_says
returns-then-not-good_width c = choose_refused (rw (sym c.good_width.ensures ∙ c.if-not-good_width.true))

pub returns-then-counts-ne256 : goal.returns-then-counts-ne256
unfolding choose_says
returns-then-counts-ne256 c = choose_refused (rw (sym c.good_width.ensures ∙ c.if-not-good_width.false, ne_eqb _ _ c.if-counts-ne256.true))

pub best_of-best-requires : goal.best_of-best-requires
best_of-best-requires c =
    (true_yes _ (sym c.good_width.ensures ∙ c.if-not-good_width.false), search rules, c.ranking_of-ranking.ensures)

pub overflow_cast-result : goal.overflow_cast-result
overflow_cast-result c =
    omega (arith, ap (λ (x : Ranking). x.sigma) c.ranking_of-ranking.ensures, length_ranked (count_in c.raised_of-raised.result))

pub returns : goal.returns
returns c =
    let counts = c.args.counts.now in
    let good = true_yes _ (sym c.good_width.ensures ∙ c.if-not-good_width.false) in
    choose_yes ((chooses_is _ _).0 (good, c.if-counts-ne256.false))
    (c.ranking_of-ranking.ensures ∙ raised_ranking counts c.raised_of-raised.ensures)
    (c.best_of-best.ensures ∙ raised_best counts c.raised_of-raised.ensures _ good)
