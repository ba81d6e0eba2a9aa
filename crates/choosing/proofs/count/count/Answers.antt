-- `choosing::count::count` meets its contract.
use mathlib.Core.Path.{◌∙◌, ap}
use native.Mathlib.Omega.{arith}
use borrow.Author.Tests.{lt-ltb, eq-eqb, ne_eqb}
use lib.ListN.{length}
use Rattle.ground.specs.Paper.Limit.{limit}
use Rattle.ground.specs.Paper.Rows.{zeros}
use Rattle.choosing.specs.Paper.Operations.{count_says}
use Rattle.choosing.specs.Laws.Accepting.{counts_is}
use Rattle.choosing.specs.Laws.Operations.{count_refused, count_yes}
use Rattle.choosing.proofs.count.count.Goals as goal

pub returns-then-counts-ne256 : goal.returns-then-counts-ne256
unfolding count_says
returns-then-counts-ne256 c = count_refused (rw (ne_eqb _ _ c.if-counts-ne256.true))

pub returns-then-most-text : goal.returns-then-most-text
unfolding count_says
returns-then-most-text c =
    let text = c.args.text.now in
    rw c.limit-most.ensures (count_refused (rw (eq-eqb _ _ c.if-counts-ne256.false, lt-ltb limit (length text) (omega (arith, c.limit-most.ensures, c.if-most-text.true)))))

pub tally-requires : goal.tally-requires
tally-requires c =
    (omega (arith, c.limit-most.ensures, c.if-most-text.false), c.clear.ensures ∙ ap zeros c.if-counts-ne256.false)

pub returns : goal.returns
returns c =
    count_yes ((counts_is _ _).0 (c.if-counts-ne256.false, omega (arith, c.limit-most.ensures, c.if-most-text.false))) c.tally.ensures
