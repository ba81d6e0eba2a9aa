-- `radio::finish::finish` meets its contract.
use Rattle.std.proofs.Common.{◌∙◌}
use Rattle.ground.specs.Laws.Answers.{says_as}
use Rattle.radio.specs.Paper.Operations.{finish_says}
use Rattle.radio.proofs.finish.finish.Goals as goal

pub returns-in-Err : goal.returns-in-Err
unfolding finish_says
returns-in-Err c = record { says = rw (says_as c.kept.ensures.says c.in-Err.is) }

pub returns : goal.returns
unfolding finish_says
returns c = record { says = c.verdict.ensures.says ∙ rw (says_as c.kept.ensures.says c.in_default.is) }
