-- `judge::judging::stained_by` meets its contract.
use Rattle.std.proofs.Common.{eq-eqb, ne_eqb}
use Rattle.judge.specs.Paper.Judge.{stained_by}
use Rattle.judge.proofs.judging.stained_by.Goals as goal

pub returns-then-symbol-eq0 : goal.returns-then-symbol-eq0
unfolding stained_by
returns-then-symbol-eq0 c = rw (eq-eqb _ _ c.if-symbol-eq0.true)

pub returns-else-symbol-eq0 : goal.returns-else-symbol-eq0
unfolding stained_by
returns-else-symbol-eq0 c = rw (ne_eqb _ _ c.if-symbol-eq0.false)
