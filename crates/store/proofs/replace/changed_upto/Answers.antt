-- `store::replace::changed_upto` meets its contract.
use Rattle.std.proofs.Common.{eq-eqb, ne_eqb}
use Rattle.store.specs.Helpers.Replacing.{changed_upto}
use Rattle.store.proofs.replace.changed_upto.Goals as goal

pub returns-then-length-run : goal.returns-then-length-run
unfolding changed_upto
returns-then-length-run c = rw (ne_eqb _ _ c.if-length-run.true)

pub returns-then-taken-run : goal.returns-then-taken-run
unfolding changed_upto
returns-then-taken-run c = rw (eq-eqb _ _ c.if-length-run.false, ne_eqb _ _ c.if-taken-run.true)

pub returns : goal.returns
unfolding changed_upto
returns c = rw (eq-eqb _ _ c.if-length-run.false, eq-eqb _ _ c.if-taken-run.false)
