-- `stopper::code::base_of` meets its contract.
use Rattle.std.proofs.Common.{◌≡◌, ⊎_elim}
use Rattle.stopper.specs.Laws.Table.{code_width}
use Rattle.stopper.proofs.code.base_of.Goals as goal

pub returns-else-good-eq2 : goal.returns-else-good-eq2
returns-else-good-eq2 c =
    let e : c.args.good.code.k ≡ 4 = ⊎_elim (λ p. absurd (c.if-good-eq2.false p)) (λ p. p) (code_width c.args.good.code c.args.good.good) in
    rw e
