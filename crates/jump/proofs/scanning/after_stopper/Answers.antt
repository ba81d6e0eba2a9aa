-- `jump::scanning::after_stopper` meets its contract.
use Rattle.std.proofs.Common.{arith}
use Rattle.stopper.specs.Laws.Table.{code_width}
use Rattle.jump.proofs.scanning.after_stopper.Goals as goal

pub get-requires : goal.get-requires
get-requires c = (code_width c.args.good.code c.args.good.good, omega (arith, c.if-a-eq0.false, c.requires))
