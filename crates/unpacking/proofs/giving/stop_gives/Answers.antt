-- `unpacking::giving::stop_gives` meets its contract: the codeword that was the first is the first of the later ones.
use Rattle.std.proofs.Common.{arith}
use Rattle.stopper.specs.Laws.Table.{code_good, code_base}
use Rattle.unpacking.specs.Laws.Gives.{spells_stop}
use Rattle.unpacking.proofs.giving.stop_gives.Goals as goal

pub overflow_cast-times : goal.overflow_cast-times
overflow_cast-times c = omega (arith, c.stoppers_at-times.ensures, (code_good c.args.good.code c.args.good.good).high 0, code_base c.args.good.code c.args.good.good)

pub returns : goal.returns
returns c = λ w l f. rw (c.stoppers_at-times.ensures, c.from.ensures) (spells_stop c.args.good.code c.args.places.now c.args.y c.requires l f)
