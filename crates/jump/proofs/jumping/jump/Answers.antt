-- `jump::jumping::jump` meets its contract.
use Rattle.std.proofs.Common.{pow_pos, refl}
use Rattle.ground.specs.Laws.Rows.{get_or_below}
use Rattle.ground.specs.Paper.Rows.{zeros}
use Rattle.stopper.specs.Laws.Table.{code_width}
use Rattle.jump.specs.Laws.Table.{upto_none}
use Rattle.jump.proofs.jumping.jump.Goals as goal

pub window_of-requires : goal.window_of-requires
window_of-requires c = let good = c.args.searched.now.good in (code_width good.code good.good, c.requires.0)

pub invariant_of-sought : goal.invariant_of-sought
invariant_of-sought c =
    record { below = λ i. get_or_below c.requires.1 (pow_pos c.args.searched.now.good.code.k) i; fits = c.window_of.ensures }

pub fill_table-requires : goal.fill_table-requires
unfolding zeros
fill_table-requires c = upto_none

pub invariant_of-windows : goal.invariant_of-windows
invariant_of-windows c = record { alike = refl; safe = c.fill_table.ensures; ends = λ row e. rw e at c.lasts.ensures }
