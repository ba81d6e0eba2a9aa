-- `jump::counting::count_near` meets its contract.
use Rattle.stopper.specs.Laws.Table.{code_width}
use Rattle.jump.proofs.counting.count_near.Goals as goal

pub per_byte-requires : goal.per_byte-requires
per_byte-requires c = let s = c.args.searched.now in code_width s.good.code s.good.good
