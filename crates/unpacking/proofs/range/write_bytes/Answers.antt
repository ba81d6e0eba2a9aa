-- `unpacking::range::write_bytes` meets its contract.
use Rattle.stopper.specs.Laws.Table.{code_width}
use Rattle.unpacking.proofs.range.write_bytes.Goals as goal

pub byte_of-at-requires : goal.byte_of-at-requires
byte_of-at-requires c = code_width c.args.task.now.packed.ranks.good.code c.args.task.now.unpacks.reads.good

pub per_byte-requires : goal.per_byte-requires
per_byte-requires c = code_width c.args.task.now.packed.ranks.good.code c.args.task.now.unpacks.reads.good

pub byte_of-requires : goal.byte_of-requires
byte_of-requires c = code_width c.args.task.now.packed.ranks.good.code c.args.task.now.unpacks.reads.good

pub per_byte-requires-2 : goal.per_byte-requires-2
per_byte-requires-2 c = code_width c.args.task.now.packed.ranks.good.code c.args.task.now.unpacks.reads.good
