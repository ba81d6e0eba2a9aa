-- `judge::bounds::judge_bounds` meets its contract.
use Rattle.stopper.specs.Laws.Table.{code_width, table_code}
use Rattle.judge.specs.Paper.Judge.{judge_bounds}
use Rattle.judge.proofs.bounds.judge_bounds.Goals as goal

pub place_in_byte-whole-requires : goal.place_in_byte-whole-requires
place_in_byte-whole-requires c = let t = c.args.judge.roll.table in code_width t.code (table_code t c.requires)

pub returns : goal.returns
unfolding judge_bounds
returns c = rw c.place_in_byte-whole.ensures
