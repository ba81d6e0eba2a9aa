-- `store::replace::shrink` meets its contract.
use Rattle.std.proofs.Common.{◌-◌, arith, rules}
use Rattle.ground.specs.Laws.Rows.{below_all}
use Rattle.store.specs.Laws.Replacing.{shrunk}
use Rattle.store.proofs.replace.shrink.Goals as goal

pub returns : goal.returns
returns c =
    shrunk c.requires.0
    (below_all 256 _ (λ i. search rules))
    (below_all 256 _ (λ i. (c.type_inv.buf i).fits))
    (c.args.new.now.run.last - c.args.new.now.run.first - c.args.new.now.taken)
    c.down.ensures
    c.write_text.ensures
    c.clear.ensures
    (omega (arith, c.requires.0.ordered, c.requires.1))
