-- `store::replace::grow` meets its contract.
use Rattle.std.proofs.Common.{◌-◌, arith, rules}
use Rattle.ground.specs.Laws.Rows.{below_all}
use Rattle.store.specs.Laws.Replacing.{grown}
use Rattle.store.proofs.replace.grow.Goals as goal

pub returns : goal.returns
returns c =
    let x = c.args.new.now.run in
    grown c.requires.0
    (below_all 256 _ (λ i. search rules))
    (below_all 256 _ (λ i. (c.type_inv.buf i).fits))
    (c.args.new.now.taken - (x.last - x.first))
    c.up.ensures
    c.write_text.ensures
    c.clear_unused.ensures
    (omega (arith, c.requires.0.ordered, c.requires.1))
