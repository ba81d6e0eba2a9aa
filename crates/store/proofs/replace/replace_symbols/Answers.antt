-- `store::replace::replace_symbols` meets its contract.
use Rattle.std.proofs.Common.{arith, rules}
use Rattle.ground.specs.Laws.Rows.{below_all}
use Rattle.store.specs.Laws.Replacing.{even}
use Rattle.store.proofs.replace.replace_symbols.Goals as goal

pub returns : goal.returns
returns c =
    let r = c.requires in
    even r
    (below_all 256 _ (λ i. search rules))
    (below_all 256 _ (λ i. (c.type_inv.buf i).fits))
    c.write_text.ensures
    (omega (arith, r.ordered, c.if-run-new.false, c.if-new-run.false))
