-- `stopper::code::length_of` meets its contract.
use Rattle.std.proofs.Common.{sym, ap, ◌∙◌, ◌+◌, arith}
use Rattle.stopper.specs.Laws.Table.{length_place, length_small}
use Rattle.stopper.specs.declared.code.Place.{Place}
use Rattle.stopper.proofs.code.length_of.Goals as goal

pub overflow_add-result : goal.overflow_add-result
overflow_add-result c =
    omega (arith, ap (λ (p : Place). p.at) c.place_of.ensures, length_place c.args.good.code c.args.good.good c.args.rank, length_small c.args.good.code c.args.good.good c.args.rank c.requires)

pub returns : goal.returns
returns c =
    ap (λ (p : Place). p.at + 1) c.place_of.ensures ∙ sym (length_place c.args.good.code c.args.good.good c.args.rank)
