-- `store::measure::measure` meets its contract.
use Rattle.std.proofs.Common.{◌≡◌, ap, length, arith, rules}
use Rattle.ground.specs.Laws.Rows.{below_all}
use Rattle.stopper.specs.Laws.Table.{table_code, table_few}
use Rattle.store.specs.Laws.Measured.{measured_none, measured_fits, measured_foreign, measured_over}
use Rattle.store.specs.declared.words.Fit.{Fit}
use Rattle.store.proofs.measure.measure.Goals as goal

pub returns-then-is_empty : goal.returns-then-is_empty
returns-then-is_empty c =
    let none : length c.args.text.now ≡ 0 = search rules in
    measured_none c.args.table c.requires.0 c.args.room c.args.text.now c.args.words.now.symbols none c.requires.1 (search rules)

pub spell_all-requires : goal.spell_all-requires
spell_all-requires c = c.requires.1

-- what is spelled
pub overflow_cast-alphabet : goal.overflow_cast-alphabet
overflow_cast-alphabet c = omega (arith, table_few c.args.table c.requires.0)

pub invariant_of-alphabet : goal.invariant_of-alphabet
invariant_of-alphabet c = record { good = table_code c.args.table c.requires.0 }

pub invariant_of-alphabet-2 : goal.invariant_of-alphabet-2
invariant_of-alphabet-2 c = record { few = table_few c.args.table c.requires.0 }

pub returns-then-text-upto : goal.returns-then-text-upto
returns-then-text-upto c =
    measured_fits c.args.table c.requires.0 c.args.room c.spell_all.ensures (below_all 256 _ (λ i. (c.type_inv.text i).fits)) (ap (λ (x : Fit). x.upto) c.fitting-fit.ensures) (ap (λ (x : Fit). x.taken) c.fitting-fit.ensures) c.if-text-upto.true

pub returns-in-Some : goal.returns-in-Some
returns-in-Some c =
    measured_foreign c.args.table c.requires.0 c.args.room c.spell_all.ensures (below_all 256 _ (λ i. (c.type_inv.text i).fits)) (ap (λ (x : Fit). x.upto) c.fitting-fit.ensures) c.in-Some.ensures.0 c.in-Some.ensures.1

pub returns : goal.returns
returns c =
    measured_over c.args.table c.requires.0 c.args.room c.spell_all.ensures (below_all 256 _ (λ i. (c.type_inv.text i).fits)) (ap (λ (x : Fit). x.upto) c.fitting-fit.ensures) c.if-text-upto.false (omega (arith, c.in_default.ensures))
