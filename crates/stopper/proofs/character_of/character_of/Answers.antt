-- `stopper::character_of::character_of` meets its contract.
use Rattle.std.proofs.Common.{◌≡◌, sym, ◌∙◌, true, arith}
use borrow.Author.Tests.{lt-leb}
use Rattle.stopper.specs.Paper.Table.{good_table}
use Rattle.stopper.specs.Paper.Operations.{word_in, character_says}
use Rattle.stopper.specs.Laws.Table.{is_good, table_code, table_few}
use Rattle.stopper.specs.Laws.Operations.{rank_below, character_none, character_read}
use Rattle.stopper.proofs.character_of.character_of.Goals as goal

pub returns-then-not-good_table : goal.returns-then-not-good_table
unfolding character_says
returns-then-not-good_table c = record { says = rw (sym c.good_table.ensures ∙ c.if-not-good_table.true) }

pub returns-then-word-gt-LONGEST : goal.returns-then-word-gt-LONGEST
unfolding character_says
returns-then-word-gt-LONGEST c =
    let g : good_table c.args.table ≡ true = sym c.good_table.ensures ∙ c.if-not-good_table.false in
    record { says = rw (g, lt-leb _ _ c.if-word-gt-LONGEST.true) }

pub invariant_of-ranks : goal.invariant_of-ranks
invariant_of-ranks c = record { good = table_code c.args.table (is_good c.args.table (sym c.good_table.ensures ∙ c.if-not-good_table.false)) }

pub invariant_of-ranks-2 : goal.invariant_of-ranks-2
invariant_of-ranks-2 c = record { few = table_few c.args.table (is_good c.args.table (sym c.good_table.ensures ∙ c.if-not-good_table.false)) }

pub rank_of_word-requires : goal.rank_of_word-requires
rank_of_word-requires c = c.if-word-gt-LONGEST.false

pub bounds-table-rank : goal.bounds-table-rank
bounds-table-rank c =
    let t = c.args.table in
    let g = is_good t (sym c.good_table.ensures ∙ c.if-not-good_table.false) in
    omega (arith, table_few t g, rank_below t.code t.sigma (word_in c.args.word) (sym c.in-Some.is ∙ c.rank_of_word.ensures))

pub returns-in-Some : goal.returns-in-Some
returns-in-Some c =
    record { says = sym (character_read _ _ (sym c.good_table.ensures ∙ c.if-not-good_table.false) c.if-word-gt-LONGEST.false (sym c.in-Some.is ∙ c.rank_of_word.ensures)) }

pub returns-in-None : goal.returns-in-None
returns-in-None c =
    record { says = sym (character_none _ _ (sym c.good_table.ensures ∙ c.if-not-good_table.false) c.if-word-gt-LONGEST.false (sym c.in-None.is ∙ c.rank_of_word.ensures)) }
