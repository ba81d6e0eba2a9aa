-- `stopper::codeword_of::codeword_of` meets its contract.
use Rattle.std.proofs.Common.{◌≡◌, sym, ◌∙◌, true, Some, ltb→lt, length, ℕ, ◌<◌, arith, rules}
use lib.Seq.{length-take-le}
use Rattle.ground.specs.Paper.Rows.{zeros}
use Rattle.ground.specs.Laws.Tests.{true_yes}
use Rattle.stopper.specs.Paper.Table.{good_table, characters}
use Rattle.stopper.specs.Paper.Operations.{codeword_says}
use Rattle.stopper.specs.Laws.Table.{is_good, table_code, table_few, length_small}
use Rattle.stopper.specs.Laws.Characters.{has_rank}
use Rattle.stopper.specs.Laws.Accepting.{codes_is}
use Rattle.stopper.specs.Laws.Operations.{ranked_some, ranked_none, codeword_refused, codeword_yes}
use Rattle.stopper.specs.declared.table.Table.{Table}
use Rattle.stopper.specs.Helpers.Answers.{ranked_in}
use Rattle.stopper.proofs.codeword_of.codeword_of.Goals as goal

-- the rank of a character of a good table
small : (t : Table) (b : ℕ) {r : ℕ} → good_table t ≡ true → length t.places ≡ 256 → Some r ≡ ranked_in (characters t) b → r < 256
small t b g long e =
    let (h, r) = ranked_some (characters t) b e in
    let few = table_few t (is_good t g) in
    omega (arith, r, few, length-take-le t.sigma t.places (omega (arith, long, few)), ltb→lt _ _ (true_yes _ (sym (has_rank (characters t) b) ∙ h)))

pub returns-then-not-good_table : goal.returns-then-not-good_table
unfolding codeword_says
returns-then-not-good_table c = codeword_refused (rw (sym c.good_table.ensures ∙ c.if-not-good_table.true))

pub rank_of-requires : goal.rank_of-requires
rank_of-requires c = let t = c.args.table in table_few t (is_good t (sym c.good_table.ensures ∙ c.if-not-good_table.false))

pub returns-in_default : goal.returns-in_default
unfolding codeword_says
returns-in_default c =
    let t = c.args.table in
    let g : good_table t ≡ true = sym c.good_table.ensures ∙ c.if-not-good_table.false in
    codeword_refused (rw (g, ranked_none (characters t) c.args.character c.in_default.ensures))

pub overflow_cast-rank : goal.overflow_cast-rank
overflow_cast-rank c =
    omega (arith, small c.args.table c.args.character (sym c.good_table.ensures ∙ c.if-not-good_table.false) (search rules) c.in-Some.ensures)

pub invariant_of-spell_word : goal.invariant_of-spell_word
invariant_of-spell_word c = record { good = table_code c.args.table (is_good c.args.table (sym c.good_table.ensures ∙ c.if-not-good_table.false)) }

pub spell_word-length-requires : goal.spell_word-length-requires
spell_word-length-requires c =
    let t = c.args.table in
    let g : good_table t ≡ true = sym c.good_table.ensures ∙ c.if-not-good_table.false in
    let h : c.in-Some.rank < 256 = small t c.args.character g (search rules) c.in-Some.ensures in
    let code = table_code t (is_good t g) in
    (h, length_small t.code code c.in-Some.rank h)

pub returns : goal.returns
unfolding zeros
returns c =
    let t = c.args.table in
    let g : good_table t ≡ true = sym c.good_table.ensures ∙ c.if-not-good_table.false in
    let (here, rank) = ranked_some (characters t) c.args.character c.in-Some.ensures in
    codeword_yes ((codes_is _ _).0 (true_yes _ g, true_yes _ here)) rank c.spell_word-length.ensures.length c.spell_word-length.ensures.symbols
