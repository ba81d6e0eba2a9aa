-- `store::fresh::store_text` meets its contract.
use Rattle.std.proofs.Common.{ℕ, ◌≤◌, List, length, T, arith, rules}
use Rattle.ground.specs.Helpers.Bound.{limit_bound}
use Rattle.ground.specs.Laws.Limit.{limit_fits}
use Rattle.ground.specs.Laws.Rows.{below_all}
use Rattle.stopper.specs.Paper.Table.{good_table, characters}
use Rattle.stopper.specs.Laws.Table.{table_code}
use Rattle.stopper.specs.declared.table.Table.{Table}
use Rattle.symbols.specs.Paper.Symbols.{room, symbols_of}
use Rattle.symbols.specs.Laws.Rows.{room_row, symbols_even}
use Rattle.symbols.specs.Laws.Sizes.{room_limit}
use Rattle.sound.specs.Laws.Texts.{text_below}
use Rattle.store.specs.Helpers.Measured.{Spelled}
use Rattle.store.specs.Helpers.Words.{Laid}
use Rattle.store.specs.Laws.Words.{row_count}
use Rattle.store.specs.Laws.Replacing.{packed_front}
use Rattle.store.proofs.fresh.store_text.Goals as goal

module _ {table : Table} {lengths words text : List ℕ} (buf : List ℕ) {taken : ℕ} (good : T (good_table table)) (spelled : Spelled table lengths words text taken) (fits : taken ≤ room table.code.k (length buf)) where
  held : taken ≤ length (symbols_of table.code.k buf)
  held = room_row table.code.k buf taken fits

  few : taken ≤ limit_bound
  few = omega (arith, room_limit table.code.k (length buf), limit_fits)

  laid : Laid table.code.k lengths words text buf 0
  laid = record { laid = spelled.laid; fits = rw spelled.row (omega (arith, spelled.count, held)); counts = rw spelled.row (omega (arith, spelled.count, few)) }

  count_few : length text ≤ limit_bound
  count_few = omega (arith, row_count table.code (table_code table good) (characters table) text, spelled.count, few)

pub write_text-requires : goal.write_text-requires
write_text-requires c = laid c.args.buf.now c.requires.0 c.requires.1 c.requires.2

pub clear_unused-requires : goal.clear_unused-requires
clear_unused-requires c =
    let e = symbols_even c.args.table.code.k c.write_text.new.buf c.args.buf.now c.write_text.auto.buf in
    (c.requires.1.laid.width, omega (arith, e, held c.args.buf.now c.requires.0 c.requires.1 c.requires.2), few c.args.buf.now c.requires.0 c.requires.1 c.requires.2)

pub overflow_cast-result : goal.overflow_cast-result
overflow_cast-result c = omega (arith, count_few c.args.buf.now c.requires.0 c.requires.1 c.requires.2)

pub overflow_cast-result-2 : goal.overflow_cast-result-2
overflow_cast-result-2 c = omega (arith, few c.args.buf.now c.requires.0 c.requires.1 c.requires.2)

pub returns-clause-bytes : goal.returns-clause-bytes
returns-clause-bytes c =
    let t = c.args.table in
    packed_front c.requires.1.laid.width (text_below t.code (table_code t c.requires.0) (characters t) c.args.text.now)
    (below_all 256 _ (λ i. search rules))
    (below_all 256 _ (λ i. (c.type_inv.buf i).fits))
    c.write_text.ensures
    c.requires.1.row
    c.requires.1.count
    c.clear_unused.ensures
