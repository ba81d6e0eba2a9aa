-- `roll::fits::fits` meets its contract.
use Rattle.std.proofs.Common.{◌≡◌, sym, ◌∙◌, true}
use borrow.Author.Tests.{lt-ltb, le-ltb}
use Rattle.stopper.specs.Paper.Table.{good_table}
use Rattle.stopper.specs.Laws.Table.{is_good, table_code, code_width}
use Rattle.roll.specs.Paper.Operations.{fit_says}
use Rattle.roll.proofs.fits.fits.Goals as goal

pub returns-then-not-good_table : goal.returns-then-not-good_table
unfolding fit_says
returns-then-not-good_table c = record { says = rw (sym c.good_table.ensures ∙ c.if-not-good_table.true) }

pub room_of-requires : goal.room_of-requires
room_of-requires c = let t = c.args.roll.table in code_width t.code (table_code t (is_good t (sym c.good_table.ensures ∙ c.if-not-good_table.false)))

pub returns-then-room_of-roll : goal.returns-then-room_of-roll
unfolding fit_says
returns-then-room_of-roll c =
    let good : good_table c.args.roll.table ≡ true = sym c.good_table.ensures ∙ c.if-not-good_table.false in
    record { says = rw (good, lt-ltb _ _ (rw c.room_of.ensures at c.if-room_of-roll.true)) }

pub returns : goal.returns
unfolding fit_says
returns c =
    let good : good_table c.args.roll.table ≡ true = sym c.good_table.ensures ∙ c.if-not-good_table.false in
    record { says = rw (good, le-ltb _ _ (rw c.room_of.ensures at c.if-room_of-roll.false)) }
