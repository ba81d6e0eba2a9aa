-- `roll::pack::pack` meets its contract.
use Rattle.std.proofs.Common.{◌≡◌, sym, subst, ◌∙◌, true, List, ℕ, length, Ok, Err, Result, le_of_eq, arith}
use Rattle.std.proofs.lemmas.Result.{err_from_is_err_and}
use borrow.Author.Tests.{lt-ltb, le-ltb}
use Rattle.ground.specs.declared.refusal.Refusal.{Refusal}
use Rattle.stopper.specs.Paper.Table.{good_table, characters}
use Rattle.stopper.specs.Laws.Table.{is_good, table_code, code_width}
use Rattle.stopper.specs.declared.table.Table.{Table}
use Rattle.symbols.specs.Paper.Symbols.{room}
use Rattle.texts.specs.Laws.Characters.{foreign_known}
use Rattle.store.specs.Helpers.Measured.{Measured, refused_for}
use Rattle.store.specs.declared.measure.Misfit.{Misfit}
use Rattle.store.specs.declared.measure.Misfit.TheVariants.{Foreign, Over}
use Rattle.roll.specs.Paper.Operations.{pack_says, Packing}
use Rattle.roll.specs.Laws.Operations.{pack_refused, pack_yes}
use Rattle.roll.proofs.pack.pack.Goals as goal

-- what measuring answers, under the room of the buffer
measured : (t : Table) (text buf : List ℕ) (lengths words : List ℕ) {n : ℕ} (r : Result ℕ Misfit) → n ≡ room t.code.k (length buf) → Measured t n text lengths words r
    → Measured t (room t.code.k (length buf)) text lengths words r
measured t text buf lengths words r e m = subst (λ (n : ℕ). Measured t n text lengths words r) e m

-- a text that does not fit is refused
misfit : (t : Table) (text : List ℕ) {buf : List ℕ} (lengths words : List ℕ) (m : Misfit) {e : Refusal} → good_table t ≡ true → Measured t (room t.code.k (length buf)) text lengths words (Err m)
    → refused_for m e → Packing t text buf (Err e) buf
unfolding Measured pack_says
misfit t text lengths words (Foreign v) g d q = rw q (pack_refused (rw (d.0, g, lt-ltb _ _ (rw d.0 at d.1))))
misfit t text lengths words (Over v) g d q = rw q (pack_refused (rw (d.1, g, le-ltb _ _ (le_of_eq (sym d.0)), lt-ltb _ _ (rw d.1 at d.2))))

pub returns-then-not-good_table : goal.returns-then-not-good_table
unfolding pack_says
returns-then-not-good_table c = pack_refused (rw (sym c.good_table.ensures ∙ c.if-not-good_table.true))

pub room_of-room-requires : goal.room_of-room-requires
room_of-room-requires c =
    let t = c.args.table in
    code_width t.code (table_code t (is_good t (sym c.good_table.ensures ∙ c.if-not-good_table.false)))

pub measure-requires : goal.measure-requires
measure-requires c = (is_good _ (sym c.good_table.ensures ∙ c.if-not-good_table.false), c.new-words.ensures)

pub returns-in_err-taken : goal.returns-in_err-taken
returns-in_err-taken c =
    let p = err_from_is_err_and c.from_residual.result c.from_residual.ensures.1 in
    let g : good_table c.args.table ≡ true = sym c.good_table.ensures ∙ c.if-not-good_table.false in
    rw p.1 (misfit c.args.table c.args.text.now _ _ _ g (measured c.args.table c.args.text.now c.args.buf.now c.measure.new.words.lengths c.measure.new.words.symbols (Err _) c.room_of-room.ensures c.in_err-taken.ensures) p.2)

pub store_text-requires : goal.store_text-requires
unfolding Measured
store_text-requires c =
    let m = measured c.args.table c.args.text.now c.args.buf.now c.measure.new.words.lengths c.measure.new.words.symbols (Ok _) c.room_of-room.ensures c.in_ok-taken.ensures in
    (is_good c.args.table (sym c.good_table.ensures ∙ c.if-not-good_table.false), m.0, m.1)

pub returns : goal.returns
unfolding Measured
returns c =
    let t = c.args.table in
    let m = measured c.args.table c.args.text.now c.args.buf.now c.measure.new.words.lengths c.measure.new.words.symbols (Ok _) c.room_of-room.ensures c.in_ok-taken.ensures in
    pack_yes
    (record {
      good = is_good t (sym c.good_table.ensures ∙ c.if-not-good_table.false);
      known = foreign_known (characters t) c.args.text.now m.0.known;
      fits = omega (arith, m.0.count, m.1);
    })
    c.store_text.ensures.record
    c.store_text.ensures.bytes
