-- `roll::edit::put_in` meets its contract.
use Rattle.std.proofs.Common.{◌≡◌, sym, ap, ◌∙◌, List, [], ◌∷◌, ℕ, ◌+◌, ◌-◌, ◌≤◌, ◌*◌, length, arith}
use borrow.Author.Tests.{lt-ltb, le-ltb}
use lib.Dec.{ltb}
use Rattle.ground.specs.Helpers.Bound.{limit_bound}
use Rattle.ground.specs.Paper.Refusals.{refuse, refused, judged}
use Rattle.symbols.specs.Paper.Symbols.{room}
use Rattle.texts.specs.Paper.Directory.{entries}
use Rattle.texts.specs.Paper.Edited.{edited}
use Rattle.sound.specs.Paper.Roll.{text_of}
use Rattle.sound.specs.declared.records.Roll.{Roll}
use Rattle.store.specs.Helpers.Measured.{Spelled}
use Rattle.store.specs.Helpers.Replacing.{Located}
use Rattle.store.specs.Laws.Located.{run_inside, count_after}
use Rattle.store.specs.Laws.Changing.{count_few, over_tail, over_tail_within, over_none}
use Rattle.store.specs.declared.replace.Run.{Run}
use Rattle.roll.specs.Paper.Operations.{edit_says}
use Rattle.roll.specs.Laws.Operations.{change_refused, change_4, edit_last, change_yes}
use Rattle.roll.proofs.edit.put_in.Goals as goal

module _ {r : Roll} {buf dir lengths words text : List ℕ} {run : Run} {taken : ℕ} (p : Located r buf dir run) (s : Spelled r.table lengths words text taken)
    (h : run.first + taken ≤ room r.table.code.k (length buf)) where
  -- the room that is left
  module _ {whole : ℕ} (e : whole ≡ room r.table.code.k (length buf)) where
    rest : whole - (run.first + taken) ≡ room r.table.code.k (length buf) - (run.first + taken)
    rest = ap (λ (n : ℕ). n - (run.first + taken)) e

    few : run.start + length text + (r.n - run.end) ≤ 3 * limit_bound
    few = count_few p s h rest

    -- the last row decides
    decided : r.h - run.last ≤ whole - (run.first + taken) → let least = entries (length (edited (text_of r buf) run.start run.end text)) in
        edit_says r buf dir run.start run.end text ≡ judged (refuse 12 least (ltb (length dir) least) ∷ []) tt
    decided k = edit_last _ _ _ _ p.held.sound p.right p.ordered p.inside s.known (over_none p s h rest k)

  -- the entries that the edited text needs
  needed : {n : ℕ} → n ≡ entries (run.start + length text + (r.n - run.end)) → n ≡ entries (length (edited (text_of r buf) run.start run.end text))
  needed e = e ∙ ap entries (sym (count_after p text))

pub overflow_sub-roll : goal.overflow_sub-roll
overflow_sub-roll c = omega (arith, run_inside c.requires.0)

pub overflow_add-place-then-left-roll : goal.overflow_add-place-then-left-roll
overflow_add-place-then-left-roll c =
    let p = c.requires in
    let e = rest p.0 p.1 p.2 c.room_of.ensures in
    omega (arith, over_tail_within p.0 p.1 p.2 e c.if-left-roll.true c.first_over-over.ensures, count_after p.0 c.args.new.now.text.now, few p.0 p.1 p.2 c.room_of.ensures)

pub returns-then-left-roll : goal.returns-then-left-roll
returns-then-left-roll c =
    let p = c.requires in
    let e = rest p.0 p.1 p.2 c.room_of.ensures in
    change_4 _ _ _ _ p.0.held.sound p.0.right p.0.ordered p.0.inside p.1.known
    (over_tail p.0 p.1 p.2 e c.if-left-roll.true c.first_over-over.ensures)
    (over_tail_within p.0 p.1 p.2 e c.if-left-roll.true c.first_over-over.ensures)

pub overflow_cast-count-2 : goal.overflow_cast-count-2
overflow_cast-count-2 c = let p = c.requires in omega (arith, few p.0 p.1 p.2 c.room_of.ensures)

pub returns-then-dir-needed : goal.returns-then-dir-needed
returns-then-dir-needed c =
    let p = c.requires in
    let e = needed p.0 p.1 p.2 c.entries_for-needed.ensures in
    change_refused (decided p.0 p.1 p.2 c.room_of.ensures c.if-left-roll.false ∙ rw (lt-ltb _ _ (rw e at c.if-dir-needed.true)) (ap (λ (v : ℕ). refused 12 v) (sym e)))

pub returns : goal.returns
returns c =
    let p = c.requires in
    let e = needed p.0 p.1 p.2 c.entries_for-needed.ensures in
    let made = c.replace.ensures in
    change_yes (decided p.0 p.1 p.2 c.room_of.ensures c.if-left-roll.false ∙ rw (le-ltb _ _ (rw e at c.if-dir-needed.false))) made.«record» made.bytes made.directory
