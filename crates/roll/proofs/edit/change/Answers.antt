-- `roll::edit::change` meets its contract.
use Rattle.std.proofs.Common.{◌≡◌, subst, List, ℕ, ◌+◌, ◌-◌, ◌*◌, ◌≤◌, length, Result, Ok, Err, arith, rules}
use borrow.Author.Tests.{lt-ltb, le-ltb}
use Rattle.ground.specs.Helpers.Bound.{limit_bound}
use Rattle.ground.specs.declared.refusal.Refusal.TheVariants.{NotInTable, NoRoom}
use Rattle.symbols.specs.Paper.Symbols.{room}
use Rattle.texts.specs.Paper.Directory.{start_at}
use Rattle.sound.specs.Paper.Lengths.{lengths_of, Right}
use Rattle.sound.specs.Paper.Roll.{Sound}
use Rattle.sound.specs.Laws.Sound.{sound_width}
use Rattle.sound.specs.declared.records.Roll.{Roll}
use Rattle.store.specs.Helpers.Measured.{Measured}
use Rattle.store.specs.Helpers.Replacing.{Located}
use Rattle.store.specs.Laws.Changing.{first_room, over_text, over_text_few, over_text_within}
use Rattle.store.specs.declared.measure.Misfit.{Misfit}
use Rattle.store.specs.declared.measure.Misfit.TheVariants.{Foreign, Over}
use Rattle.roll.specs.Paper.Operations.{edit_says}
use Rattle.roll.specs.Helpers.Refused.{Changing}
use Rattle.roll.specs.Laws.Accepting.{right_accepted}
use Rattle.roll.specs.Laws.Operations.{change_refused, change_4}
use Rattle.roll.proofs.edit.change.Goals as goal

module _ {r : Roll} {buf dir : List ℕ} {start end first last : ℕ} (p : Located r buf dir (record { start = start; end = end; first = first; last = last })) (text : List ℕ) where
  -- what measuring answers, under the room from the run's first symbol on
  measured : {n : ℕ} (lengths words : List ℕ) (x : Result ℕ Misfit) → n ≡ room r.table.code.k (length buf) → Measured r.table (n - first) text lengths words x
      → Measured r.table (room r.table.code.k (length buf) - first) text lengths words x
  measured lengths words x e m = subst (λ (n : ℕ). Measured r.table (n - first) text lengths words x) e m

  foreign : {n : ℕ} (lengths words : List ℕ) {v : ℕ} → n ≡ room r.table.code.k (length buf) → Measured r.table (n - first) text lengths words (Err (Foreign v))
      → Changing r buf dir start end text (Err (NotInTable v)) buf dir
  unfolding Measured edit_says
  foreign lengths words e m =
      change_refused (rw (m.0, right_accepted _ _ _ p.held.sound p.right, le-ltb _ _ p.ordered, le-ltb _ _ p.inside, lt-ltb _ _ (rw m.0 at m.1)))

  module _ {n : ℕ} (lengths words : List ℕ) (v : ℕ) (e : n ≡ room r.table.code.k (length buf)) (m : Measured r.table (n - first) text lengths words (Err (Over v))) where
    over_few : start + v ≤ 2 * limit_bound
    unfolding Measured
    over_few = let q = measured lengths words (Err (Over v)) e m in over_text_few p text q.1 q.2

    over : Changing r buf dir start end text (Err (NoRoom (start + v))) buf dir
    unfolding Measured
    over =
        let q = measured lengths words (Err (Over v)) e m in
        change_4 _ _ _ _ p.held.sound p.right p.ordered p.inside q.0 (over_text p text q.1 q.2) (over_text_within p text q.1 q.2)

-- the run, by where its ends start
run : {r : Roll} {buf dir : List ℕ} {start end first last : ℕ} → Sound r buf × Right r buf dir × (start ≤ end) × (end ≤ r.n) → length r.table.places ≡ 256
    → first ≡ start_at (lengths_of r buf) start → last ≡ start_at (lengths_of r buf) end → Located r buf dir (record { start = start; end = end; first = first; last = last })
run (sound, right, ordered, inside) places from upto = record {
  held = record { sound = sound; places = places };
  right = right;
  ordered = ordered;
  inside = inside;
  from = from;
  upto = upto;
}

pub room_of-requires : goal.room_of-requires
room_of-requires c = sound_width c.requires.0

pub overflow_sub-space : goal.overflow_sub-space
overflow_sub-space c =
    let places : length c.args.roll.table.places ≡ 256 = search rules in
    omega (arith, c.room_of.ensures, first_room (run c.requires places c.start_of-first.ensures c.start_of-last.ensures))

pub measure-requires : goal.measure-requires
measure-requires c = (c.requires.0.table, c.new-words.ensures)

pub returns-in-Err-Foreign : goal.returns-in-Err-Foreign
returns-in-Err-Foreign c =
    let places : length c.args.roll.table.places ≡ 256 = search rules in
    let p = run c.requires places c.start_of-first.ensures c.start_of-last.ensures in
    let m = c.measure.new.words in
    rw c.in-Err-Foreign.place-is (foreign p c.args.text.now m.lengths m.symbols c.room_of.ensures (rw c.in-Err-Foreign.field-0-is at c.in-Err-Foreign.ensures))

pub overflow_add-result : goal.overflow_add-result
overflow_add-result c =
    let places : length c.args.roll.table.places ≡ 256 = search rules in
    let p = run c.requires places c.start_of-first.ensures c.start_of-last.ensures in
    let m = c.measure.new.words in
    omega (arith, c.in-Err-Over.upto-is, over_few p c.args.text.now m.lengths m.symbols c.in-Err-Over.upto c.room_of.ensures (rw c.in-Err-Over.field-0-is at c.in-Err-Over.ensures))

pub returns-in-Err-Over : goal.returns-in-Err-Over
returns-in-Err-Over c =
    let places : length c.args.roll.table.places ≡ 256 = search rules in
    let p = run c.requires places c.start_of-first.ensures c.start_of-last.ensures in
    let m = c.measure.new.words in
    rw c.in-Err-Over.upto-is (over p c.args.text.now m.lengths m.symbols c.in-Err-Over.upto c.room_of.ensures (rw c.in-Err-Over.field-0-is at c.in-Err-Over.ensures))

pub put_in-requires : goal.put_in-requires
unfolding Measured
put_in-requires c =
    let places : length c.args.roll.table.places ≡ 256 = search rules in
    let p = run c.requires places c.start_of-first.ensures c.start_of-last.ensures in
    let q = measured p c.args.text.now c.measure.new.words.lengths c.measure.new.words.symbols (Ok _) c.room_of.ensures c.in-Ok.ensures in
    (p, q.0, omega (arith, q.1, first_room p))
