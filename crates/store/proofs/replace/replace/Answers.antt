-- `store::replace::replace` meets its contract.
use Rattle.std.proofs.Common.{refl, arith, rules}
use Rattle.sound.specs.Laws.Directory.{right_long}
use Rattle.store.specs.Laws.Located.{run_ordered, run_inside}
use Rattle.store.specs.Laws.Replaced as replaced
use Rattle.store.proofs.replace.replace.Goals as goal

pub replace_symbols-requires : goal.replace_symbols-requires
replace_symbols-requires c = replaced.replaces c.requires

pub overflow_cast-after : goal.overflow_cast-after
overflow_cast-after c = omega (arith, replaced.count_few c.requires)

pub overflow_sub-after : goal.overflow_sub-after
overflow_sub-after c = omega (arith, run_inside c.requires.located)

pub overflow_add-after : goal.overflow_add-after
overflow_add-after c = omega (arith, replaced.symbols_few c.requires)

pub overflow_add-after-2 : goal.overflow_add-after-2
overflow_add-after-2 c = omega (arith, replaced.symbols_few c.requires)

pub overflow_cast-after-2 : goal.overflow_cast-after-2
overflow_cast-after-2 c = omega (arith, replaced.symbols_few c.requires)

pub changed_upto-upto-requires : goal.changed_upto-upto-requires
changed_upto-upto-requires c = let p = c.requires.located in (p.ordered, run_ordered p)

pub mend-requires : goal.mend-requires
mend-requires c =
    let (_, ordered, inside, room, first) = replaced.mends c.requires (replaced.roll_after_lem c.requires refl refl) (replaced.bytes_after_lem c.requires c.replace_symbols.ensures) c.changed_upto-upto.ensures in
    (ordered, inside, room, first)

-- the roll that is left is sound
pub invariant_of-sound : goal.invariant_of-sound
invariant_of-sound c =
    let p = c.requires in
    let (sound, _, _, _, _) = replaced.mends p (replaced.roll_after_lem p refl refl) (replaced.bytes_after_lem p c.replace_symbols.ensures) c.changed_upto-upto.ensures in
    record { sound = sound; places = p.located.held.places; bytes = λ i. search rules }

pub clear_entries-requires : goal.clear_entries-requires
clear_entries-requires c =
    let p = c.requires.located in
    omega (arith, c.entries_for-2.ensures, c.mend.auto.dir, right_long p.held.sound _ p.right)

pub returns : goal.returns
returns c =
    let p = c.requires in
    let after = replaced.roll_after_lem p refl refl in
    let bytes = replaced.bytes_after_lem p c.replace_symbols.ensures in
    record {
      «record» = after;
      bytes = bytes;
      directory = replaced.directory_after_lem p (replaced.mended_upto p after bytes c.changed_upto-upto.ensures c.mend.ensures) c.entries_for.ensures c.entries_for-2.ensures c.clear_entries.ensures;
    }
