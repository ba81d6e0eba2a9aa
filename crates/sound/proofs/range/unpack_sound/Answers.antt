-- `sound::range::unpack_sound` meets its contract: from where character `start` starts the roll gives its ranks from that one on.
use Rattle.std.proofs.Common.{◌≡◌, sym, ap, ◌∙◌, List, ◌++◌, map, ℕ, ◌-◌, ◌≤◌, length, take, drop, get_or, arith}
use Prim.Native.Nat.{zero-le}
use lib.ListN.{length-drop}
use Rattle.ground.specs.Laws.Rows.{map_drop}
use Rattle.stopper.specs.Paper.Reading.{done}
use Rattle.stopper.specs.Laws.Table.{table_few}
use Rattle.texts.specs.Paper.Directory.{start_at}
use Rattle.reading.specs.Paper.Reading.{ranks_read}
use Rattle.reading.specs.Laws.Reading.{done_whole, done_ranks}
use Rattle.sound.specs.Paper.Roll.{reading_from, reading, text_of, Sound}
use Rattle.sound.specs.Paper.Lengths.{lengths_of}
use Rattle.sound.specs.Helpers.Ends.{end_from}
use Rattle.sound.specs.Laws.Sound.{sound_code, sound_reads, sound_start, sound_from}
use Rattle.sound.specs.Laws.Ends.{sound_end, sound_first}
use Rattle.sound.specs.declared.records.Roll.{Roll}
use Rattle.sound.proofs.range.unpack_sound.Goals as goal

-- symbol `first` is where character `start` starts
module _ {r : Roll} {buf : List ℕ} (s : Sound r buf) (start : ℕ) (h : start ≤ r.n) {first : ℕ} (e : first ≡ end_from r.table.code buf 0 start) where
  first_is : first ≡ start_at (lengths_of r buf) start
  first_is = e ∙ sound_end s start h

  reads_is : reading_from r buf first ≡ done (drop start (ranks_read (reading r buf)))
  reads_is = ap (reading_from r buf) first_is ∙ sound_from s start

pub pass_first-first-requires : goal.pass_first-first-requires
pass_first-first-requires c = sound_first c.args.sound.now.sound c.args.start (omega (arith, c.requires.0, c.requires.1))

pub unpack_each-requires : goal.unpack_each-requires
unpack_each-requires c =
    let (ordered, inside, room) = c.requires in
    (ordered, inside, room, first_is c.args.sound.now.sound c.args.start (omega (arith, ordered, inside)) c.pass_first-first.ensures)

-- what is read
pub overflow_cast-packed : goal.overflow_cast-packed
overflow_cast-packed c = omega (arith, table_few c.args.sound.now.roll.table c.args.sound.now.sound.table)

pub invariant_of-packed : goal.invariant_of-packed
invariant_of-packed c = record { good = sound_code c.args.sound.now.sound }

pub invariant_of-packed-else-end-start-lt-FEW : goal.invariant_of-packed-else-end-start-lt-FEW
invariant_of-packed-else-end-start-lt-FEW c = record { few = table_few c.args.sound.now.roll.table c.args.sound.now.sound.table }

pub invariant_of-packed-else-end-start-lt-FEW-2 : goal.invariant_of-packed-else-end-start-lt-FEW-2
invariant_of-packed-else-end-start-lt-FEW-2 c = let reads = sound_reads c.args.sound.now.sound 0 zero-le in record { held = reads.held; small = reads.small }

-- from symbol `first` on there are so many codewords, all good
pub invariant_of-task : goal.invariant_of-task
unfolding reading_from
invariant_of-task c =
    let s = c.args.sound.now.sound in
    let (ordered, inside, _) = c.requires in
    let h : c.args.start ≤ c.args.sound.now.roll.n = omega (arith, ordered, inside) in
    let reads = reads_is s c.args.start h c.pass_first-first.ensures in
    record {
      unpacks = record {
        reads = sound_reads s c.pass_first-first.result (omega (arith, first_is s c.args.start h c.pass_first-first.ensures, sound_start s c.args.start));
        whole = done_whole reads;
        enough = omega (arith, ap length (done_ranks reads), length-drop c.args.start (ranks_read (reading c.args.sound.now.roll c.args.sound.now.buf.now)), s.count, inside);
      };
    }

pub unpack_from-requires : goal.unpack_from-requires
unpack_from-requires c = c.requires.2

pub returns-else-end-start-lt-FEW : goal.returns-else-end-start-lt-FEW
unfolding text_of reading_from
returns-else-end-start-lt-FEW c =
    let s = c.args.sound.now.sound in
    let h : c.args.start ≤ c.args.sound.now.roll.n = omega (arith, c.requires.0, c.requires.1) in
    let m = c.args.end - c.args.start in
    let character : ℕ → ℕ = λ rank. get_or c.args.sound.now.roll.table.places rank 0 in
    c.unpack_from.ensures
    ∙ ap (λ (l : List ℕ). take m l ++ drop m c.args.out.now)
    (ap (map character) (done_ranks (reads_is s c.args.start h c.pass_first-first.ensures)) ∙ sym (map_drop character c.args.start (ranks_read (reading c.args.sound.now.roll c.args.sound.now.buf.now))))
