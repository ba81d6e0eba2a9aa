-- `store::mending::mend_entries` meets its contract: each entry is where its codeword starts.
use Rattle.std.proofs.Common.{◌≡◌, sym, ap, ap₂, ◌∙◌, ℕ, ◌+◌, ◌-◌, ◌*◌, ◌^◌, ◌≤◌, ◌<◌, List, length, set, arith}
use Rattle.ground.specs.Helpers.Moved.{laid}
use Rattle.ground.specs.Laws.Rows.{length_tab}
use Rattle.ground.specs.Laws.Runs.{laid_none, laid_more}
use Rattle.texts.specs.Paper.Directory.{entries}
use Rattle.texts.specs.Laws.Directory.{entries_upto, entries_before, entries_behind}
use Rattle.sound.specs.Helpers.Ends.{Ending, end_from}
use Rattle.sound.specs.Paper.Roll.{Sound}
use Rattle.sound.specs.Laws.Sound.{sound_code, sound_reads, sound_start}
use Rattle.sound.specs.Laws.Ends.{sound_end}
use Rattle.sound.specs.Laws.Directory.{sound_few, by_stops, stops_entry, stops_laid, entry_ending, entry_ends}
use Rattle.sound.specs.declared.records.Roll.{Roll}
use Rattle.store.proofs.mending.mend_entries.Invariants.{Before}
use Rattle.store.proofs.mending.mend_entries.Goals as goal

-- entry e is that of a character before `upto`
before_upto : {upto last e : ℕ} → last ≡ entries upto → e < last → e * 32 < upto
before_upto {upto} is h = entries_before upto (omega arith)

module _ {roll : Roll} {buf old dir : List ℕ} {from upto e j p : ℕ} (sound : Sound roll buf) (few : upto ≤ roll.n) (before : Before roll.table.code buf old from upto e j p dir) {last : ℕ} (last_is : last ≡ entries upto)
    (h : e < last) where
  inside : e * 32 ≤ roll.n
  inside = omega (arith, before_upto last_is h)

  ending : Ending roll.table.code buf p (e * 32 - j)
  ending = entry_ending sound j e before.ordered inside before.starts

  -- the symbol where its codeword starts
  module _ {next : ℕ} (next_is : next ≡ end_from roll.table.code buf p (e * 32 - j)) where
    starts : next ≡ end_from roll.table.code buf 0 (e * 32)
    starts = next_is ∙ entry_ends sound j e before.ordered inside before.starts

    small : next < 2 ^ 32
    small = omega (arith, starts, sound_end sound (e * 32) inside, sound_start sound (e * 32), (sound_reads sound 0 (omega arith)).small)

    more : entries from ≤ e → entries upto ≤ length old → Before roll.table.code buf old from upto (e + 1) (e * 32) next (set dir e next)
    more from_le room =
        let wanted = by_stops roll.table.code buf (entries upto) in
        record {
          ordered = omega arith;
          starts = starts;
          written = ap₂ (λ (d : List ℕ) (v : ℕ). set d e v) before.written (starts ∙ sym (stops_entry roll.table.code buf (entries upto) e (omega arith)))
              ∙ laid_more old wanted (entries from) e from_le (omega (arith, length_tab (λ i. end_from roll.table.code buf 0 (i * 32)) 0 (entries upto))) (omega arith);
        }

pub overflow_cast-from : goal.overflow_cast-from
overflow_cast-from c = omega (arith, c.requires.0, c.requires.1, sound_few c.args.sound.now.sound)

pub overflow_cast-upto : goal.overflow_cast-upto
overflow_cast-upto c = omega (arith, c.requires.1, sound_few c.args.sound.now.sound)

pub invariant_of-good : goal.invariant_of-good
invariant_of-good c = record { good = sound_code c.args.sound.now.sound }

pub loop-e-init : goal.loop-e-init
loop-e-init c =
    let from = c.args.from in
    let is = c.entries_for-e.ensures in
    record {
      ordered = omega (arith, is, entries_behind from 0);
      starts = c.requires.3 ∙ sym (sound_end c.args.sound.now.sound from (omega (arith, c.requires.0, c.requires.1)));
      written = sym (ap (laid c.args.dir.now _ (entries from)) is ∙ laid_none c.args.dir.now _ (entries from));
    }

pub overflow_mul-e : goal.overflow_mul-e
overflow_mul-e c = omega (arith, before_upto c.entries_for-e-end.ensures c.loop-e-test.true)

pub pass_ends-p-requires : goal.pass_ends-p-requires
pass_ends-p-requires c =
    ending c.args.sound.now.sound c.requires.1 c.loop-e.invariant c.entries_for-e-end.ensures c.loop-e-test.true

pub overflow_mul-j : goal.overflow_mul-j
overflow_mul-j c = omega (arith, before_upto c.entries_for-e-end.ensures c.loop-e-test.true)

pub overflow_cast-dir : goal.overflow_cast-dir
overflow_cast-dir c =
    omega (arith, small c.args.sound.now.sound c.requires.1 c.loop-e.invariant c.entries_for-e-end.ensures c.loop-e-test.true c.pass_ends-p.ensures)

pub loop-e-preserved : goal.loop-e-preserved
loop-e-preserved c =
    more c.args.sound.now.sound c.requires.1 c.loop-e.invariant c.entries_for-e-end.ensures c.loop-e-test.true c.pass_ends-p.ensures (omega (arith, c.entries_for-e.ensures)) c.requires.2

pub returns : goal.returns
returns c =
    let e : c.loop-e.e ≡ entries c.args.upto = omega (arith, c.entries_for-e.ensures, c.entries_for-e-end.ensures, entries_upto c.args.from c.requires.0) in
    c.loop-e.invariant.written
    ∙ ap (laid c.args.dir.now (by_stops c.args.sound.now.roll.table.code c.args.sound.now.buf.now (entries c.args.upto)) (entries c.args.from)) e
    ∙ stops_laid c.args.sound.now.sound c.args.dir.now (entries c.args.from) c.args.upto c.requires.1
