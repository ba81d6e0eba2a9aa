-- `sound::lookup::first_wrong` meets its contract: an entry is compared with where its codeword starts.
use Rattle.std.proofs.Common.{◌≡◌, ◌≢◌, refl, sym, ap, ◌∙◌, ℕ, ◌+◌, ◌-◌, ◌*◌, ◌≤◌, ◌<◌, List, length, get_or, arith}
use Rattle.ground.specs.Laws.Rows.{length_tab}
use Rattle.texts.specs.Paper.Directory.{entries, directory_of, first_wrong}
use Rattle.texts.specs.Laws.Directory.{entries_before, wrong_none, wrong_missing, wrong_differs, agree_more}
use Rattle.sound.specs.Paper.Lengths.{lengths_of, Right}
use Rattle.sound.specs.Paper.Roll.{Sound}
use Rattle.sound.specs.Helpers.Ends.{Ending, end_of, end_from}
use Rattle.sound.specs.Laws.Sound.{sound_code}
use Rattle.sound.specs.Laws.Directory.{sound_few, by_stops, stops_entry, stops_directory, entry_ending, entry_ends, none_right}
use Rattle.sound.specs.declared.records.Roll.{Roll}
use Rattle.sound.proofs.lookup.first_wrong.Invariants.{Before}
use Rattle.sound.proofs.lookup.first_wrong.Goals as goal

-- entry e is that of a character of the roll
inside : {n last e : ℕ} → last ≡ entries n → e < last → e * 32 < n
inside {n} is h = entries_before n (omega arith)

module _ {roll : Roll} {buf dir : List ℕ} {last e j p : ℕ} (sound : Sound roll buf) (last_is : last ≡ entries roll.n) (before : Before roll.table.code buf dir last e j p) where
  abbrev wanted : List ℕ
  wanted = by_stops roll.table.code buf last

  abbrev answer : ℕ
  answer = first_wrong (directory_of (lengths_of roll buf)) dir

  long : length wanted ≡ last
  long = length_tab _ 0 last

  -- of the entries that are wanted, and of the directory
  same : (i : ℕ) → first_wrong wanted dir ≡ i → i ≡ answer
  same i is =
      sym is
      ∙ ap (λ (n : ℕ). first_wrong (by_stops roll.table.code buf n) dir) last_is
      ∙ ap (λ (w : List ℕ). first_wrong w dir) (stops_directory sound)

  none : e ≡ last → Right roll buf dir
  none is = none_right sound dir (sym (same last (wrong_none wanted dir last (rw is at before.agree) (sym long))) ∙ last_is)

  module _ (h : e < last) where
    found : first_wrong wanted dir ≡ e → (e ≡ answer) × (e < entries roll.n)
    found is = (same e is, omega (arith, last_is))

    missing : length dir ≤ e → (e ≡ answer) × (e < entries roll.n)
    missing l = found (wrong_missing wanted dir e before.agree (omega (arith, long)) l)

    ending : Ending roll.table.code buf p (e * 32 - j)
    ending = entry_ending sound j e before.ordered (omega (arith, inside last_is h)) before.starts

    -- the symbol where its codeword starts
    module _ (there : e < length dir) {next : ℕ} (next_is : next ≡ end_from roll.table.code buf p (e * 32 - j)) where
      starts : next ≡ end_from roll.table.code buf 0 (e * 32)
      starts = next_is ∙ entry_ends sound j e before.ordered (omega (arith, inside last_is h)) before.starts

      entry_is : get_or wanted e 0 ≡ next
      entry_is = stops_entry roll.table.code buf last e h ∙ sym starts

      differs : get_or dir e 0 ≢ next → (e ≡ answer) × (e < entries roll.n)
      differs n =
          found (wrong_differs wanted dir e before.agree (omega (arith, long)) there (λ is. n (is ∙ entry_is)))

      agrees : get_or dir e 0 ≡ next → Before roll.table.code buf dir last (e + 1) (e * 32) next
      agrees is =
          record { ordered = omega arith; starts = starts; agree = agree_more wanted dir e before.agree (omega (arith, long)) there (is ∙ sym entry_is) }

pub invariant_of-good : goal.invariant_of-good
invariant_of-good c = record { good = sound_code c.args.sound.now.sound }

pub loop-e-init : goal.loop-e-init
unfolding end_from end_of
loop-e-init c = record { ordered = omega arith; starts = refl; agree = refl }

pub returns-then-dir-e : goal.returns-then-dir-e
returns-then-dir-e c = missing c.args.sound.now.sound c.entries_for-last.ensures c.loop-e.invariant c.loop-e-test.true c.if-dir-e.true

pub overflow_mul-e : goal.overflow_mul-e
overflow_mul-e c = omega (arith, inside c.entries_for-last.ensures c.loop-e-test.true, sound_few c.args.sound.now.sound)

pub pass_ends-p-requires : goal.pass_ends-p-requires
pass_ends-p-requires c =
    ending c.args.sound.now.sound c.entries_for-last.ensures c.loop-e.invariant c.loop-e-test.true

pub overflow_mul-j : goal.overflow_mul-j
overflow_mul-j c = omega (arith, inside c.entries_for-last.ensures c.loop-e-test.true, sound_few c.args.sound.now.sound)

pub returns-then-dir-e-2 : goal.returns-then-dir-e-2
returns-then-dir-e-2 c =
    differs c.args.sound.now.sound c.entries_for-last.ensures c.loop-e.invariant c.loop-e-test.true c.if-dir-e.false c.pass_ends-p.ensures c.if-dir-e-2.true

pub loop-e-preserved : goal.loop-e-preserved
loop-e-preserved c =
    agrees c.args.sound.now.sound c.entries_for-last.ensures c.loop-e.invariant c.loop-e-test.true c.if-dir-e.false c.pass_ends-p.ensures c.if-dir-e-2.false

pub returns : goal.returns
returns c = none c.args.sound.now.sound c.entries_for-last.ensures c.loop-e.invariant (omega arith)
