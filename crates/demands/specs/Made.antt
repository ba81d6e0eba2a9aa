-- A directory that is made is right, and by a right one the text is read.
use Rattle.std.specs.Prelude.{◌≡◌, List, ℕ, ◌/◌, ◌%◌, ◌<◌, take, drop, Result, Ok}
use Rattle.std.proofs.Common.{sym, ◌∙◌, arith, take_at}
use Rattle.std.proofs.Math.Path.{ap}
use Rattle.std.proofs.Math.ListN.{get_or}
use Rattle.ground.specs.Paper.Refusals.{accepted}
use Rattle.ground.specs.Laws.Answers.{says_one}
use Rattle.ground.specs.Laws.Refusals.{accepted_leaves}
use Rattle.ground.specs.Laws.Rows.{map_at}
use Rattle.ground.specs.declared.refusal.Refusal.{Refusal}
use Rattle.texts.specs.Paper.Directory.{entries, directory_of}
use Rattle.reading.specs.Paper.Reading.{row_upto, ranks_read}
use Rattle.reading.specs.Laws.Codewords.{passed_word}
use Rattle.sound.specs.Paper.Roll.{reading_from, reading, text_of, Sound}
use Rattle.sound.specs.Paper.Lengths.{lengths_of, Right}
use Rattle.sound.specs.Laws.Sound.{sound_code, sound_found, sound_length}
use Rattle.sound.specs.Laws.Directory.{sound_entries, right_held, right_passed, right_before_lem}
use Rattle.sound.specs.declared.records.Roll.{Roll}
use Rattle.roll.specs.Paper.Operations.{Making, read_says, ReadingOne}
use Rattle.roll.specs.Laws.Accepting.{makes_is, reads_is}

-- an accepted call found the roll sound
pub made_sound : {r : Roll} {buf dir after : List ℕ} → Making r buf dir (Ok tt) after → Sound r buf
made_sound {r} {buf} {dir} m = ((makes_is r buf dir).1 (sym m.says)).0

-- what make_directory writes is right
pub made_right : {r : Roll} {buf dir after : List ℕ} → Making r buf dir (Ok tt) after → Right r buf after
made_right {r} {buf} {dir} m =
    ap (take (entries r.n)) (m.leaves ∙ accepted_leaves (sym m.says) _ _)
    ∙ take_at (directory_of (lengths_of r buf)) (drop (entries r.n) dir) (entries r.n) (sound_entries (made_sound m))

-- ---- a character read by a right directory

module _ {r : Roll} {buf : List ℕ} (s : Sound r buf) (dir : List ℕ) (right : Right r buf dir) (place : ℕ) (inside : place < r.n) where
  -- read_one's answer is the character of the text
  pub right_reads : read_says r buf dir place ≡ accepted (get_or (text_of r buf) place 0)
  unfolding text_of reading_from
  right_reads =
      let before = right_before_lem s dir right place inside in
      let (held, rank) = passed_word r.table.code (sound_code s) r.table.sigma (row_upto r.table.code r.h buf) (get_or dir (place / 32) 0) (place % 32)
      (omega (arith, sound_length s)) (right_passed s dir right place inside) (sym (sound_found s place inside)) in
      (reads_is r buf dir place).0 (record { good = s.table; fits = s.fits; inside = inside; held = right_held s dir right place inside; below = before; reached = held })
      ∙ ap (λ (x : ℕ). accepted (get_or r.table.places x 0)) rank
      ∙ ap (λ (x : ℕ). accepted x) (sym (map_at (λ rank. get_or r.table.places rank 0) (ranks_read (reading r buf)) place (omega (arith, s.count))))

  pub reads_right : {answer : Result ℕ Refusal} → ReadingOne r buf dir place answer → answer ≡ Ok (get_or (text_of r buf) place 0)
  reads_right {answer} p = says_one answer (Ok (get_or (text_of r buf) place 0)) (p.says ∙ right_reads)

-- by a directory that make_directory left, read_one answers what unpack would write
pub reads_made : {r : Roll} {buf dir after : List ℕ} {place : ℕ} {answer : Result ℕ Refusal} → Making r buf dir (Ok tt) after → place < r.n
    → ReadingOne r buf after place answer → answer ≡ Ok (get_or (text_of r buf) place 0)
reads_made {after = after} {place = place} m h p = reads_right (made_sound m) after (made_right m) place h p
