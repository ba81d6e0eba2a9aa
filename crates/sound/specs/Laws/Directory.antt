-- The directory of a sound roll: an entry is where a codeword starts, and by a right one each codeword is reached.
use Rattle.std.specs.Prelude.{◌≡◌, ℕ, suc, ◌+◌, ◌*◌, ◌/◌, ◌%◌, ◌≤◌, ◌<◌, ◌-◌, take, get_or, drop}
use Rattle.std.proofs.Math.Path.{sym, ap}
use Rattle.std.proofs.Common.{◌∙◌, le_refl, length-take, take_all, get_or-take, take-take, length-take-le}
use mathlib.Core.List.{List}
use Prim.Native.Nat.{zero-le}
use native.Mathlib.Omega.{arith}
use Rattle.std.proofs.Math.ListN.{length, length-map}
use Rattle.ground.specs.Paper.Rows.{tab}
use Rattle.ground.specs.Paper.Runs.{over, run}
use Rattle.ground.specs.Helpers.Bound.{limit_bound}
use Rattle.ground.specs.Helpers.Moved.{laid}
use Rattle.ground.specs.Laws.Rows.{tab_at, tab_ext}
use Rattle.ground.specs.Laws.Runs.{run_slice}
use Rattle.stopper.specs.Paper.Table.{base, stoppers}
use Rattle.stopper.specs.Paper.Reading.{write}
use Rattle.stopper.specs.declared.code.Code.{Code}
use Rattle.texts.specs.Paper.Directory.{entries, start_at, directory_of, first_wrong}
use Rattle.texts.specs.Laws.Directory.{entries_upto, entries_before, directory_length, directory_at, entries_inside, none_wrong, wrong_none}
use Rattle.reading.specs.Paper.Reading.{row_upto, ranks_read}
use Rattle.reading.specs.Helpers.Codewords.{passed_from}
use Rattle.reading.specs.Laws.Codewords.{found_word}
use Rattle.std.specs.Prelude.{Result, Ok}
use Rattle.reading.specs.declared.codewords.BadWord.{BadWord}
use Rattle.sound.specs.Paper.Roll.{reading, Sound}
use Rattle.sound.specs.Paper.Lengths.{lengths_of, Right}
use Rattle.sound.specs.Helpers.Ends.{Ending, end_from}
use Rattle.sound.specs.Laws.Starts.{start_at_lem, passed_ranks}
use Rattle.sound.specs.Laws.Sound.{row_length, sound_code, sound_length, sound_below, sound_row, sound_found, sound_start, sound_reads}
use Rattle.sound.specs.Laws.Ends.{sound_first, sound_end, sound_ends, sound_ending}
use Rattle.sound.specs.Laws.Stops.{passing_first, passing_few}
use Rattle.sound.specs.declared.records.Roll.{Roll}

-- ---- the directory of a sound roll

abbrev ranks : Roll → List ℕ → List ℕ
ranks r buf = ranks_read (reading r buf)

module _ {r : Roll} {buf : List ℕ} (s : Sound r buf) where
  sound_many : length (lengths_of r buf) ≡ r.n
  unfolding lengths_of
  sound_many = rw length-map s.count

  pub sound_entries : length (directory_of (lengths_of r buf)) ≡ entries r.n
  sound_entries = directory_length (lengths_of r buf) ∙ ap entries sound_many

  -- a right directory has them all
  pub right_long : (dir : List ℕ) → Right r buf dir → entries r.n ≤ length dir
  right_long dir right = omega (arith, sym (length-take (entries r.n) dir) ∙ ap length right ∙ sound_entries)

  -- the last codeword ends at symbol h
  pub sound_last : start_at (lengths_of r buf) r.n ≡ r.h
  unfolding lengths_of
  sound_last =
      let c = r.table.code in
      sym (start_at_lem c (ranks r buf) r.n)
      ∙ ap (λ (rs : List ℕ). length (write (base c) (stoppers c) rs)) (take_all r.n (ranks r buf) (omega (arith, s.count)))
      ∙ ap length (sym (sound_row s))
      ∙ sound_length s

  -- no more characters than symbols, and these are few
  pub sound_few : r.n ≤ limit_bound
  sound_few =
      let p = passing_first (sound_first s r.n (le_refl r.n)) in
      omega (arith, passing_few p, sound_end s r.n (le_refl r.n), sound_start s r.n, (sound_reads s 0 zero-le).small)

-- ---- a right directory: by its entry a character's codeword is reached

module _ {r : Roll} {buf : List ℕ} (s : Sound r buf) (dir : List ℕ) (right : Right r buf dir) (place : ℕ) (inside : place < r.n) where
  abbrev c : Code
  c = r.table.code

  abbrev row : List ℕ
  row = row_upto c r.h buf

  abbrev starts : ℕ → ℕ
  starts j = start_at (lengths_of r buf) j

  pub right_held : place / 32 < length dir
  right_held = omega (arith, entries_inside place inside, right_long s dir right)

  pub right_entry : get_or dir (place / 32) 0 ≡ starts (place / 32 * 32)
  right_entry =
      sym (get_or-take (entries r.n) dir (place / 32) 0 (entries_inside place inside))
      ∙ ap (λ (l : List ℕ). get_or l (place / 32) 0) right
      ∙ directory_at (lengths_of r buf) (place / 32) (rw (sound_many s) (entries_inside place inside))

  -- the codewords from the entry on, up to the place
  pub right_passed : Ok (starts place) ≡ passed_from c r.table.sigma row (get_or dir (place / 32) 0) (place % 32)
  unfolding lengths_of
  right_passed =
      let e : place / 32 * 32 + place % 32 ≡ place = omega arith in
      sym (rw (right_entry, sound_row s)
      (passed_ranks c (sound_code s) r.table.sigma (sound_below s) (place % 32) (place / 32 * 32) (omega (arith, s.count))
      ∙ ap {B = Result ℕ BadWord} (λ (j : ℕ). Ok (starts j)) e))

  -- a codeword starts before symbol h
  pub right_before_lem : get_or dir (place / 32) 0 < r.h
  right_before_lem =
      let j = place / 32 * 32 in
      let w = found_word c (sound_code s) r.table.sigma row (sym (sound_found s j (omega arith))) (omega (arith, row_length r buf s.fits, sound_start s j)) in
      omega (arith, right_entry, w.some, sound_start s (suc j))

-- ---- the entries of a sound roll, by the stoppers alone

-- n of them
abbrev pub by_stops : Code → List ℕ → ℕ → List ℕ
by_stops c buf n = tab (λ i. end_from c buf 0 (i * 32)) 0 n

pub stops_entry : (c : Code) (buf : List ℕ) (n i : ℕ) → i < n → get_or (by_stops c buf n) i 0 ≡ end_from c buf 0 (i * 32)
stops_entry c buf n i h = tab_at _ n i h

module _ {r : Roll} {buf : List ℕ} (s : Sound r buf) where
  abbrev wanted : List ℕ
  wanted = directory_of (lengths_of r buf)

  pub stops_entries : (n : ℕ) → n ≤ r.n → take (entries n) wanted ≡ by_stops r.table.code buf (entries n)
  stops_entries n h =
      let l = entries_upto n h in
      tab_ext _ (entries n) (take (entries n) wanted) (length-take-le (entries n) wanted (omega (arith, l, sound_entries s)))
      (λ i k. get_or-take (entries n) wanted i 0 k
      ∙ directory_at (lengths_of r buf) i (rw (sound_many s) (omega arith))
      ∙ sym (sound_end s (i * 32) (omega (arith, entries_before n k))))

  -- written up to character n, all of them
  pub stops_laid : (row : List ℕ) (from n : ℕ) → n ≤ r.n → laid row (by_stops r.table.code buf (entries n)) from (entries n) ≡ laid row wanted from (entries n)
  stops_laid row from n h =
      let m = entries n in
      let e : run (take m wanted) from m ≡ run wanted from m
      = run_slice (take m wanted) from m ∙ ap (drop from) (take-take m m wanted (le_refl m)) ∙ sym (run_slice wanted from m) in
      ap (λ (xs : List ℕ). over row from xs m) (ap (λ (xs : List ℕ). run xs from m) (sym (stops_entries n h)) ∙ e)

  pub stops_directory : by_stops r.table.code buf (entries r.n) ≡ wanted
  stops_directory = sym (stops_entries r.n (le_refl r.n)) ∙ take_all (entries r.n) wanted (omega (arith, sound_entries s))

  -- from character j, whose codeword starts at symbol p, on to that of entry e
  module _ (j e : ℕ) {p : ℕ} (h : j ≤ e * 32) (k : e * 32 ≤ r.n) (at : p ≡ end_from r.table.code buf 0 j) where
    pub entry_ending : Ending r.table.code buf p (e * 32 - j)
    entry_ending = rw (at, sound_end s j (omega arith)) (sound_ending s j (e * 32 - j) (omega arith))

    pub entry_ends : end_from r.table.code buf p (e * 32 - j) ≡ end_from r.table.code buf 0 (e * 32)
    entry_ends =
        let up : j + (e * 32 - j) ≡ e * 32 = omega arith in
        rw (at, sound_end s j (omega arith))
        (sound_ends s j (e * 32 - j) (omega arith)
        ∙ ap (start_at (lengths_of r buf)) up
        ∙ sym (sound_end s (e * 32) k))

-- so the directory of a sound roll is right if none of its entries is wrong, and only then
module _ {r : Roll} {buf : List ℕ} (s : Sound r buf) (dir : List ℕ) where
  pub right_none : Right r buf dir → first_wrong (directory_of (lengths_of r buf)) dir ≡ entries r.n
  right_none a =
      let d = directory_of (lengths_of r buf) in
      let e = sound_entries s in
      wrong_none d dir (entries r.n) (a ∙ sym (take_all (entries r.n) d (omega arith))) (sym e)

  pub none_right : first_wrong (directory_of (lengths_of r buf)) dir ≡ entries r.n → Right r buf dir
  none_right e = let l = sound_entries s in ap (λ (n : ℕ). take n dir) (sym l) ∙ none_wrong (directory_of (lengths_of r buf)) dir (e ∙ sym l)
