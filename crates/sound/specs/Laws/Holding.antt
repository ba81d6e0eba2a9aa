-- A buffer that holds a text: a sound roll is one, its text the one that is held.
use Rattle.std.specs.Prelude.{◌≡◌, ℕ, ◌+◌, ◌-◌, ◌*◌, ◌^◌, ◌≤◌, T, length, take, drop}
use Rattle.std.proofs.Math.Path.{sym, ap}
use Rattle.std.proofs.Common.{ap₂, ◌∙◌, arith, take-append-drop, take_at, drop_at, take-add}
use mathlib.Core.List.{List, ◌++◌, map, append_assoc}
use Rattle.std.proofs.Math.ListN.{get_or}
use Rattle.std.proofs.lemmas.List.{length-map}
use Rattle.ground.specs.Paper.Rows.{zeros}
use Rattle.ground.specs.Helpers.Below.{Below}
use Rattle.ground.specs.Laws.Rows.{below_more, length_zeros, below_take, zeros_zero, zero_zeros}
use Rattle.ground.specs.Laws.Runs.{run_length}
use Rattle.stopper.specs.Paper.Table.{base, stoppers, good_code, good_table, characters, rank_in}
use Rattle.stopper.specs.Paper.Reading.{done, write}
use Rattle.stopper.specs.Laws.Table.{code_good, code_width, table_code, table_apart}
use Rattle.stopper.proofs.Laws.Reading.{read_write}
use Rattle.symbols.specs.Paper.Symbols.{per, bytes_for, room, symbols_of, bytes_of}
use Rattle.symbols.specs.Helpers.Widths.{Width}
use Rattle.symbols.specs.Laws.Sizes.{bytes_for_enough}
use Rattle.symbols.specs.Laws.Rows.{room_row, symbols_below, ends_inside, symbols_append, symbols_take}
use Rattle.symbols.specs.Laws.Packing.{bytes_below}
use Rattle.symbols.proofs.Laws.Packing.{symbols_bytes, symbols_one}
use Rattle.texts.specs.Laws.Characters.{InTable, ranks_below, characters_back, ranks_back, ranks_known, characters_few, characters_length, places_characters}
use Rattle.reading.specs.Paper.Reading.{row_upto, row_reading, ranks_read}
use Rattle.reading.specs.Laws.Reading.{done_whole, done_ranks}
use Rattle.sound.specs.Paper.Roll.{text_row, symbols_for, record_of, reading_from, reading, text_of, unused_of, Sound}
use Rattle.sound.specs.Helpers.Held.{Held}
use Rattle.sound.specs.Laws.Texts.{text_below}
use Rattle.sound.specs.Laws.Sound.{text_length, sound_width, sound_below, sound_row, sound_length}
use Rattle.sound.specs.declared.records.Roll.{Roll}

-- ---- a buffer that holds a text: its packed bytes are the buffer's first, and the record says how many characters and symbols

abbrev pub width_of : Roll → ℕ
width_of r = r.table.code.k

pub record Holds (r : Roll) (buf text : List ℕ) : Type 0 where
  pub good : T (good_table r.table)
  pub known : InTable (characters r.table) text
  pub is : record_of r.table text ≡ r
  pub fits : r.h ≤ room (width_of r) (length buf)
  pub bytes : bytes_of (width_of r) (symbols_for r.table text) ≡ take (bytes_for (width_of r) r.h) buf

-- the unused symbols of the last byte: how many
abbrev unused_count : Roll → ℕ
unused_count r = bytes_for (width_of r) r.h * per (width_of r) - r.h

module _ {r : Roll} {buf text : List ℕ} (p : Holds r buf text) where
  good_code_lem : T (good_code r.table.code)
  good_code_lem = table_code r.table p.good

  width : Width (width_of r)
  width = code_width r.table.code good_code_lem

  holds_h : length (symbols_for r.table text) ≡ r.h
  holds_h = ap (λ (x : Roll). x.h) p.is

  ranks_small : Below r.table.sigma (map (rank_in (characters r.table)) text)
  ranks_small = below_more (characters_few r.table) (ranks_below (characters r.table) p.known)

  -- the text's symbols, 0 in the rest of the last byte, and later symbols
  holds_symbols : symbols_of (width_of r) buf
      ≡ symbols_for r.table text ++ (zeros (unused_count r) ++ symbols_of (width_of r) (drop (bytes_for (width_of r) r.h) buf))
  holds_symbols =
      let k : ℕ = width_of r in
      let row : List ℕ = symbols_for r.table text in
      let later : List ℕ = symbols_of k (drop (bytes_for k r.h) buf) in
      ap (symbols_of k) (sym (take-append-drop (bytes_for k r.h) buf))
      ∙ symbols_append width _ _
      ∙ ap (λ (l : List ℕ). l ++ later)
      (ap (symbols_of k) (sym p.bytes)
      ∙ symbols_bytes width (text_below r.table.code good_code_lem (characters r.table) text)
      ∙ ap (λ (n : ℕ). row ++ zeros (bytes_for k n * per k - n)) holds_h)
      ∙ append_assoc row (zeros (unused_count r)) later

  pub holds_row : row_upto r.table.code r.h buf ≡ symbols_for r.table text
  holds_row = rw holds_symbols (take_at (symbols_for r.table text) _ r.h holds_h)

  holds_unused : unused_of r buf ≡ zeros (unused_count r)
  holds_unused =
      ap (λ (row : List ℕ). take (unused_count r) (drop r.h row)) holds_symbols
      ∙ ap (take (unused_count r)) (drop_at (symbols_for r.table text) _ r.h holds_h)
      ∙ take_at (zeros (unused_count r)) _ (unused_count r) (length_zeros (unused_count r))

  -- its reading gives the ranks of the text
  pub holds_reading : reading r buf ≡ done (map (rank_in (characters r.table)) text)
  unfolding reading_from text_row
  holds_reading =
      ap (λ (row : List ℕ). row_reading r.table.code r.table.sigma row 0) holds_row
      ∙ read_write (base r.table.code) (stoppers r.table.code) (code_good r.table.code good_code_lem) r.table.sigma 0 ranks_small

  -- so the roll is sound, and its text is the text
  pub holds_sound : Sound r buf
  holds_sound =
      record {
        table = p.good;
        fits = p.fits;
        reads = done_whole holds_reading;
        count = ap length (done_ranks holds_reading) ∙ length-map text (rank_in (characters r.table)) ∙ ap (λ (x : Roll). x.n) p.is;
        unused = rw holds_unused (zeros_zero (unused_count r));
      }

  pub holds_text : text_of r buf ≡ text
  unfolding text_of
  holds_text =
      ap (map (λ rank. get_or r.table.places rank 0)) (done_ranks holds_reading)
      ∙ places_characters r.table ranks_small
      ∙ characters_back (characters r.table) p.known

-- at most one text is held
pub holds_one : {r : Roll} {buf a b : List ℕ} → Holds r buf a → Holds r buf b → a ≡ b
holds_one p q = sym (holds_text p) ∙ holds_text q

-- ---- a sound roll holds its text

module _ {r : Roll} {buf : List ℕ} (held : Held r buf) where
  sound_ranks : Below (length (characters r.table)) (ranks_read (reading r buf))
  sound_ranks = rw (characters_length r.table held.sound.table held.places) (sound_below held.sound)

  sound_text : text_of r buf ≡ map (λ rank. get_or (characters r.table) rank 0) (ranks_read (reading r buf))
  unfolding text_of
  sound_text = places_characters r.table (below_more (characters_few r.table) sound_ranks)

  pub sound_known : InTable (characters r.table) (text_of r buf)
  sound_known = rw sound_text (ranks_known (characters r.table) sound_ranks)

  -- its ranks are those of its characters
  pub sound_ranked : ranks_read (reading r buf) ≡ map (rank_in (characters r.table)) (text_of r buf)
  sound_ranked =
      let l : List ℕ = characters r.table in
      sym (ap (map (rank_in l)) sound_text ∙ ranks_back l (table_apart r.table held.sound.table) sound_ranks)

  row_below : Below (2 ^ width_of r) (row_upto r.table.code r.h buf)
  row_below = below_take (symbols_below (width_of r) buf) r.h

  row_length : length (row_upto r.table.code r.h buf) ≡ r.h
  row_length = sound_length held.sound

  -- its symbols are the buffer's
  pub sound_symbols : symbols_for r.table (text_of r buf) ≡ row_upto r.table.code r.h buf
  unfolding text_row
  sound_symbols = ap (write (base r.table.code) (stoppers r.table.code)) (sym sound_ranked) ∙ sym (sound_row held.sound)

  pub sound_h : length (symbols_for r.table (text_of r buf)) ≡ r.h
  sound_h = ap length sound_symbols ∙ row_length

  -- its record is the roll's
  pub sound_record : record_of r.table (text_of r buf) ≡ r
  sound_record = ap₂ {C = Roll} (λ (n h : ℕ). record { table = r.table; n = n; h = h }) (text_length held.sound) sound_h

  module _ (bytes : Below 256 buf) where
    -- its bytes are the buffer's
    pub sound_bytes : bytes_of (width_of r) (symbols_for r.table (text_of r buf)) ≡ take (bytes_for (width_of r) r.h) buf
    sound_bytes =
        let k : ℕ = width_of r in
        let h : ℕ = r.h in
        let n : ℕ = bytes_for k h in
        let w : Width k = sound_width held.sound in
        let row : List ℕ = row_upto r.table.code h buf in
        let inside : n * per k ≤ length (symbols_of k buf) = ends_inside w buf h (room_row k buf h held.sound.fits) in
        let enough : h ≤ n * per k = bytes_for_enough w h in
        let sum : h + (n * per k - h) ≡ n * per k = omega arith in
        let size : length (unused_of r buf) ≡ n * per k - h = omega (arith, run_length (symbols_of k buf) h (n * per k) enough inside) in
        rw sound_symbols
        (symbols_one w (bytes_below w row_below) (below_take bytes n)
        (symbols_bytes w row_below
        ∙ ap (λ (i : ℕ). row ++ zeros (bytes_for k i * per k - i)) row_length
        ∙ ap (λ (l : List ℕ). row ++ l) (sym (zero_zeros (unused_of r buf) held.sound.unused ∙ ap zeros size))
        ∙ sym (take-add h (n * per k - h) (symbols_of k buf))
        ∙ ap (λ (i : ℕ). take i (symbols_of k buf)) sum
        ∙ symbols_take w n buf))

    pub sound_holds : Holds r buf (text_of r buf)
    sound_holds = record { good = held.sound.table; known = sound_known; is = sound_record; fits = held.sound.fits; bytes = sound_bytes }
