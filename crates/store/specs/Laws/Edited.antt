-- What an edit leaves: the edited text packed, with its directory, in place of the roll; the rest as it was.
use Rattle.std.specs.Prelude.{◌≡◌, refl, ℕ, ◌+◌, ◌-◌, ◌/◌, ◌^◌, ◌≤◌, length, take, drop}
use Rattle.std.proofs.Common.{sym, ap₂, ◌∙◌, arith, take-append-drop, length-take-le}
use Rattle.std.proofs.Math.Path.{ap}
use mathlib.Core.List.{List, [], ◌++◌}
use Rattle.std.proofs.Math.Nat.{sub_self}
use Rattle.ground.specs.Paper.Rows.{zeros}
use Rattle.ground.specs.Paper.Runs.{over, run, in_place}
use Rattle.ground.specs.Helpers.Below.{Below}
use Rattle.ground.specs.Laws.Runs.{over_none, place_front, place_cleared, place_kept, place_length}
use Rattle.stopper.specs.Paper.Table.{characters}
use Rattle.symbols.specs.Paper.Symbols.{per, bytes_for, room, symbols_of, bytes_of}
use Rattle.symbols.specs.Helpers.Widths.{Width}
use Rattle.symbols.specs.Laws.Sizes.{room_bytes}
use Rattle.symbols.specs.Laws.Rows.{room_row}
use Rattle.symbols.specs.Laws.Packing.{bytes_length}
use Rattle.texts.specs.Paper.Directory.{entries, directory_of}
use Rattle.texts.specs.Paper.Edited.{edited}
use Rattle.texts.specs.Laws.Characters.{InTable}
use Rattle.texts.specs.Laws.Directory.{directory_length}
use Rattle.texts.specs.Laws.Edited.{edited_known}
use Rattle.sound.specs.Paper.Roll.{symbols_for, record_of, text_of, Sound}
use Rattle.sound.specs.Paper.Lengths.{lengths_for, Right}
use Rattle.sound.specs.Helpers.Held.{Held}
use Rattle.sound.specs.Laws.Sound.{sound_code, sound_width}
use Rattle.sound.specs.Laws.Texts.{text_below, length_parts, length_up}
use Rattle.sound.specs.Laws.Holding.{Holds, holds_sound, holds_text, sound_known, sound_h, sound_symbols, sound_bytes}
use Rattle.sound.specs.Laws.Lengths.{lengths_length, sound_lengths}
use Rattle.sound.specs.declared.records.Roll.{Roll}
use Rattle.store.specs.Paper.Stored.{bytes_after, directory_after}
use Rattle.store.specs.Helpers.Replacing.{replaced_row}
use Rattle.store.specs.Laws.Replacing.{replaced_before, replaced_even}
use Rattle.store.specs.Laws.Editing.{edited_row}

-- an edit that can be made: the roll is sound and its directory right, the range lies in it, the text put in is in the table, and the
-- edited text fits
pub record Edits (r : Roll) (buf dir : List ℕ) (start end : ℕ) (text : List ℕ) : Type 0 where
  pub sound : Sound r buf
  pub right : Right r buf dir
  pub ordered : start ≤ end
  pub inside : end ≤ r.n
  pub known : InTable (characters r.table) text
  pub fits : length (symbols_for r.table (edited (text_of r buf) start end text)) ≤ room r.table.code.k (length buf)
  pub listed : entries (length (edited (text_of r buf) start end text)) ≤ length dir

module _ (r : Roll) (buf : List ℕ) (start end : ℕ) (text : List ℕ) where
  -- the edited text, and its record
  abbrev pub text_after : List ℕ
  text_after = edited (text_of r buf) start end text

  abbrev pub roll_after : Roll
  roll_after = record_of r.table text_after

module _ {r : Roll} {buf dir : List ℕ} {start end : ℕ} {text : List ℕ} (long : length r.table.places ≡ 256) (u : Edits r buf dir start end text) where
  abbrev E : List ℕ
  E = text_after r buf start end text

  abbrev q : Roll
  q = roll_after r buf start end text

  abbrev k : ℕ
  k = r.table.code.k

  abbrev row : List ℕ
  row = symbols_for r.table E

  abbrev after : List ℕ
  after = bytes_after r E buf

  abbrev dir_after : List ℕ
  dir_after = directory_after r E dir

  held : Held r buf
  held = record { sound = u.sound; places = long }

  width : Width k
  width = sound_width u.sound

  -- how many bytes and entries are put in
  bytes_size : length (bytes_of k row) ≡ bytes_for k q.h
  bytes_size = bytes_length width row

  entries_size : length (directory_of (lengths_for r.table E)) ≡ entries q.n
  entries_size = directory_length (lengths_for r.table E) ∙ ap entries (lengths_length r.table E)

  -- the buffer is as long as before
  pub edit_length : length after ≡ length buf
  edit_length =
      place_length (bytes_for k r.h) (bytes_of k row) buf bytes_size
      (room_bytes width q.h (length buf) u.fits)
      (room_bytes width r.h (length buf) u.sound.fits)

  -- the buffer holds the edited text, which is in the table
  pub edit_known : InTable (characters r.table) E
  edit_known = edited_known (text_of r buf) start end text (sound_known held) u.known

  pub edit_holds : Holds q after E
  edit_holds =
      record {
        good = u.sound.table;
        known = edit_known;
        is = refl;
        fits = rw edit_length u.fits;
        bytes = sym (place_front (bytes_for k r.h) (bytes_of k row) buf bytes_size);
      }

  -- so the roll is sound, its text is the edited one, and its directory is right
  pub edit_sound : Sound q after
  edit_sound = holds_sound edit_holds

  pub edit_held : Held q after
  edit_held = record { sound = edit_sound; places = long }

  pub edit_text : text_of q after ≡ E
  edit_text = holds_text edit_holds

  pub edit_right : Right q after dir_after
  edit_right =
      place_front (entries r.n) (directory_of (lengths_for r.table E)) dir entries_size
      ∙ ap directory_of (sym (sound_lengths edit_held ∙ ap (lengths_for r.table) edit_text))

  -- bytes and entries used before and no longer are 0
  pub edit_cleared : run after (bytes_for k q.h) (bytes_for k r.h) ≡ zeros (bytes_for k r.h - bytes_for k q.h)
  edit_cleared = place_cleared (bytes_for k r.h) (bytes_of k row) buf bytes_size

  pub edit_cleared_directory : run dir_after (entries q.n) (entries r.n) ≡ zeros (entries r.n - entries q.n)
  edit_cleared_directory = place_cleared (entries r.n) (directory_of (lengths_for r.table E)) dir entries_size

  -- past the greater of old and new all is unchanged
  pub edit_kept : let m = bytes_for k q.h + (bytes_for k r.h - bytes_for k q.h) in drop m after ≡ drop m buf
  edit_kept = place_kept (bytes_for k r.h) (bytes_of k row) buf bytes_size

  pub edit_kept_directory : let m = entries q.n + (entries r.n - entries q.n) in drop m dir_after ≡ drop m dir
  edit_kept_directory = place_kept (entries r.n) (directory_of (lengths_for r.table E)) dir entries_size

  -- ---- which bytes can differ

  -- the symbol at which character j of the roll starts
  abbrev start_symbol : ℕ → ℕ
  start_symbol j = length (symbols_for r.table (take j (text_of r buf)))

  module _ (bytes : Below 256 buf) where
    within : r.h ≤ length (symbols_of k buf)
    within = room_row k buf r.h u.sound.fits

    -- the symbols of the roll, with those of the text in place of the run's
    row_is : row ≡ replaced_row k buf r.h (start_symbol start) (start_symbol end) (symbols_for r.table text)
    unfolding replaced_row
    row_is =
        edited_row (text_of r buf) start end text r.table.code (characters r.table)
        ∙ ap (λ (x : List ℕ). over x (start_symbol start) (symbols_for r.table text) (start_symbol end)) (sound_symbols held)

    below : Below (2 ^ k) (symbols_for r.table text)
    below = text_below r.table.code (sound_code u.sound) (characters r.table) text

    ordered : start_symbol start ≤ start_symbol end
    ordered = length_up r.table.code (characters r.table) (text_of r buf) start end u.ordered

    inside : start_symbol end ≤ r.h
    inside =
        omega (
          arith,
          length_parts r.table.code (characters r.table) (take end (text_of r buf)) (drop end (text_of r buf)),
          ap (λ (x : List ℕ). length (symbols_for r.table x)) (take-append-drop end (text_of r buf)),
          sound_h held,
        )

    -- each byte before the one where the run begins is as it was
    pub edit_before : take (start_symbol start / per k) after ≡ take (start_symbol start / per k) buf
    edit_before =
        ap (λ (x : List ℕ). take (start_symbol start / per k) (in_place (bytes_for k r.h) (bytes_of k x) buf)) row_is
        ∙ replaced_before width bytes below ordered inside within

    -- with as many symbols as before, so is each byte behind the last that holds the run
    pub edit_even : start_symbol start + length (symbols_for r.table text) ≡ start_symbol end → drop (bytes_for k (start_symbol end)) after ≡ drop (bytes_for k (start_symbol end)) buf
    edit_even e =
        ap (λ (x : List ℕ). drop (bytes_for k (start_symbol end)) (in_place (bytes_for k r.h) (bytes_of k x) buf)) row_is
        ∙ (replaced_even width bytes below ordered inside within e u.sound.unused).0

-- an empty run by an empty text: no byte differs
pub edit_nothing : {r : Roll} {buf : List ℕ} → Held r buf → Below 256 buf → (start : ℕ) → bytes_after r (text_after r buf start start []) buf ≡ buf
unfolding zeros
edit_nothing {r} {buf} held bytes start =
    let k : ℕ = r.table.code.k in
    let n : ℕ = bytes_for k r.h in
    let w : Width k = sound_width held.sound in
    let size : length (take n buf) ≡ n = length-take-le n buf (room_bytes w r.h (length buf) held.sound.fits) in
    let whole : n + (n - n) ≡ n = omega arith in
    ap (λ (x : List ℕ). bytes_after r x buf) (over_none (text_of r buf) start)
    ∙ ap (λ (x : List ℕ). in_place n x buf) (sound_bytes held bytes)
    ∙ ap (λ (i : ℕ). take n buf ++ (zeros (n - i) ++ drop (i + (n - i)) buf)) size
    ∙ ap₂ (λ (i j : ℕ). take n buf ++ (zeros i ++ drop j buf)) (sub_self n) whole
    ∙ take-append-drop n buf
