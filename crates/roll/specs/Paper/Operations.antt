-- The operations, in the paper's order: the refusals of each, and its promise. The rows named after an operation are its own refusals; where check's
-- come first, or those that check and read one share, what it says puts them before by `then`.
use Rattle.std.specs.Prelude.{◌≡◌, not, ◌||◌, List, [], ◌∷◌, ◌++◌, ℕ, ◌-◌, ◌/◌, ◌%◌, ltb, leb, eqb, length, drop, get_or, Result}
use Rattle.ground.specs.Paper.Refusals.{Row, refuse, Outcome, accepted, judged, ◌then◌, kept}
use Rattle.ground.specs.Paper.Answers.{outcome_of}
use Rattle.ground.specs.Paper.Runs.{run}
use Rattle.ground.specs.Paper.Rows.{all_zero}
use Rattle.ground.specs.declared.refusal.Refusal.{Refusal}
use Rattle.stopper.specs.Paper.Table.{good_table, characters}
use Rattle.stopper.specs.Paper.Reading.{Reading}
use Rattle.stopper.specs.declared.table.Table.{Table}
use Rattle.symbols.specs.Paper.Symbols.{room}
use Rattle.texts.specs.Paper.Characters.{first_foreign}
use Rattle.texts.specs.Paper.Directory.{entries, directory_of, first_wrong}
use Rattle.texts.specs.Paper.Hits.{hits, good_pattern, listed}
use Rattle.texts.specs.Paper.Edited.{edited}
use Rattle.reading.specs.Paper.Reading.{is_bad, ranks_read, first_bad}
use Rattle.sound.specs.Paper.Roll.{symbols_for, record_of, reading_from, reading, text_of, unused_of}
use Rattle.sound.specs.Paper.Lengths.{lengths_of}
use Rattle.sound.specs.declared.records.Roll.{Roll}
use Rattle.store.specs.Paper.Fitting.{first_over}
use Rattle.store.specs.Paper.Stored.{packed_into, bytes_after, directory_after}
use Rattle.roll.specs.declared.edit.Edited.{Edited}

-- ---- pack: 1, 3, 4

abbrev pub pack_rows : Table → List ℕ → List ℕ → List Row
pack_rows t text buf =
    let foreign : ℕ = first_foreign (characters t) text in
    let over : ℕ = first_over t.code (characters t) (room t.code.k (length buf)) text in
    refuse 1 0 (not (good_table t))
    ∷ refuse 3 foreign (ltb foreign (length text))
    ∷ refuse 4 over (ltb over (length text))
    ∷ []

unfoldable pub pack_says : Table → List ℕ → List ℕ → Outcome (Unit {0})
pack_says t text buf = judged (pack_rows t text buf) tt

-- where a record stands beside a refusal: the table as given, n 0 and h 0
abbrev pub no_roll : Table → Roll
no_roll t = record { table = t; n = 0; h = 0 }

abbrev pub pack_roll : Table → List ℕ → List ℕ → Roll
pack_roll t text buf = kept (pack_says t text buf) (no_roll t) (record_of t text)

-- what the buffer holds then
abbrev pub pack_leaves : Table → List ℕ → List ℕ → List ℕ
pack_leaves t text buf = kept (pack_says t text buf) buf (packed_into t.code.k (symbols_for t text) buf)

pub record Packing (t : Table) (text buf : List ℕ) (r : Result Roll Refusal) (after : List ℕ) : Type 0 where
  pub says : outcome_of r ≡ (pack_says t text buf then accepted (pack_roll t text buf))
  pub leaves : after ≡ pack_leaves t text buf

-- ---- what check and read one both ask first: 1, 5

abbrev pub fit_rows : Roll → List ℕ → List Row
fit_rows r buf =
    refuse 1 0 (not (good_table r.table))
    ∷ refuse 5 r.h (ltb (room r.table.code.k (length buf)) r.h)
    ∷ []

unfoldable pub fit_says : Roll → List ℕ → Outcome (Unit {0})
fit_says r buf = judged (fit_rows r buf) tt

-- ---- check: 1, 5, 6, 7, 8

abbrev pub check_rows : Roll → List ℕ → List Row
check_rows r buf =
    refuse 6 (first_bad r.h (reading r buf)) (is_bad (reading r buf))
    ∷ refuse 7 (length (ranks_read (reading r buf))) (not (eqb (length (ranks_read (reading r buf))) r.n))
    ∷ refuse 8 0 (not (all_zero (unused_of r buf)))
    ∷ []

unfoldable pub check_says : Roll → List ℕ → Outcome (Unit {0})
check_says r buf = fit_says r buf then judged (check_rows r buf) tt

pub record Checking (r : Roll) (buf : List ℕ) (answer : Result (Unit {0}) Refusal) : Type 0 where
  pub says : outcome_of answer ≡ check_says r buf

-- ---- unpack a range: check's, 10, 13

abbrev pub unpack_rows : Roll → ℕ → ℕ → List ℕ → List Row
unpack_rows r start end out =
    refuse 10 0 (ltb end start || ltb r.n end)
    ∷ refuse 13 (end - start) (ltb (length out) (end - start))
    ∷ []

unfoldable pub unpack_says : Roll → List ℕ → ℕ → ℕ → List ℕ → Outcome (Unit {0})
unpack_says r buf start end out = check_says r buf then judged (unpack_rows r start end out) tt

abbrev pub unpack_leaves : Roll → List ℕ → ℕ → ℕ → List ℕ → List ℕ
unpack_leaves r buf start end out = kept (unpack_says r buf start end out) out (run (text_of r buf) start end ++ drop (end - start) out)

pub record Unpacking (r : Roll) (buf : List ℕ) (start end : ℕ) (out : List ℕ) (answer : Result (Unit {0}) Refusal) (after : List ℕ) : Type 0 where
  pub says : outcome_of answer ≡ unpack_says r buf start end out
  pub leaves : after ≡ unpack_leaves r buf start end out

-- ---- make a directory: check's, 12

abbrev pub make_rows : Roll → List ℕ → List Row
make_rows r dir = refuse 12 (entries r.n) (ltb (length dir) (entries r.n)) ∷ []

unfoldable pub make_says : Roll → List ℕ → List ℕ → Outcome (Unit {0})
make_says r buf dir = check_says r buf then judged (make_rows r dir) tt

abbrev pub make_leaves : Roll → List ℕ → List ℕ → List ℕ
make_leaves r buf dir = kept (make_says r buf dir) dir (directory_of (lengths_of r buf) ++ drop (entries r.n) dir)

pub record Making (r : Roll) (buf dir : List ℕ) (answer : Result (Unit {0}) Refusal) (after : List ℕ) : Type 0 where
  pub says : outcome_of answer ≡ make_says r buf dir
  pub leaves : after ≡ make_leaves r buf dir

-- ---- read one: 1, 5, 10, 9, 6

-- the roll read from the entry for a place on
abbrev pub from_entry : Roll → List ℕ → List ℕ → ℕ → Reading
from_entry r buf dir place = reading_from r buf (get_or dir (place / 32) 0)

-- 6: the codeword behind place mod 32 others was not read, as a bad one stands there or before it, or one would have to start at h
abbrev pub read_rows : Roll → List ℕ → List ℕ → ℕ → List Row
read_rows r buf dir place =
    refuse 10 0 (leb r.n place)
    ∷ refuse 9 (place / 32) (leb (length dir) (place / 32) || leb r.h (get_or dir (place / 32) 0))
    ∷ refuse 6 (first_bad r.h (from_entry r buf dir place)) (leb (length (ranks_read (from_entry r buf dir place))) (place % 32))
    ∷ []

-- the character of the codeword behind place mod 32 others
abbrev pub one_read : Roll → List ℕ → List ℕ → ℕ → ℕ
one_read r buf dir place = get_or r.table.places (get_or (ranks_read (from_entry r buf dir place)) (place % 32) 0) 0

unfoldable pub read_says : Roll → List ℕ → List ℕ → ℕ → Outcome ℕ
read_says r buf dir place = fit_says r buf then judged (read_rows r buf dir place) (one_read r buf dir place)

pub record ReadingOne (r : Roll) (buf dir : List ℕ) (place : ℕ) (answer : Result ℕ Refusal) : Type 0 where
  pub says : outcome_of answer ≡ read_says r buf dir place

-- ---- search: check's, 11

abbrev pub search_rows : List ℕ → List Row
search_rows pattern = refuse 11 0 (not (good_pattern pattern)) ∷ []

unfoldable pub search_says : Roll → List ℕ → List ℕ → Outcome ℕ
search_says r buf pattern = check_says r buf then judged (search_rows pattern) (length (hits pattern (text_of r buf)))

abbrev pub search_leaves : Roll → List ℕ → List ℕ → List ℕ → List ℕ
search_leaves r buf pattern slice = kept (search_says r buf pattern) slice (listed (hits pattern (text_of r buf)) slice)

pub record Searching (r : Roll) (buf pattern slice : List ℕ) (answer : Result ℕ Refusal) (after : List ℕ) : Type 0 where
  pub says : outcome_of answer ≡ search_says r buf pattern
  pub leaves : after ≡ search_leaves r buf pattern slice

-- ---- edit: check's, 9, 10, 3, 4, 12

-- edit's 9, asked after check's: a sound roll has a right directory
abbrev pub directory_rows : Roll → List ℕ → List ℕ → List Row
directory_rows r buf dir =
    let wrong : ℕ = first_wrong (directory_of (lengths_of r buf)) dir in
    refuse 9 wrong (ltb wrong (entries r.n)) ∷ []

unfoldable pub directory_says : Roll → List ℕ → List ℕ → Outcome (Unit {0})
directory_says r buf dir = check_says r buf then judged (directory_rows r buf dir) tt

abbrev pub edit_rows : Roll → List ℕ → List ℕ → ℕ → ℕ → List ℕ → List Row
edit_rows r buf dir start end text =
    let t : Table = r.table in
    let result : List ℕ = edited (text_of r buf) start end text in
    let foreign : ℕ = first_foreign (characters t) text in
    let over : ℕ = first_over t.code (characters t) (room t.code.k (length buf)) result in
    refuse 10 0 (ltb end start || ltb r.n end)
    ∷ refuse 3 foreign (ltb foreign (length text))
    ∷ refuse 4 over (ltb over (length result))
    ∷ refuse 12 (entries (length result)) (ltb (length dir) (entries (length result)))
    ∷ []

unfoldable pub edit_says : Roll → List ℕ → List ℕ → ℕ → ℕ → List ℕ → Outcome (Unit {0})
edit_says r buf dir start end text = directory_says r buf dir then judged (edit_rows r buf dir start end text) tt

abbrev pub edit_roll : Roll → List ℕ → List ℕ → ℕ → ℕ → List ℕ → Roll
edit_roll r buf dir start end text = kept (edit_says r buf dir start end text) r (record_of r.table (edited (text_of r buf) start end text))

-- what the buffer holds then, and what the directory
abbrev pub edit_leaves : Roll → List ℕ → List ℕ → ℕ → ℕ → List ℕ → List ℕ
edit_leaves r buf dir start end text = kept (edit_says r buf dir start end text) buf (bytes_after r (edited (text_of r buf) start end text) buf)

abbrev pub edit_directory : Roll → List ℕ → List ℕ → ℕ → ℕ → List ℕ → List ℕ
edit_directory r buf dir start end text = kept (edit_says r buf dir start end text) dir (directory_after r (edited (text_of r buf) start end text) dir)

pub record Editing (r : Roll) (buf dir : List ℕ) (start end : ℕ) (text : List ℕ) (e : Edited) (after dir_after : List ℕ) : Type 0 where
  pub says : outcome_of e.answer ≡ edit_says r buf dir start end text
  pub roll : e.roll ≡ edit_roll r buf dir start end text
  pub leaves : after ≡ edit_leaves r buf dir start end text
  pub directory : dir_after ≡ edit_directory r buf dir start end text
