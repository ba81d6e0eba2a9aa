-- The promises: a law for a refused call and one for an accepted call.
use Rattle.std.specs.Prelude.{◌≡◌, refl, ◌≢◌, true, false, not, List, [], ◌∷◌, ◌++◌, ℕ, ◌-◌, ◌≤◌, ◌<◌, T, ltb, length, drop, Result, Ok, Err}
use Rattle.std.specs.Result.{result_unwrap_or}
use Rattle.std.proofs.Math.Path.{sym}
use Rattle.std.proofs.Math.Logic.{⊎_elim}
use Rattle.std.proofs.Common.{le_of_eq, ap, arith}
use borrow.Author.Tests.{lt-ltb, le-ltb, eq-eqb, ne_eqb, not-false}
use Rattle.ground.specs.Paper.Refusals.{refuse, refused, judged}
use Rattle.ground.specs.Paper.Runs.{run}
use Rattle.ground.specs.Paper.Rows.{all_zero}
use Rattle.ground.specs.Laws.Answers.{ok_accepted, err_refused, beside_kept}
use Rattle.ground.specs.Laws.Refusals.{Accepted, accepted_none, accepted_parts, refused_row, refused_parts, refused_keeps}
use Rattle.ground.specs.Laws.Tests.{true_yes}
use Rattle.ground.specs.Paper.Answers.{number_of, value_of}
use Rattle.ground.specs.declared.refusal.Refusal.{Refusal}
use Rattle.ground.specs.declared.refusal.Refusal.TheVariants.{NoRoom}
use Rattle.stopper.specs.Paper.Table.{characters}
use Rattle.stopper.specs.Paper.Reading.{Reading, done, bad}
use Rattle.stopper.specs.declared.table.Table.{Table}
use Rattle.symbols.specs.Paper.Symbols.{room}
use Rattle.texts.specs.Paper.Characters.{first_foreign}
use Rattle.texts.specs.Paper.Directory.{entries, directory_of}
use Rattle.texts.specs.Paper.Edited.{edited}
use Rattle.texts.specs.Paper.Hits.{hits, good_pattern, listed}
use Rattle.reading.specs.Paper.Reading.{is_bad, first_bad, ranks_read}
use Rattle.reading.specs.Helpers.Codewords.{Reads, scanned}
use Rattle.reading.specs.declared.codewords.BadWord.{BadWord}
use Rattle.sound.specs.Paper.Roll.{reading, text_of, unused_of, symbols_for, record_of, Sound}
use Rattle.sound.specs.Paper.Lengths.{lengths_of, Right}
use Rattle.sound.specs.Laws.Sound.{table_reads}
use Rattle.sound.specs.declared.records.Roll.{Roll}
use Rattle.store.specs.Paper.Fitting.{first_over}
use Rattle.store.specs.Paper.Stored.{packed_into, bytes_after, directory_after}
use Rattle.roll.specs.Paper.Operations.{pack_says, no_roll, pack_roll, Packing, fit_says, check_says, Checking, unpack_says, Unpacking, make_says, Making, search_rows, search_says, Searching, edit_says, edit_roll, Editing}
use Rattle.roll.specs.Helpers.Refused.{PatternChecked, DirectoryChecked, Changing}
use Rattle.roll.specs.Laws.Accepting.{fits_is, accepted_sound, Packs, packs_accepted, Unpacks, unpacks_accepted, makes_is, searches_is, right_accepted, accepted_right}

-- ---- pack

module _ {t : Table} {text buf : List ℕ} where
  pub pack_refused : {e : Refusal} → pack_says t text buf ≡ refused (number_of e) (value_of e) → Packing t text buf (Err e) buf
  pack_refused e = record { says = rw e; leaves = rw e }

  pub pack_yes : {q : Roll} {after : List ℕ} → Packs t text buf → q ≡ record_of t text → after ≡ packed_into t.code.k (symbols_for t text) buf
      → Packing t text buf (Ok q) after
  pack_yes u p q = let e = packs_accepted t text buf u in record { says = rw (e, p); leaves = rw e q }

  -- what is answered, or `no_roll` beside a refusal
  pub packing_roll : {r : Result Roll Refusal} {after : List ℕ} → Packing t text buf r after → result_unwrap_or r (no_roll t) ≡ pack_roll t text buf
  packing_roll {r} p = beside_kept (pack_says t text buf) r _ _ p.says

-- ---- what check and read one both ask first

pub fits_reads : (r : Roll) (buf : List ℕ) → Accepted (fit_says r buf) → (p : ℕ) → p ≤ r.h → Reads r.table.code r.table.sigma buf r.h p
fits_reads r buf a = let (good, fits) = (fits_is r buf).1 a in table_reads r buf good fits

-- ---- check

-- what a scan says of the reading
scan_whole : (o : Reading) {n : ℕ} → Ok n ≡ scanned o → (is_bad o ≡ false) × (length (ranks_read o) ≡ n)
unfolding scanned is_bad ranks_read
scan_whole (done rs) e = (refl, cc)
scan_whole (bad f p rs) e = let z : ◌≡◌ {A = ℕ} 0 1 = cc in absurd (omega arith)

scan_bad : (h : ℕ) (o : Reading) {b : BadWord} → Err b ≡ scanned o → (is_bad o ≡ true) × (first_bad h o ≡ b.first)
unfolding scanned is_bad first_bad
scan_bad h (done rs) e = let z : ◌≡◌ {A = ℕ} 0 1 = cc in absurd (omega arith)
scan_bad h (bad f p rs) {b} e = let same : b ≡ record { first = p } = cc in (refl, ap (λ (x : BadWord). x.first) (sym same))

module _ (r : Roll) (buf : List ℕ) (a : Accepted (fit_says r buf)) where
  pub check_6 : {b : BadWord} → Err b ≡ scanned (reading r buf) → check_says r buf ≡ refused 6 b.first
  unfolding check_says
  check_6 e = let f = scan_bad r.h (reading r buf) e in rw (a, f.0, f.1)

  module _ {n : ℕ} (e : Ok n ≡ scanned (reading r buf)) where
    pub check_7 : n ≢ r.n → check_says r buf ≡ refused 7 n
    unfolding check_says
    check_7 d = let f = scan_whole (reading r buf) e in rw (a, f.0, f.1, ne_eqb _ _ d)

    pub check_last : n ≡ r.n → check_says r buf ≡ judged (refuse 8 0 (not (all_zero (unused_of r buf))) ∷ []) tt
    unfolding check_says
    check_last d = let f = scan_whole (reading r buf) e in rw (a, f.0, f.1, eq-eqb _ _ d)

pub check_sound : {r : Roll} {buf : List ℕ} → Checking r buf (Ok tt) → Sound r buf
check_sound {r} {buf} c = accepted_sound r buf (sym c.says)

-- ---- unpack a range

module _ {r : Roll} {buf : List ℕ} {start end : ℕ} {out : List ℕ} where
  pub unpack_refused : {e : Refusal} → unpack_says r buf start end out ≡ refused (number_of e) (value_of e) → Unpacking r buf start end out (Err e) out
  unpack_refused e = record { says = sym e; leaves = rw e }

  pub unpack_yes : {after : List ℕ} → Unpacks r buf start end out → after ≡ run (text_of r buf) start end ++ drop (end - start) out
      → Unpacking r buf start end out (Ok tt) after
  unpack_yes u p = let e = unpacks_accepted r buf start end out u in record { says = sym e; leaves = rw e p }

-- ---- make a directory

module _ {r : Roll} {buf dir : List ℕ} where
  pub make_refused : {e : Refusal} → make_says r buf dir ≡ refused (number_of e) (value_of e) → Making r buf dir (Err e) dir
  make_refused e = record { says = sym e; leaves = rw e }

  pub make_yes : {after : List ℕ} → Sound r buf → entries r.n ≤ length dir → after ≡ directory_of (lengths_of r buf) ++ drop (entries r.n) dir → Making r buf dir (Ok tt) after
  make_yes s h p = let e = (makes_is r buf dir).0 (s, h) in record { says = sym e; leaves = rw e p }

-- ---- search

pub pattern_sound : {r : Roll} {buf pattern : List ℕ} → PatternChecked r buf pattern (Ok tt) → Sound r buf × T (good_pattern pattern)
pattern_sound {r} {buf} {pattern} c =
    let (a, b) = accepted_parts (check_says r buf) (sym c.says) in
    (accepted_sound r buf a, true_yes _ (not-false (good_pattern pattern) (accepted_none (search_rows pattern) tt b).0))

module _ {r : Roll} {buf pattern slice : List ℕ} where
  -- what check_pattern refuses, a search refuses alike
  pub search_refused : {e : Refusal} → PatternChecked r buf pattern (Err e) → Searching r buf pattern slice (Err e) slice
  unfolding search_says
  search_refused {e} c =
      let z : search_says r buf pattern ≡ refused (number_of e) (value_of e)
      = ⊎_elim
      (λ x. rw x)
      (λ x. ⊎_elim (λ y. rw (x.0, y.0, y.1, y.2)) (λ y. absurd y.1) (refused_row (search_rows pattern) tt x.1))
      (refused_parts (check_says r buf) (sym c.says)) in
      record { says = sym z; leaves = rw z }

  pub search_yes : {n : ℕ} {after : List ℕ} → Sound r buf → T (good_pattern pattern) → n ≡ length (hits pattern (text_of r buf))
      → after ≡ listed (hits pattern (text_of r buf)) slice → Searching r buf pattern slice (Ok n) after
  search_yes s g p q = let e = (searches_is r buf pattern).0 (s, g) in record { says = rw (e, p); leaves = rw e q }

-- ---- edit

pub directory_sound : {r : Roll} {buf dir : List ℕ} → DirectoryChecked r buf dir (Ok tt) → Sound r buf × Right r buf dir
directory_sound {r} {buf} {dir} d = accepted_right r buf dir (sym d.says)

-- a refused change leaves all as it was
pub change_refused : {r : Roll} {buf dir : List ℕ} {start end : ℕ} {text : List ℕ} {e : Refusal} → edit_says r buf dir start end text ≡ refused (number_of e) (value_of e)
    → Changing r buf dir start end text (Err e) buf dir
change_refused e = record { says = rw e; leaves = rw e; directory = rw e }

-- an edit answers the record after a change; a refused one answers the record that came in
module _ {r : Roll} {buf dir : List ℕ} {start end : ℕ} {text : List ℕ} {after dir_after : List ℕ} where
  pub edit_changed : {q : Roll} → Changing r buf dir start end text (Ok q) after dir_after → Editing r buf dir start end text (record { answer = Ok tt; roll = q }) after dir_after
  edit_changed p = let (a, q) = ok_accepted (edit_roll r buf dir start end text) p.says refl in record { says = sym a; roll = q; leaves = p.leaves; directory = p.directory }

  pub edit_unchanged : {e : Refusal} → Changing r buf dir start end text (Err e) after dir_after → Editing r buf dir start end text (record { answer = Err e; roll = r }) after dir_after
  edit_unchanged p =
      let o = err_refused (edit_roll r buf dir start end text) p.says refl in
      record { says = sym o; roll = sym (refused_keeps o _ _); leaves = p.leaves; directory = p.directory }

pub edit_refused : {r : Roll} {buf dir : List ℕ} {start end : ℕ} {text : List ℕ} {e : Refusal} → edit_says r buf dir start end text ≡ refused (number_of e) (value_of e)
    → Editing r buf dir start end text (record { answer = Err e; roll = r }) buf dir
edit_refused e = edit_unchanged (change_refused e)

module _ {r : Roll} {buf : List ℕ} (dir : List ℕ) (start end : ℕ) (text : List ℕ) (s : Sound r buf) (right : Right r buf dir) (a : start ≤ end) (b : end ≤ r.n)
    (f : first_foreign (characters r.table) text ≡ length text) where
  -- the edited text, and where it does not fit
  abbrev new : List ℕ
  new = edited (text_of r buf) start end text

  abbrev full : ℕ
  full = first_over r.table.code (characters r.table) (room r.table.code.k (length buf)) new

  pub change_4 : {v : ℕ} → v ≡ full → v < length new → Changing r buf dir start end text (Err (NoRoom v)) buf dir
  unfolding edit_says
  change_4 {v = v} p h =
      change_refused {e = NoRoom v} (rw (p, right_accepted r buf dir s right, le-ltb _ _ a, le-ltb _ _ b, le-ltb _ _ (le_of_eq (sym f)), lt-ltb _ _ (rw p at h)))

  pub edit_4 : {v : ℕ} → v ≡ full → v < length new → Editing r buf dir start end text (record { answer = Err (NoRoom v); roll = r }) buf dir
  edit_4 p h = edit_unchanged (change_4 p h)

  -- the last row decides
  pub edit_last : full ≡ length new → edit_says r buf dir start end text ≡ judged (refuse 12 (entries (length new)) (ltb (length dir) (entries (length new))) ∷ []) tt
  unfolding edit_says
  edit_last o = rw (right_accepted r buf dir s right, le-ltb _ _ a, le-ltb _ _ b, le-ltb _ _ (le_of_eq (sym f)), le-ltb _ _ (le_of_eq (sym o)))

pub change_yes : {r : Roll} {buf dir : List ℕ} {start end : ℕ} {text : List ℕ} {q : Roll} {after dir_after : List ℕ} → let new = edited (text_of r buf) start end text in
    Accepted (edit_says r buf dir start end text) → q ≡ record_of r.table new → after ≡ bytes_after r new buf → dir_after ≡ directory_after r new dir
    → Changing r buf dir start end text (Ok q) after dir_after
change_yes e p q o = record { says = rw (e, p); leaves = rw e q; directory = rw e o }

pub edit_yes : {r : Roll} {buf dir : List ℕ} {start end : ℕ} {text : List ℕ} {q : Roll} {after dir_after : List ℕ} → let new = edited (text_of r buf) start end text in
    Accepted (edit_says r buf dir start end text) → q ≡ record_of r.table new → after ≡ bytes_after r new buf → dir_after ≡ directory_after r new dir
    → Editing r buf dir start end text (record { answer = Ok tt; roll = q }) after dir_after
edit_yes e p q o = edit_changed (change_yes e p q o)
