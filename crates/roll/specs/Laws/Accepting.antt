-- Each operation is accepted exactly if: its refusals put in positive words.
use Rattle.std.specs.Prelude.{◌≡◌, ◌↔◌, List, ℕ, ◌-◌, ◌≤◌, ◌<◌, ◌/◌, ◌%◌, T, ltb, leb, eqb, get_or}
use Rattle.std.proofs.Common.{sym, le_of_eq, arith}
use borrow.Author.Tests.{le-ltb, lt-leb, ltb-false, leb-false, eq-eqb, eqb-true, not-false}
use Rattle.std.proofs.Math.ListN.{length}
use Rattle.ground.specs.Paper.Rows.{all_zero}
use Rattle.ground.specs.Paper.Refusals.{accepted}
use Rattle.ground.specs.Laws.Refusals.{Accepted, accepted_none, accepted_parts}
use Rattle.ground.specs.Laws.Tests.{neither, yes_true, true_yes}
use Rattle.stopper.specs.Paper.Table.{good_table, characters}
use Rattle.stopper.specs.declared.table.Table.{Table}
use Rattle.symbols.specs.Paper.Symbols.{room}
use Rattle.texts.specs.Paper.Characters.{first_foreign}
use Rattle.texts.specs.Paper.Directory.{entries, directory_of, first_wrong}
use Rattle.texts.specs.Paper.Hits.{hits, good_pattern}
use Rattle.texts.specs.Paper.Edited.{edited}
use Rattle.texts.specs.Laws.Directory.{wrong_within}
use Rattle.texts.specs.Laws.Characters.{InTable, known_foreign, foreign_known, foreign_within}
use Rattle.reading.specs.Paper.Reading.{ranks_read}
use Rattle.sound.specs.Paper.Roll.{symbols_for, reading, text_of, unused_of, Sound}
use Rattle.sound.specs.Paper.Lengths.{lengths_of, Right}
use Rattle.sound.specs.Laws.Directory.{sound_entries, right_none, none_right}
use Rattle.sound.specs.declared.records.Roll.{Roll}
use Rattle.store.specs.Paper.Fitting.{first_over}
use Rattle.store.specs.Laws.Edited.{Edits}
use Rattle.store.specs.Laws.Fitting.{over_all, over_within}
use Rattle.roll.specs.Paper.Operations.{pack_rows, pack_says, fit_rows, fit_says, check_rows, check_says, unpack_rows, unpack_says, make_rows, make_says, from_entry, read_rows, one_read, read_says, search_rows, search_says, directory_rows, directory_says, edit_rows, edit_says}

-- ---- what check and read one both ask first: the table is good, and h is within the room

pub fits_is : (r : Roll) (buf : List ℕ) → (T (good_table r.table) × (r.h ≤ room r.table.code.k (length buf))) ↔ Accepted (fit_says r buf)
unfolding fit_says
fits_is r buf = (
  λ p. rw (yes_true (good_table r.table) p.0, le-ltb _ _ p.1),
  λ e. let (a, (b, z)) = accepted_none (fit_rows r buf) tt e in (true_yes _ (not-false (good_table r.table) a), ltb-false _ _ b),
)

-- ---- check: the roll is sound

pub sound_accepted : {r : Roll} {buf : List ℕ} → Sound r buf → Accepted (check_says r buf)
unfolding check_says
sound_accepted {r} {buf} s = simp ((fits_is r buf).0 (s.table, s.fits), s.reads, eq-eqb _ _ s.count, yes_true (all_zero (unused_of r buf)) s.unused)

pub accepted_sound : (r : Roll) (buf : List ℕ) → Accepted (check_says r buf) → Sound r buf
unfolding check_says
accepted_sound r buf e =
    let (a, b) = accepted_parts (fit_says r buf) e in
    let (good, fits) = (fits_is r buf).1 a in
    let (c, (d, (f, z))) = accepted_none (check_rows r buf) tt b in
    record {
      table = good;
      fits = fits;
      reads = c;
      count = eqb-true _ _ (not-false (eqb (length (ranks_read (reading r buf))) r.n) d);
      unused = true_yes _ (not-false (all_zero (unused_of r buf)) f);
    }

pub sound_is : (r : Roll) (buf : List ℕ) → Sound r buf ↔ Accepted (check_says r buf)
sound_is r buf = (sound_accepted, accepted_sound r buf)

-- ---- pack: the table is good, the text is in it and its symbols fit

pub record Packs (t : Table) (text buf : List ℕ) : Type 0 where
  pub good : T (good_table t)
  pub known : InTable (characters t) text
  pub fits : length (symbols_for t text) ≤ room t.code.k (length buf)

module _ (t : Table) (text buf : List ℕ) where
  abbrev space : ℕ
  space = room t.code.k (length buf)

  pub packs_accepted : Packs t text buf → Accepted (pack_says t text buf)
  unfolding pack_says
  packs_accepted p =
      simp (
        yes_true (good_table t) p.good,
        le-ltb _ _ (le_of_eq (sym (known_foreign (characters t) p.known))),
        le-ltb _ _ (le_of_eq (sym ((over_all t.code (characters t) space text).1 p.fits))),
      )

  pub accepted_packs : Accepted (pack_says t text buf) → Packs t text buf
  unfolding pack_says
  accepted_packs e =
      let (a, (b, (c, z))) = accepted_none (pack_rows t text buf) tt e in
      let foreign : length text ≤ first_foreign (characters t) text = ltb-false _ _ b in
      let over : length text ≤ first_over t.code (characters t) space text = ltb-false _ _ c in
      record {
        good = true_yes _ (not-false (good_table t) a);
        known = foreign_known (characters t) text (omega (arith, foreign_within (characters t) text));
        fits = (over_all t.code (characters t) space text).0 (omega (arith, over_within t.code (characters t) space text));
      }

  pub packs_is : Packs t text buf ↔ Accepted (pack_says t text buf)
  packs_is = (packs_accepted, accepted_packs)

-- ---- unpack: the roll is sound, the range lies in it and its text fits

pub record Unpacks (r : Roll) (buf : List ℕ) (start end : ℕ) (out : List ℕ) : Type 0 where
  pub sound : Sound r buf
  pub ordered : start ≤ end
  pub inside : end ≤ r.n
  pub fits : end - start ≤ length out

module _ (r : Roll) (buf : List ℕ) (start end : ℕ) (out : List ℕ) where
  pub unpacks_accepted : Unpacks r buf start end out → Accepted (unpack_says r buf start end out)
  unfolding unpack_says
  unpacks_accepted u = rw (sound_accepted u.sound, le-ltb _ _ u.ordered, le-ltb _ _ u.inside, le-ltb _ _ u.fits)

  pub accepted_unpacks : Accepted (unpack_says r buf start end out) → Unpacks r buf start end out
  unfolding unpack_says
  accepted_unpacks e =
      let (a, b) = accepted_parts (check_says r buf) e in
      let (c, (d, z)) = accepted_none (unpack_rows r start end out) tt b in
      let f = neither (ltb end start) (ltb r.n end) c in
      record {
        sound = accepted_sound r buf a;
        ordered = ltb-false _ _ f.0;
        inside = ltb-false _ _ f.1;
        fits = ltb-false _ _ d;
      }

  pub unpacks_is : Unpacks r buf start end out ↔ Accepted (unpack_says r buf start end out)
  unpacks_is = (unpacks_accepted, accepted_unpacks)

-- ---- make a directory: the roll is sound, and its entries fit

pub makes_is : (r : Roll) (buf dir : List ℕ) → (Sound r buf × (entries r.n ≤ length dir)) ↔ Accepted (make_says r buf dir)
unfolding make_says
makes_is r buf dir = (
  λ p. rw (sound_accepted p.0, le-ltb _ _ p.1),
  λ e. let (a, b) = accepted_parts (check_says r buf) e in (accepted_sound r buf a, ltb-false _ _ (accepted_none (make_rows r dir) tt b).0),
)

-- ---- read one: the table is good, h is within the room, the place is below n, its entry is there and below h, and reading from it reaches the place

pub record ReadsOne (r : Roll) (buf dir : List ℕ) (place : ℕ) : Type 0 where
  pub good : T (good_table r.table)
  pub fits : r.h ≤ room r.table.code.k (length buf)
  pub inside : place < r.n
  pub held : place / 32 < length dir
  pub below : get_or dir (place / 32) 0 < r.h
  pub reached : place % 32 < length (ranks_read (from_entry r buf dir place))

pub reads_is : (r : Roll) (buf dir : List ℕ) (place : ℕ) → ReadsOne r buf dir place ↔ (read_says r buf dir place ≡ accepted (one_read r buf dir place))
unfolding read_says
reads_is r buf dir place = (
  λ p. rw ((fits_is r buf).0 (p.good, p.fits), lt-leb _ _ p.inside, lt-leb _ _ p.held, lt-leb _ _ p.below, lt-leb _ _ p.reached),
  λ e.
      let (a, b) = accepted_parts (fit_says r buf) e in
      let (good, fits) = (fits_is r buf).1 a in
      let (c, (d, (f, z))) = accepted_none (read_rows r buf dir place) (one_read r buf dir place) b in
      let g = neither (leb (length dir) (place / 32)) (leb r.h (get_or dir (place / 32) 0)) d in
      record {
        good = good;
        fits = fits;
        inside = leb-false _ _ c;
        held = leb-false _ _ g.0;
        below = leb-false _ _ g.1;
        reached = leb-false _ _ f;
      },
)

-- ---- search: the roll is sound, and the pattern good

pub searches_is : (r : Roll) (buf pattern : List ℕ)
    → (Sound r buf × T (good_pattern pattern)) ↔ (search_says r buf pattern ≡ accepted (length (hits pattern (text_of r buf))))
unfolding search_says
searches_is r buf pattern = (
  λ p. rw (sound_accepted p.0, yes_true (good_pattern pattern) p.1),
  λ e.
      let (a, b) = accepted_parts (check_says r buf) e in
      (accepted_sound r buf a, true_yes _ (not-false (good_pattern pattern) (accepted_none (search_rows pattern) (length (hits pattern (text_of r buf))) b).0)),
)

-- ---- edit: the roll is sound and its directory right, the range lies in it, the text put in is in the table, and the edited text fits

module _ (r : Roll) (buf dir : List ℕ) where
  abbrev wrong : ℕ
  wrong = first_wrong (directory_of (lengths_of r buf)) dir

  -- the rows up to 9: a sound roll with a right directory
  pub right_accepted : Sound r buf → Right r buf dir → Accepted (directory_says r buf dir)
  unfolding directory_says
  right_accepted s h = rw (sound_accepted s, le-ltb _ _ (le_of_eq (sym (right_none s dir h))))

  pub accepted_right : Accepted (directory_says r buf dir) → Sound r buf × Right r buf dir
  unfolding directory_says
  accepted_right e =
      let (a, b) = accepted_parts (check_says r buf) e in
      let (c, z) = accepted_none (directory_rows r buf dir) tt b in
      let s = accepted_sound r buf a in
      let h : entries r.n ≤ wrong = ltb-false _ _ c in
      (s, none_right s dir (omega (arith, wrong_within (directory_of (lengths_of r buf)) dir, sound_entries s)))

  module _ (start end : ℕ) (text : List ℕ) where
    abbrev new : List ℕ
    new = edited (text_of r buf) start end text

    abbrev all : ℕ
    all = room r.table.code.k (length buf)

    pub edits_accepted : Edits r buf dir start end text → Accepted (edit_says r buf dir start end text)
    unfolding edit_says
    edits_accepted u =
        simp (
          right_accepted u.sound u.right,
          le-ltb _ _ u.ordered,
          le-ltb _ _ u.inside,
          le-ltb _ _ (le_of_eq (sym (known_foreign (characters r.table) u.known))),
          le-ltb _ _ (le_of_eq (sym ((over_all r.table.code (characters r.table) all new).1 u.fits))),
          le-ltb _ _ u.listed,
        )

    pub accepted_edits : Accepted (edit_says r buf dir start end text) → Edits r buf dir start end text
    unfolding edit_says
    accepted_edits e =
        let (a, b) = accepted_parts (directory_says r buf dir) e in
        let (s, right) = accepted_right a in
        let (c, (d, (f, (g, z)))) = accepted_none (edit_rows r buf dir start end text) tt b in
        let range = neither (ltb end start) (ltb r.n end) c in
        let foreign : length text ≤ first_foreign (characters r.table) text = ltb-false _ _ d in
        let over : length new ≤ first_over r.table.code (characters r.table) all new = ltb-false _ _ f in
        record {
          sound = s;
          right = right;
          ordered = ltb-false _ _ range.0;
          inside = ltb-false _ _ range.1;
          known = foreign_known (characters r.table) text (omega (arith, foreign_within (characters r.table) text));
          fits =
              (over_all r.table.code (characters r.table) all new).0
              (omega (arith, over_within r.table.code (characters r.table) all new));
          listed = ltb-false _ _ g;
        }

    pub edits_is : Edits r buf dir start end text ↔ Accepted (edit_says r buf dir start end text)
    edits_is = (edits_accepted, accepted_edits)
