-- Page one: the owner's three demands, clause by clause, as statements about calls of the operations. `Packing t text buf p after` says that a call of pack
-- with that table, text and buffer answered p and left `after` in the buffer; `Editing` and the rest likewise (Paper/Operations of `roll`, `choosing` and
-- `stopper`). p is `Ok q` with the roll's record q, or `Err e` with a refusal e of number `number_of e` and value `value_of e`; an edit answers `e.answer`, `Ok tt` or
-- such an `Err`, and beside it the record `e.roll`. Every call of the code is such a call: that is what each operation's own proof says, and that it finishes and does
-- nothing undefined.
--
-- `TextIs r buf text`: unpacking the whole roll is accepted and gives that text. `DirectoryIs r buf dir`: making the directory again is accepted and changes
-- nothing in it. Lists of numbers stand for slices: that a table has 256 places and that bytes are below 256 is asked where it matters, and holds of every call.
use Rattle.std.specs.Prelude.{◌≡◌, refl, ◌⊎◌, ◌↔◌, List, ◌++◌, ℕ, ◌+◌, ◌-◌, ◌/◌, ◌≤◌, ◌<◌, length, take, drop, get_or, Result, Ok, Err}
use Rattle.std.proofs.Common.{sym, ap, subst, ◌∙◌, arith, take-append-drop}
use Rattle.std.proofs.lemmas.Bool.{not-false}
use Rattle.ground.specs.Paper.Rows.{zeros}
use Rattle.ground.specs.Paper.Runs.{run}
use Rattle.ground.specs.Helpers.Below.{Below}
use Rattle.ground.specs.Paper.Answers.{number_of, value_of}
use Rattle.ground.specs.Laws.Answers.{says_as, says_one, accepted_ok, ok_accepted, err_refused}
use Rattle.ground.specs.Laws.Refusals.{refused_keeps, accepted_leaves, accepted_none, accepted_parts, Refuses, refused_row}
use Rattle.ground.specs.Laws.Rows.{tab_at}
use Rattle.ground.specs.Laws.Tests.{true_yes}
use Rattle.ground.specs.declared.refusal.Refusal.{Refusal}
use Rattle.ground.specs.declared.refusal.Refusal.TheVariants.{NotInTable, BadCodeword, BadPattern}
use Rattle.stopper.specs.Paper.Code.{IsCodeword}
use Rattle.stopper.specs.Paper.Table.{base, stoppers, word_of, characters}
use Rattle.stopper.specs.Paper.Operations.{codeword_rows, codeword_says, codeword_given, Coding, character_rows, character_at, character_says, Decoding, word_in}
use Rattle.stopper.specs.Laws.Characters.{◌∈◌}
use Rattle.stopper.specs.declared.table.Table.{Table}
use Rattle.stopper.specs.declared.codeword_of.Codeword.{Codeword}
use Rattle.choosing.specs.Paper.Choosing.{occurs, counts_of, twelve, counted, total, chosen, chosen_table}
use Rattle.choosing.specs.Paper.Operations.{count_rows, count_says, Counting, choose_rows, choose_says, choice_of, Choosing}
use Rattle.choosing.specs.Laws.Ranking.{ranking}
use Rattle.choosing.specs.Laws.Choosing.{Fewest, chosen_least}
use Rattle.choosing.specs.Laws.Raised.{unheld, counted_lent, counted_raised, chosen_row, chosen_mem}
use Rattle.choosing.specs.Laws.Operations.{chosen_width, lent_long, chosen_table_lem, chosen_total}
use Rattle.choosing.specs.declared.choose.Choice.{Choice}
use Rattle.symbols.specs.Paper.Symbols.{per, bytes_for, room, symbols_of}
use Rattle.texts.specs.Paper.Directory.{entries}
use Rattle.texts.specs.Paper.Hits.{hits, good_pattern}
use Rattle.texts.specs.Paper.Edited.{edited}
use Rattle.texts.specs.Laws.Patterns.{pattern_newline, pattern_least, pattern_most, pattern_line, pattern_good}
use Rattle.texts.specs.Laws.Hits.{Front, stands_front, front_stands, Rising, hit_is, hits_rising}
use Rattle.sound.specs.Paper.Roll.{symbols_for, record_of, text_of}
use Rattle.sound.specs.Laws.Texts.{length_parts}
use Rattle.sound.specs.Helpers.Held.{Held}
use Rattle.sound.specs.Laws.Holding.{Holds, holds_row, sound_h, sound_record, sound_holds}
use Rattle.sound.specs.declared.records.Roll.{Roll}
use Rattle.store.specs.Paper.Stored.{packed_into}
use Rattle.store.specs.Laws.Edited.{edit_sound, edit_text, edit_right, edit_before, edit_even, edit_cleared, edit_kept, edit_cleared_directory, edit_kept_directory}
use Rattle.roll.specs.Paper.Operations.{pack_rows, pack_says, pack_roll, Packing, fit_rows, check_says, Checking, unpack_rows, unpack_says, Unpacking, make_rows, make_says, Making, read_rows, one_read, read_says, ReadingOne, search_rows, search_says, Searching, directory_says, edit_rows, edit_says, Editing}
use Rattle.roll.specs.Laws.Accepting.{sound_accepted, accepted_sound, accepted_packs, unpacks_is, makes_is, searches_is}
use Rattle.roll.specs.declared.edit.Edited.{Edited}
use Rattle.demands.specs.Counted.{AlwaysKnown, always_known, known_packs, known_4, never_3, CountedIn, in_known, in_total, counts_in, counted_total}
use Rattle.demands.specs.Meaning.{packed_holds, pack_unpack, packing_sound, packing_unpacking}
use Rattle.demands.specs.Made.{made_sound, made_right, reads_right}
use Rattle.demands.specs.Edits.{edits_yes, editing_yes, edit_as_packed}
use Rattle.demands.specs.Calls.{TextIs, DirectoryIs, text_sound, text_is, sound_text, text_one, text_checked, text_unpacked, packed_text, directory_right, right_directory, drop_past_both, put_in_known}
use Rattle.demands.specs.Orders.{rows_of_check, rows_of_directory, fit_decided, check_decided, directory_decided, then_refuses}
use Rattle.demands.specs.Chosen.{InOrder, ranking_order}
use Rattle.demands.specs.After.{symbols_cleared, bytes_kept}
use Rattle.demands.specs.Code.{coded_decoded, decoded_coded, code_stopper, code_rank, code_shorter, Codewords, codewords_row, codewords_known, text_codewords}
use Rattle.demands.specs.Fault.{FaultAt, fault_check, fault_unpack, fault_make, fault_search, fault_edit}

-- ---- 1. Bad tables, rolls, places and buffers are refused by number, in a fixed order: the number and the value are those of the first row that applies

pub order_count : {text counts after : List ℕ} {e : Refusal} → Counting text counts (Err e) after → Refuses (count_rows text counts) (number_of e) (value_of e)
unfolding count_says
order_count {text} {counts} p = refused_row (count_rows text counts) tt (sym p.says)

pub order_choose : {k : ℕ} {counts : List ℕ} {e : Refusal} → Choosing k counts (Err e) → Refuses (choose_rows k counts) (number_of e) (value_of e)
unfolding choose_says
order_choose {k} {counts} p = refused_row (choose_rows k counts) tt (err_refused (choice_of k counts) p.says refl)

pub order_codeword : {t : Table} {b : ℕ} {e : Refusal} → Coding t b (Err e) → Refuses (codeword_rows t b) (number_of e) (value_of e)
unfolding codeword_says
order_codeword {t} {b} p = refused_row (codeword_rows t b) tt (err_refused (codeword_given t b) p.says refl)

pub order_character : {t : Table} {w : Codeword} {e : Refusal} → Decoding t w (Err e) → Refuses (character_rows t w) (number_of e) (value_of e)
unfolding character_says
order_character {t} {w} p = refused_row (character_rows t w) (character_at t (word_in w)) (sym p.says)

pub order_pack : {t : Table} {text buf after : List ℕ} {e : Refusal} → Packing t text buf (Err e) after → Refuses (pack_rows t text buf) (number_of e) (value_of e)
unfolding pack_says
order_pack {t} {text} {buf} p = refused_row (pack_rows t text buf) tt (err_refused (pack_roll t text buf) p.says refl)

pub order_check : {r : Roll} {buf : List ℕ} {e : Refusal} → Checking r buf (Err e) → Refuses (rows_of_check r buf) (number_of e) (value_of e)
order_check {r} {buf} p = (check_decided r buf).refuses (sym p.says)

pub order_unpack : {r : Roll} {buf out after : List ℕ} {start end : ℕ} {e : Refusal} → Unpacking r buf start end out (Err e) after
    → Refuses (rows_of_check r buf ++ unpack_rows r start end out) (number_of e) (value_of e)
unfolding unpack_says
order_unpack {r} {buf} {out} {after} {start} {end} p = then_refuses (check_decided r buf) (unpack_rows r start end out) tt (sym p.says)

pub order_make : {r : Roll} {buf dir after : List ℕ} {e : Refusal} → Making r buf dir (Err e) after
    → Refuses (rows_of_check r buf ++ make_rows r dir) (number_of e) (value_of e)
unfolding make_says
order_make {r} {buf} {dir} p = then_refuses (check_decided r buf) (make_rows r dir) tt (sym p.says)

pub order_read : {r : Roll} {buf dir : List ℕ} {place : ℕ} {e : Refusal} → ReadingOne r buf dir place (Err e)
    → Refuses (fit_rows r buf ++ read_rows r buf dir place) (number_of e) (value_of e)
unfolding read_says
order_read {r} {buf} {dir} {place} p = then_refuses (fit_decided r buf) (read_rows r buf dir place) (one_read r buf dir place) (sym p.says)

pub order_search : {r : Roll} {buf pattern slice after : List ℕ} {e : Refusal} → Searching r buf pattern slice (Err e) after
    → Refuses (rows_of_check r buf ++ search_rows pattern) (number_of e) (value_of e)
unfolding search_says
order_search {r} {buf} {pattern} p = then_refuses (check_decided r buf) (search_rows pattern) (length (hits pattern (text_of r buf))) (sym p.says)

pub order_edit : {r : Roll} {buf dir new after dir_after : List ℕ} {start end : ℕ} {e : Edited} {f : Refusal} → Editing r buf dir start end new e after dir_after
    → e.answer ≡ Err f → Refuses (rows_of_directory r buf dir ++ edit_rows r buf dir start end new) (number_of f) (value_of f)
unfolding edit_says
order_edit {r} {buf} {dir} {new} {after} {dir_after} {start} {end} {e} {f} p y =
    then_refuses (directory_decided r buf dir) (edit_rows r buf dir start end new) tt (says_as {b = Err f} p.says y)

-- what check refuses is refused first, with the same number and value, by every operation that checks
pub unpack_checks : {r : Roll} {buf out after : List ℕ} {start end : ℕ} {e : Refusal} {answer : Result (Unit {0}) Refusal} → Checking r buf (Err e)
    → Unpacking r buf start end out answer after → answer ≡ Err e
unfolding unpack_says
unpack_checks {e = e} {answer = answer} c p = says_one answer (Err e) (p.says ∙ rw (sym c.says))

pub make_checks : {r : Roll} {buf dir after : List ℕ} {e : Refusal} {answer : Result (Unit {0}) Refusal} → Checking r buf (Err e) → Making r buf dir answer after
    → answer ≡ Err e
unfolding make_says
make_checks {e = e} {answer = answer} c p = says_one answer (Err e) (p.says ∙ rw (sym c.says))

pub search_checks : {r : Roll} {buf pattern slice after : List ℕ} {e : Refusal} {answer : Result ℕ Refusal} → Checking r buf (Err e)
    → Searching r buf pattern slice answer after → answer ≡ Err e
unfolding search_says
search_checks {e = e} {answer = answer} c p = says_one answer (Err e) (p.says ∙ rw (sym c.says))

pub edit_checks : {r : Roll} {buf dir new after dir_after : List ℕ} {start end : ℕ} {f : Refusal} {e : Edited} → Checking r buf (Err f)
    → Editing r buf dir start end new e after dir_after → e.answer ≡ Err f
unfolding edit_says directory_says
edit_checks {f = f} {e = e} c p = says_one e.answer (Err f) (p.says ∙ rw (sym c.says))

-- and what is accepted was good
pub unpack_good : {r : Roll} {buf out after : List ℕ} {start end : ℕ} → Unpacking r buf start end out (Ok tt) after
    → Checking r buf (Ok tt) × (start ≤ end) × (end ≤ r.n) × (end - start ≤ length out)
unpack_good {r} {buf} {out} {after} {start} {end} p =
    let u = (unpacks_is r buf start end out).1 (sym p.says) in
    (record { says = sym (sound_accepted u.sound) }, u.ordered, u.inside, u.fits)

pub make_good : {r : Roll} {buf dir after : List ℕ} → Making r buf dir (Ok tt) after → Checking r buf (Ok tt) × (entries r.n ≤ length dir)
make_good {r} {buf} {dir} p = let (s, h) = (makes_is r buf dir).1 (sym p.says) in (record { says = sym (sound_accepted s) }, h)

pub edit_good : {r : Roll} {buf dir new after dir_after : List ℕ} {start end : ℕ} {e : Edited} → Editing r buf dir start end new e after dir_after → e.answer ≡ Ok tt
    → Checking r buf (Ok tt) × DirectoryIs r buf dir × (start ≤ end) × (end ≤ r.n)
edit_good p y =
    let u = (editing_yes p y).0 in
    (record { says = sym (sound_accepted u.sound) }, right_directory u.sound u.right, u.ordered, u.inside)

-- check's 6, and that of every operation that checks, names the first symbol of the first bad codeword: good codewords stand before it, and there one does not end
-- by symbol h or has a rank of σ or more (`FaultAt`)
pub six_check : {r : Roll} {buf : List ℕ} {v : ℕ} → Checking r buf (Err (BadCodeword v)) → FaultAt r buf v
six_check = fault_check

pub six_unpack : {r : Roll} {buf out after : List ℕ} {start end v : ℕ} → Unpacking r buf start end out (Err (BadCodeword v)) after → FaultAt r buf v
six_unpack = fault_unpack

pub six_make : {r : Roll} {buf dir after : List ℕ} {v : ℕ} → Making r buf dir (Err (BadCodeword v)) after → FaultAt r buf v
six_make = fault_make

pub six_search : {r : Roll} {buf pattern slice after : List ℕ} {v : ℕ} → Searching r buf pattern slice (Err (BadCodeword v)) after → FaultAt r buf v
six_search = fault_search

pub six_edit : {r : Roll} {buf dir new after dir_after : List ℕ} {start end v : ℕ} {e : Edited} → Editing r buf dir start end new e after dir_after
    → e.answer ≡ Err (BadCodeword v) → FaultAt r buf v
six_edit = fault_edit

-- ---- A refused call changes nothing it was lent. Check, read one, choose, codeword of and character of are lent nothing to write.

pub count_keeps : {text counts after : List ℕ} {e : Refusal} → Counting text counts (Err e) after → after ≡ counts
count_keeps p = p.leaves ∙ refused_keeps (sym p.says) _ _

pub pack_keeps : {t : Table} {text buf after : List ℕ} {e : Refusal} → Packing t text buf (Err e) after → after ≡ buf
pack_keeps {t} {text} {buf} p = p.leaves ∙ refused_keeps (err_refused (pack_roll t text buf) p.says refl) _ _

pub unpack_keeps : {r : Roll} {buf out after : List ℕ} {start end : ℕ} {e : Refusal} → Unpacking r buf start end out (Err e) after → after ≡ out
unpack_keeps p = p.leaves ∙ refused_keeps (sym p.says) _ _

pub make_keeps : {r : Roll} {buf dir after : List ℕ} {e : Refusal} → Making r buf dir (Err e) after → after ≡ dir
make_keeps p = p.leaves ∙ refused_keeps (sym p.says) _ _

pub search_keeps : {r : Roll} {buf pattern slice after : List ℕ} {e : Refusal} → Searching r buf pattern slice (Err e) after → after ≡ slice
search_keeps p = p.leaves ∙ refused_keeps (sym p.says) _ _

-- nor does the record differ
pub edit_keeps : {r : Roll} {buf dir new after dir_after : List ℕ} {start end : ℕ} {e : Edited} {f : Refusal} → Editing r buf dir start end new e after dir_after
    → e.answer ≡ Err f → (e.roll ≡ r) × (after ≡ buf) × (dir_after ≡ dir)
edit_keeps {f = f} p y =
    let e = says_as {b = Err f} p.says y in
    (p.roll ∙ refused_keeps e _ _, p.leaves ∙ refused_keeps e _ _, p.directory ∙ refused_keeps e _ _)

-- ---- 2. Packing follows the published stopper code: a codeword is continuers and then one stopper, the character of rank i has codeword i, shorter ones come
-- first; codeword of a character and character of a codeword are each other's way back

pub code_is_stopper : {t : Table} {b : ℕ} {c : Codeword} → Coding t b (Ok c) → IsCodeword (base t.code) (stoppers t.code) 0 (word_in c)
code_is_stopper = code_stopper

pub code_by_rank : {t : Table} {i : ℕ} {c : Codeword} → length t.places ≡ 256 → i < t.sigma → Coding t (get_or t.places i 0) (Ok c) → word_in c ≡ word_of t.code i
code_by_rank = code_rank

pub code_shorter_first : {t : Table} {i j : ℕ} {c d : Codeword} → length t.places ≡ 256 → i ≤ j → j < t.sigma → Coding t (get_or t.places i 0) (Ok c)
    → Coding t (get_or t.places j 0) (Ok d) → length (word_in c) ≤ length (word_in d)
code_shorter_first = code_shorter

pub code_back : {t : Table} {b : ℕ} {c : Codeword} {a : Result ℕ Refusal} → Coding t b (Ok c) → Decoding t c a → a ≡ Ok b
code_back = coded_decoded

pub code_forth : {t : Table} {w : Codeword} {b : ℕ} {a : Result Codeword Refusal} → length t.places ≡ 256 → Decoding t w (Ok b) → Coding t b a
    → (c : Codeword) × (a ≡ Ok c) × (word_in c ≡ word_in w)
code_forth = decoded_coded

-- a packed text's symbols are the codewords of its characters, one after the other
pub packed_codewords : {t : Table} {text buf after : List ℕ} {q : Roll} → Packing t text buf (Ok q) after → Codewords t text (take q.h (symbols_of t.code.k after))
packed_codewords {t} {text} {buf} p =
    let (e, roll) = ok_accepted (pack_roll t text buf) p.says refl in
    let packs = accepted_packs t text buf e in
    rw (roll ∙ accepted_leaves e _ _, p.leaves ∙ accepted_leaves e _ _, holds_row (packed_holds t text buf packs)) (text_codewords packs.good packs.known)

-- ---- with our ranking rule: count tells how often each byte occurs; in choosing a count is as it is lent, but each of the ten digits, `+` and byte 10 counts
-- as at least 1 (`counted`); of two characters the one that counts more has the smaller rank, of equal counts the smaller byte (`InOrder`); and s is the one with the
-- fewest symbols, of equals the smallest (`Fewest`)

pub count_tells : {text counts after : List ℕ} {b : ℕ} → Counting text counts (Ok tt) after → b < 256 → get_or after b 0 ≡ occurs text b
unfolding counts_of
count_tells {text} {counts} {after} {b} p h = rw (p.leaves ∙ accepted_leaves (sym p.says) _ _) (tab_at (occurs text) 256 b h)

packed_h : {t : Table} {text buf after : List ℕ} {q : Roll} → Packing t text buf (Ok q) after → q.h ≡ length (symbols_for t text)
packed_h w = ap (λ (x : Roll). x.h) (packing_sound w).0

pub chosen_ranked : {k : ℕ} {counts : List ℕ} {c : Choice} → Choosing k counts (Ok c) → InOrder (counted counts) (characters c.table) × Fewest k (counted counts) c.table.code
unfolding chosen_table
chosen_ranked {k} {counts} p =
    rw (chosen_table_lem p) (
      ranking_order (rw (chosen_row k counts) (ranking (counted counts))),
      chosen_least k (counted counts) (chosen_width p),
    )

pub count_as_lent : (counts : List ℕ) (b : ℕ) → (0 < get_or counts b 0) ⊎ (b ∈ twelve → ⊥) → counted counts b ≡ get_or counts b 0
count_as_lent = counted_lent

pub count_raised : (counts : List ℕ) (b : ℕ) → b ∈ twelve → get_or counts b 0 ≡ 0 → counted counts b ≡ 1
count_raised = counted_raised

-- a character is in the chosen table exactly if it was counted or is one of the twelve
pub chosen_characters : {k : ℕ} {counts : List ℕ} {c : Choice} {b : ℕ} → Choosing k counts (Ok c) → b ∈ characters c.table ↔ ((0 < get_or counts b 0) ⊎ (b ∈ twelve))
chosen_characters {k} {counts} {c} {b} p = rw (chosen_table_lem p) (chosen_mem k counts (lent_long p) b)

-- digits always fit: whatever the counts, a text of the twelve and of characters that were counted (`AlwaysKnown`) is refused neither 1 nor 3 under the chosen table:
-- it is packed if its symbols have room, and else refused 4. A text that is counted in the counts is such a text
pub digits_packed : {k : ℕ} {counts text buf after : List ℕ} {c : Choice} {a : Result Roll Refusal} → Choosing k counts (Ok c) → AlwaysKnown counts text
    → Packing c.table text buf a after → ((q : Roll) × (a ≡ Ok q)) ↔ (length (symbols_for c.table text) ≤ room k (length buf))
digits_packed {k} {counts} {text} {buf} {after} {c} {a} p known w =
    let table = chosen_table_lem p in
    let says = ap (λ (t : Table). pack_says t text buf) table in
    let q = known_packs k counts (chosen_width p) (always_known k counts (lent_long p) known) buf in
    let given : Roll = pack_roll c.table text buf in
    (λ z. rw table (q.0 (sym says ∙ (ok_accepted given w.says z.1).0)), λ fits. (given, accepted_ok given w.says (says ∙ q.1 (rw table at fits))))

pub digits_pack : {k : ℕ} {counts text buf after : List ℕ} {c : Choice} {e : Refusal} → Choosing k counts (Ok c) → AlwaysKnown counts text
    → Packing c.table text buf (Err e) after → number_of e ≡ 4
digits_pack {k} {counts} {text} {buf} {after} {c} p known w =
    known_4 k counts (chosen_width p) (always_known k counts (lent_long p) known) buf
    (sym (ap (λ (t : Table). pack_says t text buf) (chosen_table_lem p)) ∙ err_refused (pack_roll c.table text buf) w.says refl)

pub digits_counted : (counts : List ℕ) {text : List ℕ} → Below 256 text → CountedIn counts text → AlwaysKnown counts text
digits_counted = in_known

-- and an edit by such a text is never refused 3, in any roll of a chosen table
pub digits_edit : {k : ℕ} {counts buf dir new after dir_after : List ℕ} {r : Roll} {c : Choice} {e : Edited} {start end v : ℕ} → Choosing k counts (Ok c)
    → AlwaysKnown counts new → r.table ≡ c.table → Editing r buf dir start end new e after dir_after → e.answer ≡ Err (NotInTable v) → ⊥
digits_edit {k} {counts} {buf} {dir} {new} {after} {dir_after} {r} {c} {e} {start} {end} {v} p known same w z =
    never_3 r buf dir start end new (rw (same ∙ chosen_table_lem p) (always_known k counts (lent_long p) known)) (order_edit {f = NotInTable v} w z)

-- it is accepted wherever its place is right and the edited text has room
pub digits_edited : {k : ℕ} {counts buf dir text new after dir_after : List ℕ} {r : Roll} {c : Choice} {e : Edited} {start end : ℕ} → Choosing k counts (Ok c)
    → AlwaysKnown counts new → r.table ≡ c.table → TextIs r buf text → DirectoryIs r buf dir → start ≤ end → end ≤ r.n
    → length (symbols_for r.table (edited text start end new)) ≤ room r.table.code.k (length buf) → entries (length (edited text start end new)) ≤ length dir
    → Editing r buf dir start end new e after dir_after → e.answer ≡ Ok tt
digits_edited {k} {counts} p known same t d a b fits many w =
    edits_yes w
    (record {
      sound = text_sound t;
      right = directory_right d;
      ordered = a;
      inside = b;
      known = rw (same ∙ chosen_table_lem p) (always_known k counts (lent_long p) known);
      fits = rw (← text_is t) fits;
      listed = rw (← text_is t) many;
    })

-- let a text be counted in the lent counts, others that may come perhaps beside it (`CountedIn`): it packs wherever the total has room, and takes no more
pub chosen_packs : {k : ℕ} {text counts buf after : List ℕ} {c : Choice} {a : Result Roll Refusal} → Below 256 text → CountedIn counts text → Choosing k counts (Ok c)
    → Packing c.table text buf a after → (c.total ≤ room k (length buf) → (q : Roll) × (a ≡ Ok q)) × ((q : Roll) → a ≡ Ok q → q.h ≤ c.total)
chosen_packs {k} {text} {counts} {buf} {after} {c} {a} small n p w =
    let l = lent_long p in
    let least : length (symbols_for c.table text) ≤ c.total = rw (chosen_table_lem p, chosen_total p) (in_total counts small n k l) in (
      λ fits. (digits_packed p (in_known counts small n) w).1 (omega (arith, fits, least)),
      λ q z. omega (arith, packed_h (subst (λ (x : Result Roll Refusal). Packing c.table text buf x after) z w), least),
    )

-- counting a text makes such counts, and by these it takes the total less the symbols of those of the twelve that it does not hold
pub count_in_lem : {text counts after : List ℕ} → Counting text counts (Ok tt) after → CountedIn after text
count_in_lem {text} n = rw (n.leaves ∙ accepted_leaves (sym n.says) _ _) (counts_in text)

pub chosen_takes : {k : ℕ} {text counts counts2 buf after : List ℕ} {c : Choice} {q : Roll} → Below 256 text → Counting text counts (Ok tt) counts2
    → Choosing k counts2 (Ok c) → Packing c.table text buf (Ok q) after → q.h + length (symbols_for c.table (unheld text)) ≡ c.total
chosen_takes {k} {text} {counts} {counts2} {buf} {after} {c} {q} small n p w =
    let is : counts2 ≡ counts_of text = n.leaves ∙ accepted_leaves (sym n.says) _ _ in
    let table : c.table ≡ chosen_table k (counted (counts_of text)) = chosen_table_lem p ∙ ap (λ (x : List ℕ). chosen_table k (counted x)) is in
    let all : c.total ≡ total (chosen k (counted (counts_of text))) (counted (counts_of text))
    = chosen_total p ∙ ap (λ (x : List ℕ). total (chosen k (counted x)) (counted x)) is in
    let parts : length (symbols_for c.table text) + length (symbols_for c.table (unheld text)) ≡ c.total
    = rw table (sym (counted_total k text small)) ∙ sym all in
    omega (arith, packed_h w, parts)

-- ---- Unpacking a packed text gives that text

pub packed_unpacked : {t : Table} {text buf after : List ℕ} {q : Roll} → Packing t text buf (Ok q) after → {out now : List ℕ} {answer : Result (Unit {0}) Refusal}
    → length text ≤ length out → Unpacking q after 0 (length text) out answer now → (answer ≡ Ok tt) × (now ≡ text ++ drop (length text) out)
packed_unpacked p {out = out} h u = packing_unpacking p out h u

-- it is the roll's text from then on
pub packed_is : {t : Table} {text buf after : List ℕ} {q : Roll} → Packing t text buf (Ok q) after → TextIs q after text × (q.table ≡ t) × (q.n ≡ length text)
packed_is = packed_text

-- packing the text of a roll again under its table, with room, gives its record, its symbols and its bytes
pub unpacked_packed : {r : Roll} {buf text other after : List ℕ} {p : Result Roll Refusal} → length r.table.places ≡ 256 → Below 256 buf → TextIs r buf text
    → r.h ≤ room r.table.code.k (length other) → Packing r.table text other p after
    → (p ≡ Ok r) × (take r.h (symbols_of r.table.code.k after) ≡ take r.h (symbols_of r.table.code.k buf))
    × (take (bytes_for r.table.code.k r.h) after ≡ take (bytes_for r.table.code.k r.h) buf)
unpacked_packed {r} {buf} {text} {other} {after} {p} long bytes t fits q =
    let s = text_sound t in
    let held : Held r buf = record { sound = s; places = long } in
    let words : List ℕ = text_of r buf in
    let q2 : Packing r.table words other p after = subst (λ (x : List ℕ). Packing r.table x other p after) (text_is t) q in
    let e = (pack_unpack held bytes).again other fits in
    let given : pack_roll r.table words other ≡ r = accepted_leaves e _ _ ∙ sound_record held in
    let packed = packed_holds r.table words other (accepted_packs r.table words other e) in
    let there : Holds r after words
    = rw (q2.leaves ∙ accepted_leaves e _ _)
    (subst (λ (x : Roll). Holds x (packed_into r.table.code.k (symbols_for r.table words) other) words) (sound_record held) packed) in
    let here = sound_holds held bytes in
    (accepted_ok (pack_roll r.table words other) q2.says e ∙ ap Ok given, holds_row there ∙ sym (holds_row here), sym there.bytes ∙ here.bytes)

-- ---- A roll that passes the check has one text, and only such a roll; each range of it is unpacked, and by a directory that was made each character is read

pub checked_text : {r : Roll} {buf : List ℕ} → Checking r buf (Ok tt) → (text : List ℕ) × TextIs r buf text
checked_text {r} {buf} p = (text_of r buf, sound_text (accepted_sound r buf (sym p.says)))

pub text_passes : {r : Roll} {buf text : List ℕ} {answer : Result (Unit {0}) Refusal} → TextIs r buf text → Checking r buf answer → answer ≡ Ok tt
text_passes = text_checked

pub one_text : {r : Roll} {buf a b : List ℕ} → TextIs r buf a → TextIs r buf b → a ≡ b
one_text = text_one

pub range_unpacked : {r : Roll} {buf text out now : List ℕ} {start end : ℕ} {answer : Result (Unit {0}) Refusal} → TextIs r buf text → start ≤ end → end ≤ r.n → end - start ≤ length out
    → Unpacking r buf start end out answer now → (answer ≡ Ok tt) × (now ≡ run text start end ++ drop (end - start) out)
range_unpacked = text_unpacked

pub made_is : {r : Roll} {buf dir after : List ℕ} → Making r buf dir (Ok tt) after → DirectoryIs r buf after
made_is p = right_directory (made_sound p) (made_right p)

pub one_read_lem : {r : Roll} {buf text dir : List ℕ} {place : ℕ} {answer : Result ℕ Refusal} → TextIs r buf text → DirectoryIs r buf dir → place < r.n
    → ReadingOne r buf dir place answer → answer ≡ Ok (get_or text place 0)
one_read_lem {dir = dir} {place = place} t l h p = rw (text_is t) (reads_right (text_sound t) dir (directory_right l) place h p)

-- ---- A search of a sound roll for a pattern of 1 to 64 characters without byte 10 is accepted; it counts each place of the text where the pattern stands, overlapping
-- ones too, and no other, and lists them from the first on as far as there is room.
pub record EachPlace (pattern text slice after : List ℕ) (many : ℕ) : Type 0 where
  pub places : List ℕ
  pub rising : Rising 0 places
  pub each : (i : ℕ) → i ∈ places ↔ ((i < length text) × Front pattern (drop i text))
  pub number : many ≡ length places
  pub first_on : after ≡ take (length slice) places ++ drop (length places) slice

pub search_each : {r : Roll} {buf text pattern slice after : List ℕ} {answer : Result ℕ Refusal} → TextIs r buf text → 1 ≤ length pattern → length pattern ≤ 64
    → (10 ∈ pattern → ⊥) → Searching r buf pattern slice answer after → (many : ℕ) × (answer ≡ Ok many) × EachPlace pattern text slice after many
search_each {r} {buf} {text} {pattern} {slice} {after} {answer} t low high line p =
    let e = (searches_is r buf pattern).0 (text_sound t, pattern_good pattern low high line) in (
      length (hits pattern text),
      rw (text_is t) (says_one answer (Ok (length (hits pattern (text_of r buf)))) (p.says ∙ e)),
      record {
        places = hits pattern text;
        rising = hits_rising pattern text;
        each = λ i. (
          λ m. let h = (hit_is pattern text i).0 m in (h.0, stands_front pattern (drop i text) h.1),
          λ h. (hit_is pattern text i).1 (h.0, front_stands pattern (drop i text) h.1),
        );
        number = refl;
        first_on = rw (text_is t) (p.leaves ∙ accepted_leaves e _ _);
      },
    )

-- no other pattern is searched for
pub searched_pattern : {r : Roll} {buf pattern slice after : List ℕ} {many : ℕ} → Searching r buf pattern slice (Ok many) after
    → (1 ≤ length pattern) × (length pattern ≤ 64) × (10 ∈ pattern → ⊥)
unfolding search_says
searched_pattern {r} {buf} {pattern} p =
    let next = (accepted_parts (check_says r buf) (sym p.says)).1 in
    let good = true_yes _ (not-false (good_pattern pattern) (accepted_none (search_rows pattern) (length (hits pattern (text_of r buf))) next).0) in
    (pattern_least pattern good, pattern_most pattern good, pattern_line pattern good)

-- with byte 10, as in two lines pasted, it is 11 and no total
pub search_newline : {r : Roll} {buf text pattern slice after : List ℕ} {answer : Result ℕ Refusal} → TextIs r buf text → 10 ∈ pattern → Searching r buf pattern slice answer after
    → answer ≡ Err BadPattern
unfolding search_says
search_newline {pattern = pattern} {answer = answer} t m p =
    says_one answer (Err BadPattern) (p.says ∙ rw (sound_accepted (text_sound t), pattern_newline pattern m))

-- `Searching` is said of a call of the search by jumps too, so all that stands here of a search holds of both: and one of each, or two of one, on the same roll, buffer,
-- pattern and slice answer the same and leave the same, refused or not
pub searches_agree : {r : Roll} {buf pattern slice plain jumping : List ℕ} {answer other : Result ℕ Refusal} → Searching r buf pattern slice answer plain
    → Searching r buf pattern slice other jumping → (answer ≡ other) × (plain ≡ jumping)
searches_agree {answer = answer} {other = other} p q = (says_one answer other (p.says ∙ sym q.says), p.leaves ∙ sym q.leaves)

-- ---- 3. Let a sound roll have a right directory. Replace any run of its characters, an empty one too, by any text such that the edited text's characters are in the
-- table and its symbols and entries fit: the edit is accepted
pub edit_accepted : {r : Roll} {buf dir text new row after dir_after : List ℕ} {start end : ℕ} {e : Edited} → TextIs r buf text → DirectoryIs r buf dir
    → start ≤ end → end ≤ r.n → Codewords r.table (edited text start end new) row → length row ≤ room r.table.code.k (length buf)
    → entries (length (edited text start end new)) ≤ length dir → Editing r buf dir start end new e after dir_after → e.answer ≡ Ok tt
edit_accepted {r} {buf} {dir} {text} {new} {row} {after} {dir_after} {start} {end} t d a b w fits many editing =
    let same = text_is t in
    edits_yes editing
    (record {
      sound = text_sound t;
      right = directory_right d;
      ordered = a;
      inside = b;
      known = put_in_known text start end new (codewords_known w);
      fits = rw (← same, codewords_row w) fits;
      listed = rw (← same) many;
    })

-- and record, bytes and directory are then those of packing the edited text afresh under the same table, into any buffer
pub edit_as_afresh : {r : Roll} {buf dir text new other space bytes made after dir_after : List ℕ} {start end : ℕ} {a : Roll} {e : Edited}
    → length r.table.places ≡ 256 → TextIs r buf text → Editing r buf dir start end new e after dir_after → e.answer ≡ Ok tt
    → Packing r.table (edited text start end new) other (Ok a) bytes → Making a bytes space (Ok tt) made
    → (e.roll ≡ a)
    × (take (bytes_for r.table.code.k a.h) after ≡ take (bytes_for r.table.code.k a.h) bytes)
    × (take (entries a.n) dir_after ≡ take (entries a.n) made)
edit_as_afresh {r} {buf} {dir} {text} {new} {other} {space} {bytes} {made} {after} {dir_after} {start} {end} {a} {e} long t editing z packing making =
    let E : List ℕ = edited (text_of r buf) start end new in
    let p : Packing r.table E other (Ok a) bytes = subst (λ (x : List ℕ). Packing r.table (edited x start end new) other (Ok a) bytes) (text_is t) packing in
    let packs = accepted_packs r.table E other (ok_accepted (pack_roll r.table E other) p.says refl).0 in
    let (u, record_is, bytes_are, list_is) = editing_yes editing z in
    let d : a ≡ record_of r.table E = (packing_sound p).0 in
    let many : entries (length E) ≤ length space = rw (ap (λ (x : Roll). x.n) d) at ((makes_is a bytes space).1 (sym making.says)).1 in
    let makes : (given : Roll) → ◌≡◌ {A = Result Roll Refusal} (Ok a) (Ok given) → Making given bytes space (Ok tt) made
    = λ given e. let s : a ≡ given = cc in subst (λ (x : Roll). Making x bytes space (Ok tt) made) s making in
    let (c, f, g, h) = edit_as_packed long u other space packs.fits many p makes in
    (record_is ∙ sym d, rw (bytes_are, d) (sym f), rw (list_is, d) (sym h))

-- ---- What an accepted edit leaves

module _ {r : Roll} {buf dir new after dir_after : List ℕ} {start end : ℕ} {e : Edited} (long : length r.table.places ≡ 256)
    (p : Editing r buf dir start end new e after dir_after) (y : e.answer ≡ Ok tt) where
  -- the next operation: the text is the edited one, and the directory right
  pub edit_next : {text : List ℕ} → TextIs r buf text → TextIs e.roll after (edited text start end new) × DirectoryIs e.roll after dir_after
  edit_next t =
      let (u, record_is, bytes_are, list_is) = editing_yes p y in
      rw (record_is, bytes_are, list_is, text_is t) (subst (TextIs _ _) (edit_text long u) (sound_text (edit_sound long u)), right_directory (edit_sound long u) (edit_right long u))

  abbrev k : ℕ
  k = r.table.code.k

  -- symbols, bytes and entries that are no longer used are 0, and what was used neither before nor after is untouched
  pub edit_unused : (run (symbols_of k after) e.roll.h r.h ≡ zeros (r.h - e.roll.h))
      × (run after (bytes_for k e.roll.h) (bytes_for k r.h) ≡ zeros (bytes_for k r.h - bytes_for k e.roll.h))
      × (run dir_after (entries e.roll.n) (entries r.n) ≡ zeros (entries r.n - entries e.roll.n))
  edit_unused =
      let (u, record_is, bytes_are, list_is) = editing_yes p y in
      rw (record_is, bytes_are, list_is) (symbols_cleared long u, edit_cleared long u, edit_cleared_directory long u)

  pub edit_untouched : ((m : ℕ) → bytes_for k r.h ≤ m → bytes_for k e.roll.h ≤ m → drop m after ≡ drop m buf)
      × ((m : ℕ) → entries r.n ≤ m → entries e.roll.n ≤ m → drop m dir_after ≡ drop m dir)
  edit_untouched =
      let (u, record_is, bytes_are, list_is) = editing_yes p y in
      rw record_is (
        λ m old now. drop_past_both after buf old now (rw bytes_are (edit_kept long u)),
        λ m old now. drop_past_both dir_after dir old now (rw list_is (edit_kept_directory long u)),
      )

  module _ {text : List ℕ} (t : TextIs r buf text) (bytes : Below 256 buf) where
    -- the symbol at which a character of the text starts
    abbrev starts : ℕ → ℕ
    starts j = length (symbols_for r.table (take j text))

    -- each byte before the one where the run began is as it was
    pub edit_bytes_before : take (starts start / per k) after ≡ take (starts start / per k) buf
    edit_bytes_before =
        let (u, record_is, bytes_are, list_is) = editing_yes p y in
        rw (bytes_are, text_is t) (edit_before long u bytes)

    -- with as many symbols as before, so is each byte behind those that hold the run; an empty run has none, and then all bytes are
    pub edit_bytes_behind : e.roll.h ≡ r.h → drop (bytes_for k (starts end)) after ≡ drop (bytes_for k (starts end)) buf
    edit_bytes_behind same =
        let (u, record_is, bytes_are, list_is) = editing_yes p y in
        let c = r.table.code in
        let l = characters r.table in
        let old : List ℕ = text_of r buf in
        let now : length (symbols_for r.table (edited old start end new)) ≡ r.h = ap (λ (x : Roll). x.h) (sym record_is) ∙ same in
        rw (bytes_are, text_is t)
        (edit_even long u bytes
        (omega (
          arith,
          now,
          length_parts c l (take start old) (new ++ drop end old),
          length_parts c l new (drop end old),
          length_parts c l (take end old) (drop end old),
          ap (λ (x : List ℕ). length (symbols_for r.table x)) (take-append-drop end old),
          sound_h (record { sound = text_sound t; places = long }),
        )))

    pub edit_bytes_all : start ≡ end → e.roll.h ≡ r.h → after ≡ buf
    edit_bytes_all empty same =
        let (u, record_is, bytes_are, list_is) = editing_yes p y in
        bytes_are ∙ bytes_kept long u empty (ap (λ (x : Roll). x.h) (sym record_is) ∙ same) bytes
