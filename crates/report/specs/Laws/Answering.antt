-- The answer's steps: the counts of the text, its table, its packing, its hits; and how long the answer is.
use Rattle.std.specs.Prelude.{◌≡◌, refl, List, ◌++◌, ℕ, ◌≤◌, T, length, take, drop, Result, Ok, Err}
use Rattle.std.proofs.Common.{sym, ◌∙◌, inl, arith, length-append, take_all}
use Rattle.std.proofs.Math.Path.{ap}
use Rattle.std.proofs.Math.Seq.{take_at}
use Rattle.ground.specs.Paper.Refusals.{accepted, refused}
use Rattle.ground.specs.Paper.Rows.{zeros}
use Rattle.ground.specs.Helpers.Below.{Below}
use Rattle.ground.specs.Laws.Answers.{says_one, accepted_ok, ok_accepted, err_refused}
use Rattle.ground.specs.Laws.Limit.{limit_least}
use Rattle.ground.specs.Laws.Refusals.{Accepted, accepted_leaves}
use Rattle.ground.specs.Laws.Rows.{length_tab, length_zeros, below_from}
use Rattle.ground.specs.declared.refusal.Refusal.{Refusal}
use Rattle.stopper.specs.Paper.Table.{good_width}
use Rattle.stopper.specs.declared.table.Table.{Table}
use Rattle.choosing.specs.Paper.Choosing.{counts_of, chosen_table, chosen}
use Rattle.choosing.specs.Paper.Operations.{count_says, Counting, choose_says, choose_table, choice_of, Choosing}
use Rattle.choosing.specs.Laws.Accepting.{counts_is, chooses_is}
use Rattle.choosing.specs.declared.choose.Choice.{Choice}
use Rattle.symbols.specs.Paper.Symbols.{bytes_for, bytes_of}
use Rattle.symbols.specs.Helpers.Widths.{Width}
use Rattle.symbols.specs.Laws.Sizes.{room_bytes}
use Rattle.symbols.specs.Laws.Packing.{bytes_length}
use Rattle.texts.specs.Paper.Hits.{hits, good_pattern, listed}
use Rattle.texts.specs.Laws.Hits.{hit_is, hits_length}
use Rattle.sound.specs.Paper.Roll.{symbols_for, record_of, text_of, Sound}
use Rattle.sound.specs.declared.records.Roll.{Roll}
use Rattle.roll.specs.Paper.Operations.{pack_says, pack_roll, Packing, Searching}
use Rattle.roll.specs.Laws.Accepting.{accepted_packs}
use Rattle.roll.specs.Laws.Operations.{search_yes}
use Rattle.demands.specs.Meaning.{packing_sound}
use Rattle.writing.specs.Laws.Written.{decimal_most, hex_length, numbers_few}
use Rattle.report.specs.Paper.Report.{best_word, symbols_word, hits_word, best_line, hits_line, refused_line, lines_of, own_table, lines_for}
use Rattle.report.specs.Helpers.Answers.{PackedOut, answer_for, line_for}

not_both : {A : Type 0} {n v : ℕ} {a : A} → refused n v ≡ accepted a → ⊥
not_both e = let z : ◌≡◌ {A = ℕ} 0 1 = cc in omega arith

module _ (text : List ℕ) (short : length text ≤ 16384) where
  count_accepted : (counts : List ℕ) → length counts ≡ 256 → Accepted (count_says text counts)
  count_accepted counts e = (counts_is text counts).0 (e, omega (arith, limit_least))

  -- the counts are the text's
  pub counts_are : {a : Result (Unit {0}) Refusal} {counts after : List ℕ} → length counts ≡ 256 → Counting text counts a after → after ≡ counts_of text
  counts_are e c = c.leaves ∙ accepted_leaves (count_accepted _ e) _ _

  pub count_unrefused : {e : Refusal} {counts after : List ℕ} → length counts ≡ 256 → Counting text counts (Err e) after → ⊥
  count_unrefused e c = not_both (c.says ∙ count_accepted _ e)

  counts_length : length (counts_of text) ≡ 256
  unfolding counts_of
  counts_length = length_tab _ 0 256

  choose_accepted : Accepted (choose_says 2 (counts_of text))
  unfolding good_width
  choose_accepted = (chooses_is 2 (counts_of text)).0 (tt, counts_length)

  -- and the table is chosen for them
  pub table_is : {counts : List ℕ} {r : Result Choice Refusal} → counts ≡ counts_of text → Choosing 2 counts r → (c : Choice) × (r ≡ Ok c) × (c.table ≡ own_table text)
  table_is {counts} e p =
      let a : Accepted (choose_says 2 counts) = ap (choose_says 2) e ∙ choose_accepted in
      (choice_of 2 counts, accepted_ok (choice_of 2 counts) p.says a, ap (choose_table 2) e ∙ accepted_leaves choose_accepted _ _)

  pub own_choice : {counts : List ℕ} {c : Choice} → counts ≡ counts_of text → Choosing 2 counts (Ok c) → c.table ≡ own_table text
  own_choice {c = c} e p = let (d, same, own) = table_is e p in let t : c ≡ d = cc in ap (λ (x : Choice). x.table) t ∙ own

  pub choose_unrefused : {counts : List ℕ} {q : Refusal} → counts ≡ counts_of text → Choosing 2 counts (Err q) → ⊥
  choose_unrefused {counts} {q} e p = not_both (sym (err_refused (choice_of 2 counts) p.says refl) ∙ ap (choose_says 2) e ∙ choose_accepted)

module _ (pattern text : List ℕ) where
  pub answer_refused : {n v : ℕ} → pack_says (own_table text) text (zeros 16384) ≡ refused n v → answer_for pattern text ≡ refused_line n v
  unfolding answer_for
  answer_refused e = rw e

  pub answer_yes : Accepted (pack_says (own_table text) text (zeros 16384)) → answer_for pattern text ≡ lines_for pattern text
  unfolding answer_for
  answer_yes e = rw e

-- ---- packed: the bytes, and what a search of them finds

module _ (pattern text : List ℕ) (short : length text ≤ 16384) (good : T (good_pattern pattern)) {q : Roll} {after : List ℕ}
    (k : Packing (own_table text) text (zeros 16384) (Ok q) after) where
  abbrev t : Table
  t = own_table text

  abbrev found : List ℕ
  found = hits pattern text

  accept : Accepted (pack_says t text (zeros 16384))
  accept = (ok_accepted _ k.says refl).0

  pub lines_are : answer_for pattern text ≡ lines_for pattern text
  lines_are = answer_yes pattern text accept

  pub record_is : q ≡ record_of t text
  record_is = (packing_sound k).0

  sound : Sound q after
  sound = (packing_sound k).1

  text_is : text_of q after ≡ text
  text_is = (packing_sound k).2

  width : Width 2
  width = inl refl

  size : length (bytes_of 2 (symbols_for t text)) ≡ bytes_for 2 q.h
  size = bytes_length width (symbols_for t text) ∙ ap (λ (x : Roll). bytes_for 2 x.h) (sym record_is)

  pub bytes_are : take (bytes_for 2 q.h) after ≡ bytes_of 2 (symbols_for t text)
  unfolding chosen_table chosen
  bytes_are =
      ap (take (bytes_for 2 q.h)) (k.leaves ∙ accepted_leaves accept _ _)
      ∙ take_at (bytes_of 2 (symbols_for t text)) (drop (bytes_for 2 (length (symbols_for t text))) (zeros 16384)) (bytes_for 2 q.h) size

  pub bytes_few : bytes_for 2 q.h ≤ 16384
  unfolding chosen_table chosen
  bytes_few =
      rw record_is
      (omega (arith, room_bytes width (record_of t text).h (length (zeros 16384)) (accepted_packs t text (zeros 16384) accept).fits, length_zeros 16384))

  bytes_short : length (bytes_of 2 (symbols_for t text)) ≤ 16384
  bytes_short = omega (arith, size, bytes_few)

  pub hits_few : length found ≤ 16384
  hits_few = omega (arith, hits_length pattern text)

  -- the search is accepted, and its list is all the hits
  module _ {slice list : List ℕ} {a : Result ℕ Refusal} (room_enough : length slice ≡ 16384) (s : Searching q after pattern slice a list) where
    searched : Searching q after pattern slice (Ok (length found)) (listed found slice)
    searched =
        let e : found ≡ hits pattern (text_of q after) = ap (hits pattern) (sym text_is) in
        search_yes sound good (ap length e) (ap (λ (l : List ℕ). listed l slice) e)

    pub total_is : a ≡ Ok (length found)
    total_is = says_one a (Ok (length found)) (s.says ∙ sym searched.says)

    pub hits_are : take (length found) list ≡ found
    hits_are =
        ap (take (length found)) (s.leaves ∙ sym searched.leaves)
        ∙ ap (λ (l : List ℕ). take (length found) (l ++ drop (length found) slice)) (take_all (length slice) found (omega (arith, hits_few)))
        ∙ take_at found (drop (length found) slice) (length found) refl

-- ---- how long the answer is

lines_few : (s h : ℕ) (bytes found : List ℕ) → length bytes ≤ 16384 → length found ≤ 16384 → Below 100000 found
    → length (lines_of s h bytes found) ≤ 147456
unfolding lines_of best_line hits_line best_word symbols_word hits_word
lines_few s h bytes found c d e =
    simp length-append (omega (arith, decimal_most s, decimal_most h, decimal_most (length found), hex_length bytes, numbers_few e))

hits_below_lem : (pattern text : List ℕ) → length text ≤ 16384 → Below 100000 (hits pattern text)
hits_below_lem pattern text short = below_from 100000 (hits pattern text) (λ x m. omega (arith, ((hit_is pattern text x).0 m).0))

-- of a packed text
pub answer_few : (pattern text : List ℕ) → length text ≤ 16384 → T (good_pattern pattern) → {q : Roll} {after : List ℕ}
    → Packing (own_table text) text (zeros 16384) (Ok q) after → length (answer_for pattern text) ≤ 147456
answer_few pattern text short good k =
    let t = own_table text in
    rw (lines_are pattern text short good k)
    (lines_few t.code.s (record_of t text).h (bytes_of 2 (symbols_for t text)) (hits pattern text)
    (bytes_short pattern text short good k)
    (hits_few pattern text short good k)
    (hits_below_lem pattern text short))

-- ---- the answer: packing's refusal, or the lines

module _ (pattern text : List ℕ) {out : List ℕ} where
  pub packed_refused : {e : Refusal} {after : List ℕ} → Packing (own_table text) text (zeros 16384) (Err e) after → PackedOut pattern text out (Err e) out
  packed_refused k =
      let p = err_refused (pack_roll (own_table text) text (zeros 16384)) k.says refl in
      record { says = rw p; leaves = rw p }

  pub packed_yes : {n : ℕ} {after : List ℕ} → Accepted (pack_says (own_table text) text (zeros 16384)) → n ≡ length (lines_for pattern text)
      → after ≡ lines_for pattern text ++ drop (length (lines_for pattern text)) out → PackedOut pattern text out (Ok n) after
  packed_yes a e f = record { says = rw (a, e); leaves = rw a f }

  pub packed_refusal : {e : Refusal} {after : List ℕ} → PackedOut pattern text out (Err e) after → (answer_for pattern text ≡ line_for e) × (after ≡ out)
  packed_refusal f =
      let p = err_refused (length (lines_for pattern text)) f.says refl in
      (answer_refused pattern text p, f.leaves ∙ rw p)

  pub packed_lines : {n : ℕ} {after : List ℕ} → PackedOut pattern text out (Ok n) after
      → (n ≡ length (answer_for pattern text)) × (after ≡ answer_for pattern text ++ drop (length (answer_for pattern text)) out)
  packed_lines f =
      let (a, e) = ok_accepted (length (lines_for pattern text)) f.says refl in
      rw (answer_yes pattern text a) (e, f.leaves ∙ accepted_leaves a _ _)
