-- A text under the lengths and the words of a table.
use Rattle.std.specs.Prelude.{◌≡◌, ◌≢◌, true, false, T, ltb, leb, length}
use Rattle.std.proofs.Math.Path.{refl, sym, ap, ap₂}
use Rattle.std.proofs.Common.{subst, ◌∙◌, eq-eqb, ne_eqb, lt-ltb, ltb-true, ltb→lt, leb→le, length-append, length-drop, take-append-drop, take-suc, drop-cons}
use Rattle.std.proofs.Math.Bool.{not}
use mathlib.Core.List.{List, [], ◌∷◌, ◌++◌, append_assoc, append-nil}
use Prim.Native.Nat.{ℕ, suc, ◌+◌, ◌-◌, ◌*◌, ◌^◌, ◌≤◌, ◌<◌}
use Rattle.std.proofs.Math.Nat.{zero-add}
use Rattle.std.proofs.Math.Decide.{dec_lt}
use native.Mathlib.Omega.{arith}
use Rattle.std.proofs.Math.Facts.{and_yes}
use Rattle.std.proofs.Math.Dec.{eqb}
use Rattle.std.proofs.Math.ListN.{take, drop, get_or, get_or-eq_default}
use Rattle.std.proofs.Math.Seq.{length-take-le}
use Rattle.ground.specs.Paper.Rows.{first_where}
use Rattle.ground.specs.Helpers.Below.{Below, none, also}
use Rattle.ground.specs.Laws.Rows.{get_or_below, below_append, length_tab, tab_at, tab_below, first_here, first_later, first_same}
use Rattle.ground.specs.Laws.Tests.{by_value}
use Rattle.stopper.specs.Paper.Reading.{write}
use Rattle.stopper.specs.Paper.Table.{base, stoppers, good_code, has, rank_in, word_of, length_of, longest}
use Rattle.stopper.specs.Laws.Characters.{has_rank}
use Rattle.stopper.proofs.Laws.Reading.{write_below}
use Rattle.stopper.specs.Laws.Table.{code_good, code_width, length_place, length_small}
use Rattle.stopper.specs.declared.code.Code.{Code}
use Rattle.symbols.specs.Laws.Rows.{symbols_even}
use Rattle.texts.specs.Paper.Characters.{first_foreign}
use Rattle.sound.specs.Paper.Roll.{text_row}
use Rattle.sound.specs.Laws.Texts.{length_cons}
use Rattle.store.specs.Paper.Fitting.{first_over}
use Rattle.store.specs.Helpers.Words.{length_for, Spelt, goes_on, upto_of, taken_of, absent, word_at, row_of, WordsLaid, Laid}

-- ---- a character that goes on

pub goes_parts : (long left : ℕ) → goes_on long left ≡ true → (0 < long) × (long ≤ left)
unfolding goes_on
goes_parts long left e =
    let p = and_yes (ltb 0 long) (leb long left) (subst T (sym e) tt) in
    (ltb→lt _ _ p.0, leb→le _ _ p.1)

goes_fits : (long left : ℕ) → 0 < long → goes_on long left ≡ leb long left
unfolding goes_on
goes_fits long left h = rw (lt-ltb 0 long h)

-- ---- lengths

module _ (lengths : List ℕ) where
  module _ (room b : ℕ) (text : List ℕ) (e : goes_on (get_or lengths b 0) room ≡ true) where
    pub upto_more : upto_of lengths room (b ∷ text) ≡ suc (upto_of lengths (room - get_or lengths b 0) text)
    unfolding upto_of
    upto_more = rw e

    pub taken_more : taken_of lengths room (b ∷ text) ≡ get_or lengths b 0 + taken_of lengths (room - get_or lengths b 0) text
    unfolding taken_of
    taken_more = rw e

  module _ (room b : ℕ) (text : List ℕ) (e : goes_on (get_or lengths b 0) room ≡ false) where
    pub upto_stop : upto_of lengths room (b ∷ text) ≡ 0
    unfolding upto_of
    upto_stop = rw e

    pub taken_stop : taken_of lengths room (b ∷ text) ≡ 0
    unfolding taken_of
    taken_stop = rw e

  pub upto_le : (room : ℕ) (text : List ℕ) → upto_of lengths room text ≤ length text
  unfolding upto_of
  upto_le room [] = omega arith
  upto_le room (b ∷ text) =
      by_value (goes_on (get_or lengths b 0) room)
      (λ e. omega (arith, upto_more room b text e, upto_le (room - get_or lengths b 0) text))
      (λ e. omega (arith, upto_stop room b text e))

  pub taken_le : (room : ℕ) (text : List ℕ) → taken_of lengths room text ≤ room
  unfolding taken_of
  taken_le room [] = omega arith
  taken_le room (b ∷ text) =
      by_value (goes_on (get_or lengths b 0) room)
      (λ e. omega (arith, taken_more room b text e, goes_parts _ _ e, taken_le (room - get_or lengths b 0) text))
      (λ e. omega (arith, taken_stop room b text e))

  -- each character takes a symbol at least
  pub upto_taken : (room : ℕ) (text : List ℕ) → upto_of lengths room text ≤ taken_of lengths room text
  unfolding upto_of taken_of
  upto_taken room [] = omega arith
  upto_taken room (b ∷ text) =
      by_value (goes_on (get_or lengths b 0) room)
      (λ e. omega (arith, upto_more room b text e, taken_more room b text e, goes_parts _ _ e, upto_taken (room - get_or lengths b 0) text))
      (λ e. omega (arith, upto_stop room b text e))

  -- the first foreign character may be looked for from where they end
  pub foreign_from : (room : ℕ) (text : List ℕ) → upto_of lengths room text + first_where (absent lengths) (drop (upto_of lengths room text) text) ≡ first_where (absent lengths) text
  unfolding upto_of
  foreign_from room [] = zero-add _
  foreign_from room (b ∷ text) =
      by_value (goes_on (get_or lengths b 0) room)
      (λ e.
      let n : get_or lengths b 0 ≢ 0 = λ z. omega (arith, goes_parts _ _ e) in
      rw e (omega (arith, first_later (absent lengths) b text (ne_eqb _ _ n), foreign_from (room - get_or lengths b 0) text)))
      (λ e. rw e (zero-add _))

-- ---- rows

module _ (lengths words : List ℕ) where
  row_append : (xs ys : List ℕ) → row_of lengths words (xs ++ ys) ≡ row_of lengths words xs ++ row_of lengths words ys
  unfolding row_of
  row_append [] ys = refl
  row_append (b ∷ xs) ys = rw (row_append xs ys) (sym (append_assoc (word_at lengths words b) (row_of lengths words xs) (row_of lengths words ys)))

  module _ (text : List ℕ) (i : ℕ) (h : i < length text) where
    pub row_more : row_of lengths words (take (suc i) text) ≡ row_of lengths words (take i text) ++ word_at lengths words (get_or text i 0)
    unfolding row_of
    row_more =
        ap (row_of lengths words) (take-suc text i 0 h)
        ∙ row_append (take i text) (get_or text i 0 ∷ [])
        ∙ ap (λ (w : List ℕ). row_of lengths words (take i text) ++ w) (append-nil (word_at lengths words (get_or text i 0)))

    pub row_split : row_of lengths words text ≡ row_of lengths words (take i text) ++ (word_at lengths words (get_or text i 0) ++ row_of lengths words (drop (suc i) text))
    unfolding row_of
    row_split =
        ap (row_of lengths words) (sym (take-append-drop i text) ∙ ap (λ (w : List ℕ). take i text ++ w) (drop-cons text i 0 h))
        ∙ row_append (take i text) (get_or text i 0 ∷ drop (suc i) text)

-- ---- words laid out

-- the part of the words that is lent
pub lent : (lengths words : List ℕ) (b : ℕ) {n : ℕ} → n ≡ get_or lengths b 0 → take (b * longest + n - b * longest) (drop (b * longest) words) ≡ word_at lengths words b
unfolding word_at
lent lengths words b {n} f = let q : b * longest + n - b * longest ≡ n = omega arith in rw (q, f)

module _ {k : ℕ} {lengths words : List ℕ} (a : WordsLaid k lengths words) where
  pub word_length : (b : ℕ) → b < 256 → length (word_at lengths words b) ≡ get_or lengths b 0
  unfolding word_at
  word_length b h =
      length-take-le (get_or lengths b 0) (drop (b * longest) words)
      (rw (length-drop, a.places) (omega (arith, get_or_below a.few (omega arith) b)))

  -- past the last character too
  word_symbols : (b : ℕ) → Below (2 ^ k) (word_at lengths words b)
  unfolding word_at
  word_symbols b =
      elim (dec_lt b 256) [
        | yes h ↦ a.symbols b h
        | no n ↦ rw (get_or-eq_default lengths 0 {n = b} (omega (arith, a.characters))) none
      ]

  pub row_symbols : (text : List ℕ) → Below (2 ^ k) (row_of lengths words text)
  unfolding row_of
  row_symbols [] = none
  row_symbols (b ∷ text) = below_append (word_symbols b) (row_symbols text)

-- ---- under a table

module _ (c : Code) (g : T (good_code c)) (l : List ℕ) where
  length_pos : (r : ℕ) → 0 < length_of c r
  length_pos r = omega (arith, length_place c g r)

  -- a text has as many symbols as characters, or more
  pub row_count : (text : List ℕ) → length text ≤ length (text_row c l text)
  row_count [] = omega arith
  row_count (b ∷ text) = omega (arith, length_cons c l b text, length_pos (rank_in l b), row_count text)

  for_there : (b : ℕ) → has b l ≡ true → length_for c l b ≡ length_of c (rank_in l b)
  unfolding length_for
  for_there b e = rw e

  for_none : (b : ℕ) → has b l ≡ false → length_for c l b ≡ 0
  unfolding length_for
  for_none b e = rw e

  -- a length of 0 is that of a character that is not in the row
  foreign_test : (b : ℕ) → eqb (length_for c l b) 0 ≡ not (has b l)
  foreign_test b =
      by_value (has b l)
      (λ e. rw e (ne_eqb (length_for c l b) 0 (λ z. omega (arith, for_there b e, length_pos (rank_in l b)))))
      (λ e. rw e (eq-eqb _ _ (for_none b e)))

  module _ (lengths words : List ℕ) (s : Spelt c l lengths words) where
    at_length : (b : ℕ) → b < 256 → get_or lengths b 0 ≡ length_for c l b
    at_length b h = ap (λ (x : List ℕ). get_or x b 0) s.sizes ∙ tab_at (length_for c l) 256 b h

    pub foreign_is : {text : List ℕ} → Below 256 text → first_where (absent lengths) text ≡ first_foreign l text
    unfolding first_foreign
    foreign_is h = first_same (absent lengths) (λ b. not (has b l)) h (λ b k. ap (λ (n : ℕ). eqb n 0) (at_length b k) ∙ foreign_test b)

    -- a character that is not foreign is in the row
    there : (b : ℕ) → b < 256 → get_or lengths b 0 ≢ 0 → has b l ≡ true
    there b h n = by_value (has b l) (λ e. e) (λ e. absurd (n (at_length b h ∙ for_none b e)))

    -- a text with no foreign character, and one that fits: its first character, and the rest
    all_known : (b : ℕ) (text : List ℕ) → first_where (absent lengths) (b ∷ text) ≡ suc (length text) → (get_or lengths b 0 ≢ 0) × (first_where (absent lengths) text ≡ length text)
    all_known b text e =
        let n : get_or lengths b 0 ≢ 0 = λ z. omega (arith, first_here (absent lengths) b text (eq-eqb _ _ z)) in
        (n, omega (arith, first_later (absent lengths) b text (ne_eqb _ _ n)))

    pub over_is : {text : List ℕ} → Below 256 text → first_where (absent lengths) text ≡ length text → (room : ℕ) → upto_of lengths room text ≡ first_over c l room text
    unfolding upto_of first_over
    over_is none e room = refl
    over_is (also {x = b} {xs = text} h hs) e room =
        let k = all_known b text e in
        let n : get_or lengths b 0 ≡ length_of c (rank_in l b) = at_length b h ∙ for_there b (there b h k.0) in
        rw (n, goes_fits _ room (length_pos (rank_in l b)), over_is hs k.1 (room - length_of c (rank_in l b)))

    pub row_is : {text : List ℕ} → Below 256 text → first_where (absent lengths) text ≡ length text → row_of lengths words text ≡ text_row c l text
    unfolding row_of text_row write word_at
    row_is none e = refl
    row_is (also {x = b} {xs = text} h hs) e =
        let k = all_known b text e in
        let i = there b h k.0 in
        rw (at_length b h, s.word b h i, row_is hs k.1)

    all_fits : (room b : ℕ) (text : List ℕ) → upto_of lengths room (b ∷ text) ≡ suc (length text)
        → (goes_on (get_or lengths b 0) room ≡ true) × (upto_of lengths (room - get_or lengths b 0) text ≡ length text)
    all_fits room b text f =
        by_value (goes_on (get_or lengths b 0) room)
        (λ e. (e, omega (arith, upto_more lengths room b text e)))
        (λ e. absurd (omega (arith, upto_stop lengths room b text e)))

    pub taken_is : {text : List ℕ} → Below 256 text → first_where (absent lengths) text ≡ length text → (room : ℕ) → upto_of lengths room text ≡ length text
        → taken_of lengths room text ≡ length (text_row c l text)
    unfolding taken_of text_row write length_of
    taken_is none e room f = refl
    taken_is (also {x = b} {xs = text} h hs) e room f =
        let k = all_known b text e in
        let j = all_fits room b text f in
        let n : get_or lengths b 0 ≡ length_of c (rank_in l b) = at_length b h ∙ for_there b (there b h k.0) in
        taken_more lengths room b text j.0
        ∙ ap₂ ◌+◌ n (taken_is hs k.1 (room - get_or lengths b 0) j.1)
        ∙ sym (length-append (word_of c (rank_in l b)) (text_row c l text))

    word_below : (b : ℕ) → b < 256 → Below (base c) (word_at lengths words b)
    unfolding word_at write
    word_below b h =
        by_value (has b l)
        (λ e. rw (at_length b h, s.word b h e) (rw append-nil at (write_below (base c) (stoppers c) (code_good c g) (rank_in l b ∷ []))))
        (λ e. rw (at_length b h, for_none b e) none)

    -- the words are laid out
    pub words_laid : length l ≤ 256 → WordsLaid c.k lengths words
    words_laid few = record {
      width = code_width c g;
      characters = ap length s.sizes ∙ length_tab (length_for c l) 0 256;
      few = rw s.sizes (tab_below (length_for c l) (suc longest) 0 256 short);
      places = s.long;
      symbols = word_below;
    }
      where
        short : (b : ℕ) → length_for c l b < (suc longest)
        short b =
            by_value (has b l)
            (λ e.
            let r : rank_in l b < length l = ltb-true _ _ (sym (has_rank l b) ∙ e) in
            omega (arith, for_there b e, length_small c g (rank_in l b) (omega arith)))
            (λ e. omega (arith, for_none b e))

-- a buffer of the same length will do for storing the text
pub laid_again : {k : ℕ} {lengths words text buf after : List ℕ} {first : ℕ} → Laid k lengths words text buf first → length after ≡ length buf
    → Laid k lengths words text after first
laid_again {k} {buf = buf} {after = after} a e = record {
  laid = a.laid;
  fits = rw (symbols_even k after buf e) a.fits;
  counts = a.counts;
}
