-- The code alone, by the operations: codeword of a character and character of a codeword are each other's way back, and packing writes those codewords.
use Rattle.std.specs.Prelude.{◌≡◌, refl, ltb, Result, Ok}
use Rattle.std.proofs.Common.{sym, ap₂, subst, ◌∙◌, arith}
use Rattle.std.proofs.Math.Path.{ap}
use mathlib.Core.List.{List, [], ◌∷◌, ◌++◌}
use Prim.Native.Nat.{ℕ, ◌≤◌, ◌<◌}
use borrow.Author.Tests.{lt-ltb}
use Rattle.std.proofs.Math.Facts.{and_yes}
use Rattle.std.proofs.Math.Dec.{T, ltb→lt}
use Rattle.std.proofs.Math.ListN.{length, get_or}
use Rattle.std.proofs.Math.Seq.{get_or-take}
use Rattle.ground.specs.Paper.Refusals.{accepted}
use Rattle.ground.specs.Laws.Answers.{says_one, accepted_ok, ok_accepted}
use Rattle.ground.specs.Laws.Refusals.{Accepted, accepted_leaves, accepted_answer}
use Rattle.ground.specs.Laws.Rows.{take_padded}
use Rattle.ground.specs.Laws.Tests.{yes_true}
use Rattle.ground.specs.declared.refusal.Refusal.{Refusal}
use Rattle.stopper.specs.Paper.Code.{Good, IsCodeword, is_word, rank_of}
use Rattle.stopper.specs.Paper.Reading.{write}
use Rattle.stopper.specs.Paper.Table.{base, stoppers, has, characters, good_table, rank_in, word_of, length_of, longest}
use Rattle.stopper.specs.Paper.Operations.{codeword_says, codeword_given, Coding, is_one, word_in, character_rows, character_at, character_says, Decoding}
use Rattle.stopper.specs.Laws.Characters.{◌∈◌, mem_at, mem_has}
use Rattle.stopper.specs.Laws.Code.{length_mono, word_test, test_word}
use Rattle.stopper.proofs.Laws.Code.{codeword_word, rank_codeword, codeword_rank}
use Rattle.stopper.specs.Laws.Table.{table_code, table_few, table_apart, code_good, length_small}
use Rattle.stopper.specs.Laws.Accepting.{codes_is, decodes_is}
use Rattle.stopper.specs.declared.table.Table.{Table}
use Rattle.stopper.specs.declared.codeword_of.Codeword.{Codeword}
use Rattle.sound.specs.Paper.Roll.{text_row, symbols_for}
use Rattle.texts.specs.Laws.Characters.{InTable, empty, char, rank_within, rank_character, character_rank, characters_few, characters_length}

module _ {t : Table} where
  -- what an accepted codeword of a character is
  pub coded_word : {b : ℕ} {c : Codeword} → Coding t b (Ok c) → T (good_table t) × T (has b (characters t)) × (word_in c ≡ word_of t.code (rank_in (characters t) b))
  coded_word {b} {c} p =
      let (e, word) = ok_accepted (codeword_given t b) p.says refl in
      let (g, h) = (codes_is t b).1 e in
      let w : List ℕ = word_of t.code (rank_in (characters t) b) in
      (g, h, ap word_in (word ∙ accepted_leaves e _ _) ∙ take_padded longest w)

  -- the character of the codeword of b is b
  pub coded_decoded : {b : ℕ} {c : Codeword} {a : Result ℕ Refusal} → Coding t b (Ok c) → Decoding t c a → a ≡ Ok b
  unfolding is_one length_of
  coded_decoded {b} {c} {a} p d =
      let m : ℕ = base t.code in
      let s : ℕ → ℕ = stoppers t.code in
      let (e, word) = ok_accepted (codeword_given t b) p.says refl in
      let (g, h, w) = coded_word p in
      let l : List ℕ = characters t in
      let r : ℕ = rank_in l b in
      let k : r < t.sigma = omega (arith, rank_within l b h, characters_few t) in
      let good : Good m s = code_good t.code (table_code t g) in
      let long : c.length ≤ longest = rw (word ∙ accepted_leaves e _ _) (length_small t.code (table_code t g) r (omega (arith, table_few t g))) in
      let one : T (is_one t.code t.sigma (word_in c))
      = rw (w, yes_true (is_word m s 0 (word_of t.code r)) (word_test (codeword_word m s good r)), rank_codeword m s good r, lt-ltb _ _ k) tt in
      let is : character_at t (word_in c) ≡ b = rw (w, rank_codeword m s good r) (sym (get_or-take t.sigma t.places r 0 k) ∙ rank_character l b h) in
      says_one a (Ok b) (d.says ∙ (decodes_is t c).0 (g, long, one) ∙ ap (λ (x : ℕ). accepted x) is)

  -- the codeword of the character of a codeword is that codeword
  pub decoded_coded : {w : Codeword} {b : ℕ} {a : Result Codeword Refusal} → length t.places ≡ 256 → Decoding t w (Ok b) → Coding t b a
      → (c : Codeword) × (a ≡ Ok c) × (word_in c ≡ word_in w)
  unfolding is_one character_says
  decoded_coded {w} {b} {a} places d p =
      let m : ℕ = base t.code in
      let s : ℕ → ℕ = stoppers t.code in
      let at : character_at t (word_in w) ≡ b = accepted_answer (character_rows t w) (character_at t (word_in w)) (sym d.says) in
      let (g, long, one) = (decodes_is t w).1 (sym d.says ∙ ap (λ (x : ℕ). accepted x) (sym at)) in
      let r : ℕ = rank_of m s (word_in w) in
      let (word, below) = and_yes (is_word m s 0 (word_in w)) (ltb r t.sigma) one in
      let k : r < t.sigma = ltb→lt _ _ below in
      let l : List ℕ = characters t in
      let size : length l ≡ t.sigma = characters_length t g places in
      let b_is : get_or l r 0 ≡ b = get_or-take t.sigma t.places r 0 k ∙ at in
      let there : T (has b l) = mem_has l b (subst (λ (x : ℕ). x ∈ l) b_is (mem_at l r (omega arith))) in
      let rank : rank_in l b ≡ r = ap (rank_in l) (sym b_is) ∙ character_rank l (table_apart t g) r (omega arith) in
      let y : a ≡ Ok (codeword_given t b) = accepted_ok (codeword_given t b) p.says ((codes_is t b).0 (g, there)) in
      let good : Good m s = code_good t.code (table_code t g) in
      (codeword_given t b, y, (coded_word (subst (Coding t b) y p)).2 ∙ ap (word_of t.code) rank ∙ codeword_rank m s good (test_word m s 0 (word_in w) word))

-- a codeword is continuers and then one stopper
pub code_stopper : {t : Table} {b : ℕ} {c : Codeword} → Coding t b (Ok c) → IsCodeword (base t.code) (stoppers t.code) 0 (word_in c)
code_stopper {t} {b} p =
    let (g, h, w) = coded_word p in
    rw w (codeword_word (base t.code) (stoppers t.code) (code_good t.code (table_code t g)) (rank_in (characters t) b))

-- the character of rank i has codeword i, and shorter codewords come first
pub code_rank : {t : Table} {i : ℕ} {c : Codeword} → length t.places ≡ 256 → i < t.sigma → Coding t (get_or t.places i 0) (Ok c) → word_in c ≡ word_of t.code i
code_rank {t} {i} places h p =
    let (g, there, w) = coded_word p in
    let l : List ℕ = characters t in
    let size : length l ≡ t.sigma = characters_length t g places in
    w
    ∙ ap (word_of t.code) (ap (rank_in l) (sym (get_or-take t.sigma t.places i 0 h)) ∙ character_rank l (table_apart t g) i (omega arith))

pub code_shorter : {t : Table} {i j : ℕ} {c d : Codeword} → length t.places ≡ 256 → i ≤ j → j < t.sigma → Coding t (get_or t.places i 0) (Ok c)
    → Coding t (get_or t.places j 0) (Ok d) → length (word_in c) ≤ length (word_in d)
code_shorter {t} {i} {j} places le h p q =
    let (g, there, w) = coded_word p in
    rw (code_rank places (omega arith) p, code_rank places h q)
    (length_mono (base t.code) (stoppers t.code) (code_good t.code (table_code t g)) le)

-- the codewords of a text's characters, one after the other, as codeword of a character answers them
pub data Codewords (t : Table) : List ℕ → List ℕ → Type 0 where
  none : Codewords t [] []
  next : {b : ℕ} {c : Codeword} {text row : List ℕ} → Coding t b (Ok c) → Codewords t text row → Codewords t (b ∷ text) (word_in c ++ row)

-- they are the symbols of the text
pub codewords_row : {t : Table} {text row : List ℕ} → Codewords t text row → symbols_for t text ≡ row
unfolding text_row write
codewords_row none = refl
codewords_row (next p w) = ap₂ {C = List ℕ} ◌++◌ (sym (coded_word p).2) (codewords_row w)

pub codewords_known : {t : Table} {text row : List ℕ} → Codewords t text row → InTable (characters t) text
codewords_known none = empty
codewords_known (next p w) = char (coded_word p).1 (codewords_known w)

-- a text of the table's characters has them
pub text_codewords : {t : Table} {text : List ℕ} → T (good_table t) → InTable (characters t) text → Codewords t text (symbols_for t text)
unfolding text_row write
text_codewords g empty = none
text_codewords {t} g (char {b = b} {text = text} there h) =
    let e : Accepted (codeword_says t b) = (codes_is t b).0 (g, there) in
    let p : Coding t b (Ok (codeword_given t b)) = record { says = rw e } in
    subst (Codewords t (b ∷ text)) (ap (λ (w : List ℕ). w ++ symbols_for t text) (coded_word p).2) (next p (text_codewords g h))
