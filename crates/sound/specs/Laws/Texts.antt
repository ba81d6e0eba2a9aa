-- The symbols of a text.
use Rattle.std.specs.Prelude.{◌≡◌, List, [], ◌∷◌, ◌++◌, map, ℕ, zero, suc, ◌+◌, ◌≤◌, ◌<◌, T, take, drop, get_or}
use Rattle.std.proofs.Math.Path.{refl, ap}
use Rattle.std.proofs.Common.{sym, ◌∙◌, append_assoc, append-nil, le_of_suc-le-suc, arith, take-append-drop, take-suc}
use Rattle.std.proofs.Math.ListN.{length, length-append}
use Rattle.std.proofs.Math.Seq.{take-append_seam, drop-append_seam}
use Rattle.ground.specs.Helpers.Below.{Below}
use Rattle.stopper.specs.Paper.Table.{base, stoppers, good_code, word_of, length_of, rank_in}
use Rattle.stopper.specs.Paper.Reading.{write}
use Rattle.stopper.proofs.Laws.Reading.{write_below}
use Rattle.stopper.specs.Laws.Table.{code_good}
use Rattle.stopper.specs.declared.code.Code.{Code}
use Rattle.sound.specs.Paper.Roll.{text_row}

-- ---- symbols are below 2 ^ k

pub text_below : (c : Code) → T (good_code c) → (l text : List ℕ) → Below (base c) (text_row c l text)
unfolding text_row
text_below c g l text = write_below (base c) (stoppers c) (code_good c g) (map (rank_in l) text)

module _ (c : Code) (l : List ℕ) where
  -- ---- the symbols of a text, character by character and part by part

  pub text_none : text_row c l [] ≡ []
  unfolding text_row write
  text_none = refl

  pub text_cons : (b : ℕ) (text : List ℕ) → text_row c l (b ∷ text) ≡ word_of c (rank_in l b) ++ text_row c l text
  unfolding text_row write
  text_cons b text = refl

  pub text_append : (a b : List ℕ) → text_row c l (a ++ b) ≡ text_row c l a ++ text_row c l b
  text_append [] b = rw text_none
  text_append (x ∷ a) b =
      text_cons x (a ++ b)
      ∙ ap (λ (w : List ℕ). word_of c (rank_in l x) ++ w) (text_append a b)
      ∙ rw (text_cons x a, append_assoc)

  -- the first characters have the first symbols, and the others the rest
  module _ (text : List ℕ) (i : ℕ) where
    text_parts : text_row c l text ≡ text_row c l (take i text) ++ text_row c l (drop i text)
    text_parts = ap (text_row c l) (sym (take-append-drop i text)) ∙ text_append (take i text) (drop i text)

    pub text_take : take (length (text_row c l (take i text))) (text_row c l text) ≡ text_row c l (take i text)
    text_take = ap (take (length (text_row c l (take i text)))) text_parts ∙ take-append_seam (text_row c l (take i text)) (text_row c l (drop i text))

    pub text_drop : drop (length (text_row c l (take i text))) (text_row c l text) ≡ text_row c l (drop i text)
    text_drop = ap (drop (length (text_row c l (take i text)))) text_parts ∙ drop-append_seam (text_row c l (take i text)) (text_row c l (drop i text))

  pub length_none : length (text_row c l []) ≡ 0
  length_none = ap length text_none

  pub length_cons : (b : ℕ) (text : List ℕ) → length (text_row c l (b ∷ text)) ≡ length_of c (rank_in l b) + length (text_row c l text)
  unfolding length_of
  length_cons b text = ap length (text_cons b text) ∙ length-append (word_of c (rank_in l b)) (text_row c l text)

  pub length_parts : (a b : List ℕ) → length (text_row c l (a ++ b)) ≡ length (text_row c l a) + length (text_row c l b)
  length_parts a b = ap length (text_append a b) ∙ length-append (text_row c l a) (text_row c l b)

  -- the first characters take no more symbols than more of them
  pub length_up : (text : List ℕ) (i j : ℕ) → i ≤ j → length (text_row c l (take i text)) ≤ length (text_row c l (take j text))
  length_up text zero j h = omega (arith, length_none)
  length_up [] (suc i) j h = omega (arith, length_none)
  length_up (b ∷ text) (suc i) zero h = absurd (omega arith)
  length_up (b ∷ text) (suc i) (suc j) h =
      omega (arith, length_cons b (take i text), length_cons b (take j text), length_up text i j (le_of_suc-le-suc h))

module _ (c : Code) (l p : List ℕ) (i : ℕ) (h : i < length p) where
  pub text_more : text_row c l (take (suc i) p) ≡ text_row c l (take i p) ++ word_of c (rank_in l (get_or p i 0))
  text_more =
      ap (text_row c l) (take-suc p i 0 h)
      ∙ text_append c l (take i p) (get_or p i 0 ∷ [])
      ∙ ap (λ (w : List ℕ). text_row c l (take i p) ++ w) (text_cons c l (get_or p i 0) [] ∙ rw (text_none c l, append-nil))
