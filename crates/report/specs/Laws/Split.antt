-- The input at its first byte 10: the pattern before it, the text behind it.
use Rattle.std.specs.Prelude.{◌≡◌, refl, ◌≢◌, List, [], ◌∷◌, ℕ, suc, ◌+◌, ◌≤◌, ◌<◌, length, take, drop, get_or}
use Rattle.std.proofs.Common.{ap, ◌∙◌, arith, drop_of_length-le, drop-cons}
use Rattle.std.proofs.Math.Decide.{ℕ_discrete, dec_lt}
use borrow.Author.Tests.{eq-eqb, ne_eqb, lt-ltb, le-ltb}
use Rattle.report.specs.Paper.Report.{given_pattern, given_text}
use Rattle.report.specs.Helpers.Answers.{start_of_text}

-- ---- one byte more

module _ (b : ℕ) (input : List ℕ) where
  pattern_here : b ≡ 10 → given_pattern (b ∷ input) ≡ []
  unfolding given_pattern
  pattern_here e = rw (eq-eqb b 10 e)

  pattern_later : b ≢ 10 → given_pattern (b ∷ input) ≡ b ∷ given_pattern input
  unfolding given_pattern
  pattern_later e = rw (ne_eqb b 10 e)

  text_here : b ≡ 10 → given_text (b ∷ input) ≡ input
  unfolding given_text
  text_here e = rw (eq-eqb b 10 e)

  text_later : b ≢ 10 → given_text (b ∷ input) ≡ given_text input
  unfolding given_text
  text_later e = rw (ne_eqb b 10 e)

  start_later : (end : ℕ) → start_of_text (suc end) (suc (length input)) ≡ suc (start_of_text end (length input))
  unfolding start_of_text
  start_later end = elim (dec_lt end (length input)) [
    | yes h ↦ rw (lt-ltb (suc end) (suc (length input)) (omega arith), lt-ltb end (length input) h) (omega arith)
    | no h ↦ rw (le-ltb (suc end) (suc (length input)) (omega arith), le-ltb end (length input) (omega arith))
  ]

start_first : (long : ℕ) → start_of_text 0 (suc long) ≡ 1
unfolding start_of_text
start_first long = rw (lt-ltb 0 (suc long) (omega arith))

-- ---- the parts of the input

-- the pattern is what stands before its end
pub pattern_take : (input : List ℕ) → take (length (given_pattern input)) input ≡ given_pattern input
unfolding given_pattern
pattern_take [] = refl
pattern_take (b ∷ input) = elim (ℕ_discrete b 10) [
  | yes e ↦ rw (pattern_here b input e)
  | no e ↦ rw (pattern_later b input e) (ap {B = List ℕ} (λ l. b ∷ l) (pattern_take input))
]

-- and the text what stands behind it
pub text_drop : (input : List ℕ) → drop (start_of_text (length (given_pattern input)) (length input)) input ≡ given_text input
unfolding given_pattern given_text start_of_text
text_drop [] = refl
text_drop (b ∷ input) = elim (ℕ_discrete b 10) [
  | yes e ↦ rw (pattern_here b input e, text_here b input e, start_first (length input))
  | no e ↦ rw (pattern_later b input e, text_later b input e, start_later b input (length (given_pattern input))) (text_drop input)
]

-- ---- looking for the byte 10 from place i on

module _ (input : List ℕ) (i : ℕ) (h : i < length input) where
  pub line_ends : get_or input i 0 ≡ 10 → i + length (given_pattern (drop i input)) ≡ i
  line_ends e = let f : length (given_pattern (drop i input)) ≡ 0 = ap (λ (l : List ℕ). length (given_pattern l)) (drop-cons input i 0 h) ∙ ap length (pattern_here (get_or input i 0) (drop (suc i) input) e) in omega arith

  pub line_goes : get_or input i 0 ≢ 10 → i + length (given_pattern (drop i input)) ≡ suc i + length (given_pattern (drop (suc i) input))
  line_goes e = let f : length (given_pattern (drop i input)) ≡ suc (length (given_pattern (drop (suc i) input))) = ap (λ (l : List ℕ). length (given_pattern l)) (drop-cons input i 0 h) ∙ ap length (pattern_later (get_or input i 0) (drop (suc i) input) e) in omega arith

pub line_over : (input : List ℕ) (i : ℕ) → length input ≤ i → i + length (given_pattern (drop i input)) ≡ i
unfolding given_pattern
line_over input i h = let f : length (given_pattern (drop i input)) ≡ 0 = ap (λ (l : List ℕ). length (given_pattern l)) (drop_of_length-le input h) in omega arith
