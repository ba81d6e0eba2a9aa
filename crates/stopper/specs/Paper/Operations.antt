-- The operations, in the paper's order: the refusals of each, and its promise.
use Rattle.std.specs.Prelude.{◌≡◌, Bool, not, ◌&&◌, List, [], ◌∷◌, ℕ, ltb, leb, length, take, get_or, Result}
use Rattle.ground.specs.Paper.Refusals.{Row, refuse, Outcome, accepted, judged, ◌then◌, kept}
use Rattle.ground.specs.Paper.Answers.{outcome_of}
use Rattle.ground.specs.Paper.Rows.{padded}
use Rattle.ground.specs.declared.refusal.Refusal.{Refusal}
use Rattle.stopper.specs.Paper.Code.{is_word, rank_of}
use Rattle.stopper.specs.Paper.Table.{base, stoppers, has, characters, good_table, rank_in, word_of, longest}
use Rattle.stopper.specs.declared.code.Code.{Code}
use Rattle.stopper.specs.declared.table.Table.{Table}
use Rattle.stopper.specs.declared.codeword_of.Codeword.{Codeword}

-- ---- codeword of a character: 1, 3 (value 0)

abbrev pub codeword_rows : Table → ℕ → List Row
codeword_rows t b = refuse 1 0 (not (good_table t)) ∷ refuse 3 0 (not (has b (characters t))) ∷ []

-- a row of symbols in 86 bytes, 0 past its length
abbrev pub codeword_for : List ℕ → Codeword
codeword_for w = record { length = length w; symbols = padded longest w }

unfoldable pub codeword_says : Table → ℕ → Outcome (Unit {0})
codeword_says t b = judged (codeword_rows t b) tt

-- beside a refusal, where a word is answered with one: no symbols
abbrev pub codeword_given : Table → ℕ → Codeword
codeword_given t b = kept (codeword_says t b) (codeword_for []) (codeword_for (word_of t.code (rank_in (characters t) b)))

pub record Coding (t : Table) (b : ℕ) (r : Result Codeword Refusal) : Type 0 where
  pub says : outcome_of r ≡ (codeword_says t b then accepted (codeword_given t b))

-- ---- character of a codeword: 1, 6 (value 0)

-- the row is one codeword of a rank below σ
unfoldable pub is_one : Code → ℕ → List ℕ → Bool
is_one c σ w = is_word (base c) (stoppers c) 0 w && ltb (rank_of (base c) (stoppers c) w) σ

-- the bytes up to the length
abbrev pub word_in : Codeword → List ℕ
word_in w = take w.length w.symbols

abbrev pub character_rows : Table → Codeword → List Row
character_rows t w =
    refuse 1 0 (not (good_table t))
    ∷ refuse 6 0 (not (leb w.length longest && is_one t.code t.sigma (word_in w)))
    ∷ []

-- the character at its rank
abbrev pub character_at : Table → List ℕ → ℕ
character_at t w = get_or t.places (rank_of (base t.code) (stoppers t.code) w) 0

unfoldable pub character_says : Table → Codeword → Outcome ℕ
character_says t w = judged (character_rows t w) (character_at t (word_in w))

pub record Decoding (t : Table) (w : Codeword) (answer : Result ℕ Refusal) : Type 0 where
  pub says : outcome_of answer ≡ character_says t w
