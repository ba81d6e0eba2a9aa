-- The codewords of a table, laid out by character: 86 places each. What of a text is in the table and fits, and its symbols, from them.
use Rattle.std.specs.Prelude.{◌≡◌, Bool, cond, true, ◌&&◌, List, [], ◌∷◌, ◌++◌, ℕ, suc, ◌+◌, ◌-◌, ◌*◌, ◌^◌, ◌≤◌, ◌<◌, ltb, leb, eqb, length, take, drop, get_or}
use Rattle.ground.specs.Paper.Rows.{tab, first_where}
use Rattle.ground.specs.Helpers.Below.{Below}
use Rattle.stopper.specs.Paper.Table.{has, rank_in, word_of, length_of, longest}
use Rattle.stopper.specs.declared.code.Code.{Code}
use Rattle.symbols.specs.Paper.Symbols.{symbols_of}
use Rattle.symbols.specs.Helpers.Widths.{Width}
use Rattle.symbols.specs.Helpers.Gathered.{Joins}
use Rattle.store.specs.declared.words.Fit.{Fit}

-- the symbols that character b takes; 0 if it is not in the row
unfoldable pub length_for : Code → List ℕ → ℕ → ℕ
length_for c l b = cond (has b l) (length_of c (rank_in l b)) 0

pub record Spelt (c : Code) (l lengths words : List ℕ) : Type 0 where
  pub sizes : lengths ≡ tab (length_for c l) 0 256
  pub long : length words ≡ 256 * longest
  pub word : (b : ℕ) → b < 256 → has b l ≡ true → take (length_for c l b) (drop (b * longest) words) ≡ word_of c (rank_in l b)

-- ---- a text under lengths, 0 for a character that is not in the table

-- a character is in the table and fits
unfoldable pub goes_on : ℕ → ℕ → Bool
goes_on long left = ltb 0 long && leb long left

-- how many characters from the first on do so, and the symbols that they take
unfoldable pub upto_of : List ℕ → ℕ → List ℕ → ℕ
upto_of lengths room [] = 0
upto_of lengths room (b ∷ text) =
    let later : ℕ = suc (upto_of lengths (room - get_or lengths b 0) text) in
    cond (goes_on (get_or lengths b 0) room) later 0

unfoldable pub taken_of : List ℕ → ℕ → List ℕ → ℕ
taken_of lengths room [] = 0
taken_of lengths room (b ∷ text) =
    let later : ℕ = get_or lengths b 0 + taken_of lengths (room - get_or lengths b 0) text in
    cond (goes_on (get_or lengths b 0) room) later 0

abbrev pub fit_of : List ℕ → ℕ → List ℕ → Fit
fit_of lengths room text = record { upto = upto_of lengths room text; taken = taken_of lengths room text }

-- a character is not in the table
abbrev pub absent : List ℕ → ℕ → Bool
absent lengths b = eqb (get_or lengths b 0) 0

-- the place of the first one from a place on, or the text's length
abbrev pub next_foreign : List ℕ → List ℕ → ℕ → ℕ
next_foreign lengths text from = from + first_where (absent lengths) (drop from text)

-- ---- a text under lengths and words

unfoldable pub word_at : List ℕ → List ℕ → ℕ → List ℕ
word_at lengths words b = take (get_or lengths b 0) (drop (b * longest) words)

unfoldable pub row_of : List ℕ → List ℕ → List ℕ → List ℕ
row_of lengths words [] = []
row_of lengths words (b ∷ text) = word_at lengths words b ++ row_of lengths words text

-- the words are symbols of k bits in their places
pub record WordsLaid (k : ℕ) (lengths words : List ℕ) : Type 0 where
  pub width : Width k
  pub characters : length lengths ≡ 256
  pub few : Below (suc longest) lengths
  pub places : length words ≡ 256 * longest
  pub symbols : (b : ℕ) → b < 256 → Below (2 ^ k) (word_at lengths words b)

-- those of fewer than 9 symbols as numbers
pub record Numbers (k : ℕ) (lengths words numbers : List ℕ) : Type 0 where
  pub many : length numbers ≡ 256
  pub joins : (b : ℕ) → b < 256 → get_or lengths b 0 < 9 → Joins k (word_at lengths words b) (get_or numbers b 0)

-- and those of the text are within the buffer from a symbol on
pub record Laid (k : ℕ) (lengths words text buf : List ℕ) (first : ℕ) : Type 0 where
  pub laid : WordsLaid k lengths words
  pub fits : first + length (row_of lengths words text) ≤ length (symbols_of k buf)
  pub counts : first + length (row_of lengths words text) < 2 ^ 64
