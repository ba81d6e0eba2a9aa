-- The table: its code, its characters, and when they are good.
use Rattle.std.specs.Prelude.{Bool, false, not, ◌&&◌, ◌||◌, List, [], ◌∷◌, ℕ, ◌-◌, ◌^◌, leb, eqb, length, take}
use Rattle.ground.specs.Paper.Rows.{padded, first_where}
use Rattle.stopper.specs.Paper.Code.{codeword}
use Rattle.stopper.specs.declared.code.Code.{Code}
use Rattle.stopper.specs.declared.table.Table.{Table}

-- ---- the code

-- the same number of stoppers at every place
abbrev pub even_code : ℕ → ℕ → Code
even_code k s = record { k = k; s = s }

-- the number of base symbols
abbrev pub base : Code → ℕ
base c = 2 ^ c.k

-- how many stoppers there are at place i of a codeword: the same number at every place
unfoldable pub stoppers : Code → ℕ → ℕ
stoppers c i = c.s

-- k is 2 or 4
unfoldable pub good_width : ℕ → Bool
good_width k = eqb k 2 || eqb k 4

-- and 1 ≤ s ≤ 2 ^ k - 1
unfoldable pub good_code : Code → Bool
good_code c = good_width c.k && (leb 1 c.s && leb c.s (base c - 1))

-- the codeword of rank r
abbrev pub word_of : Code → ℕ → List ℕ
word_of c r = codeword (base c) (stoppers c) r

unfoldable pub length_of : Code → ℕ → ℕ
length_of c r = length (word_of c r)

-- no codeword of a rank below 256 has more symbols (P9)
abbrev pub longest : ℕ
longest = 86

-- ---- the characters

-- the characters in rank order
abbrev pub characters : Table → List ℕ
characters t = take t.sigma t.places

-- whether b is in the row
unfoldable pub has : ℕ → List ℕ → Bool
has b [] = false
has b (x ∷ l) = eqb x b || has b l

-- whether some number stands twice in the row
unfoldable pub repeats : List ℕ → Bool
repeats [] = false
repeats (x ∷ l) = has x l || repeats l

-- σ is at most 256, and no character stands twice among the first σ places
unfoldable pub good_characters : ℕ → List ℕ → Bool
good_characters σ places = leb σ 256 && not (repeats (take σ places))

-- what refusal 1 asks of a table
unfoldable pub good_table : Table → Bool
good_table t = good_code t.code && good_characters t.sigma t.places

-- the rank of character b: its place in the row, or the row's length if it is not there
unfoldable pub rank_in : List ℕ → ℕ → ℕ
rank_in l b = first_where (λ x. eqb x b) l

-- the table of a code and of characters in rank order, 0 past them
abbrev pub table_of : Code → List ℕ → Table
table_of code row = record { code = code; sigma = length row; places = padded 256 row }
