-- Counting, the total, and choosing the stopper count.
use Rattle.std.specs.Prelude.{cond, List, [], ◌∷◌, ℕ, zero, suc, ◌+◌, ◌-◌, ◌*◌, ◌^◌, ltb, eqb, get_or}
use Rattle.ground.specs.Paper.Rows.{tab}
use Rattle.stopper.specs.Paper.Table.{even_code, length_of, table_of, has}
use Rattle.stopper.specs.declared.code.Code.{Code}
use Rattle.stopper.specs.declared.table.Table.{Table}
use Rattle.choosing.specs.Paper.Ranking.{ranked}

-- how often b stands in the text
unfoldable pub occurs : List ℕ → ℕ → ℕ
occurs [] b = 0
occurs (x ∷ xs) b = cond (eqb x b) 1 0 + occurs xs b

-- the counts of a text, one for each byte value
unfoldable pub counts_of : List ℕ → List ℕ
counts_of text = tab (occurs text) 0 256

-- the ten digits, `+` and byte 10
unfoldable pub twelve : List ℕ
twelve = 10 ∷ 43 ∷ 48 ∷ 49 ∷ 50 ∷ 51 ∷ 52 ∷ 53 ∷ 54 ∷ 55 ∷ 56 ∷ 57 ∷ []

-- the least that byte b counts as: each of the twelve as 1, any other as 0
unfoldable pub at_least : ℕ → ℕ
at_least b = cond (has b twelve) 1 0

-- what byte b counts as, which is what is ranked: its count, or the least if that is more
unfoldable pub counted : List ℕ → ℕ → ℕ
counted counts b = let n : ℕ = get_or counts b 0 in cond (ltb n (at_least b)) (at_least b) n

-- the symbols that these characters take, with ranks from r on
unfoldable pub total_from : Code → (ℕ → ℕ) → ℕ → List ℕ → ℕ
total_from c count r [] = 0
total_from c count r (b ∷ l) = count b * length_of c r + total_from c count (suc r) l

unfoldable pub total : Code → (ℕ → ℕ) → ℕ
total c count = total_from c count 0 (ranked count)

-- of 0 .. n the one with the least value, of equals the smallest
unfoldable pub least : (ℕ → ℕ) → ℕ → ℕ
least f zero = 0
least f (suc n) = let b : ℕ = least f n in cond (ltb (f (suc n)) (f b)) (suc n) b

-- the code of width k with s = j + 1, and its total
abbrev pub code_for : ℕ → ℕ → Code
code_for k j = even_code k (suc j)

abbrev pub total_for : ℕ → (ℕ → ℕ) → ℕ → ℕ
total_for k count j = total (code_for k j) count

-- the code of width k: of s = 1 .. 2 ^ k - 1 the one with the fewest symbols, of equals the smallest
unfoldable pub chosen : ℕ → (ℕ → ℕ) → Code
chosen k count = code_for k (least (total_for k count) (2 ^ k - 2))

-- and its table
unfoldable pub chosen_table : ℕ → (ℕ → ℕ) → Table
chosen_table k count = table_of (chosen k count) (ranked count)
