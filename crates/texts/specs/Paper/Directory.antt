-- A directory, over the lengths of a text's codewords: an entry for each of characters 0, 32, 64, .., the number of that character's first symbol.
use Rattle.std.specs.Prelude.{List, [], ◌∷◌, cond, ℕ, suc, ◌+◌, ◌*◌, ◌/◌, eqb, length, take}
use Rattle.ground.specs.Paper.Rows.{tab}

-- as many entries as n characters have: n / 32, rounded up
unfoldable pub entries : ℕ → ℕ
entries n = (n + 31) / 32

unfoldable pub sum : List ℕ → ℕ
sum [] = 0
sum (x ∷ l) = x + sum l

-- over the lengths of the codewords: character j starts behind those of characters 0 .. j - 1
unfoldable pub start_at : List ℕ → ℕ → ℕ
start_at lengths j = sum (take j lengths)

unfoldable pub directory_of : List ℕ → List ℕ
directory_of lengths = tab (λ i. start_at lengths (i * 32)) 0 (entries (length lengths))

-- the number of the first entry that is missing or wrong, of those wanted; or how many are wanted
unfoldable pub first_wrong : List ℕ → List ℕ → ℕ
first_wrong [] dir = 0
first_wrong (e ∷ wanted) [] = 0
first_wrong (e ∷ wanted) (x ∷ dir) = let later : ℕ = suc (first_wrong wanted dir) in cond (eqb e x) later 0
