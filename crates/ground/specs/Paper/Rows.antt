-- Rows of numbers.
use Rattle.std.specs.Prelude.{List, [], ◌∷◌, ◌++◌, Bool, true, cond, ◌&&◌, ℕ, zero, suc, ◌-◌, length, replicate, eqb}

-- f i, f (i + 1), .. : n of them
unfoldable pub tab : (ℕ → ℕ) → ℕ → ℕ → List ℕ
tab f i zero = []
tab f i (suc n) = f i ∷ tab f (suc i) n

-- n zeros
unfoldable pub zeros : ℕ → List ℕ
zeros n = replicate n 0

-- a row of at most n numbers in n places, 0 past its end
unfoldable pub padded : ℕ → List ℕ → List ℕ
padded n row = row ++ zeros (n - length row)

unfoldable pub all_zero : List ℕ → Bool
all_zero [] = true
all_zero (x ∷ l) = eqb x 0 && all_zero l

-- the place of the first number that a test picks, or the row's length
unfoldable pub first_where : (ℕ → Bool) → List ℕ → ℕ
first_where picks [] = 0
first_where picks (x ∷ row) = let later : ℕ = suc (first_where picks row) in cond (picks x) 0 later
