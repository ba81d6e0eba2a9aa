-- Rows of small numbers.
use Rattle.std.specs.Prelude.{List, [], ◌∷◌, ℕ, ◌<◌}

-- a row of numbers below n
pub data Below (n : ℕ) : List ℕ → Type 0 where
  none : Below n []
  also : {x : ℕ} {xs : List ℕ} → x < n → Below n xs → Below n (x ∷ xs)
