-- The codeword that stands first in a row of symbols.
use Rattle.std.specs.Prelude.{cond, List, [], ◌∷◌, ℕ, suc, ◌+◌, ◌-◌, ◌*◌, ltb}
use Rattle.stopper.specs.Paper.Code.{rank_at}
use Rattle.stopper.specs.Paper.Reading.{Fault, unfinished, beyond}

-- what stands first in a row of symbols: a codeword, with its rank and how many symbols it takes; or a bad one
pub data First : Type 0 where
  whole : ℕ → ℕ → First
  broken : Fault → First

unfoldable pub first_from : ℕ → (ℕ → ℕ) → ℕ → ℕ → ℕ → List ℕ → First
first_from m s σ i x [] = broken unfinished
first_from m s σ i x (y ∷ w) =
    let later : First = first_from m s σ (suc i) (x * (m - s i) + (y - s i)) w in
    cond (ltb y (s i)) (cond (ltb (rank_at m s i x y) σ) (whole (rank_at m s i x y) (suc i)) (broken beyond)) later

unfoldable pub first_word : ℕ → (ℕ → ℕ) → ℕ → List ℕ → First
first_word m s σ w = first_from m s σ 0 0 w
