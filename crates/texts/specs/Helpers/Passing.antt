-- The numbers that pass a test, as a search finds them one after the other.
use Rattle.std.specs.Prelude.{Bool, true, false, List, [], ◌∷◌, ◌++◌, ℕ, zero, suc}

-- the numbers below n that a test takes, ascending
abbrev pub grown : Bool → ℕ → List ℕ → List ℕ
grown true n found = found ++ (n ∷ [])
grown false n found = found

unfoldable pub passing : (ℕ → Bool) → ℕ → List ℕ
passing f zero = []
passing f (suc n) = grown (f n) n (passing f n)
