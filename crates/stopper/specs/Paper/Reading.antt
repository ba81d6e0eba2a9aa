-- Reading a row of symbols as codewords.
use Rattle.std.specs.Prelude.{cond, List, [], ◌∷◌, ◌++◌, ℕ, zero, suc, ◌+◌, ◌-◌, ◌*◌, ltb}
use Rattle.stopper.specs.Paper.Code.{codeword, rank_at}

-- why a codeword is bad: unfinished at the row's end, or of rank σ or more
pub data Fault : Type 0 where
  unfinished : Fault
  beyond : Fault

-- what reading gives: all read, with the ranks in order; or a bad codeword, with why (no answer tells it), the number of its first symbol and the ranks
-- read before it
pub data Reading : Type 0 where
  done : List ℕ → Reading
  bad : Fault → ℕ → List ℕ → Reading

-- with one more rank before
unfoldable pub ahead : ℕ → Reading → Reading
ahead r (done rs) = done (r ∷ rs)
ahead r (bad f p rs) = bad f p (r ∷ rs)

-- reading goes on at place i of a codeword that starts at symbol `from`, after continuers that spell x
unfoldable pub read_from : ℕ → (ℕ → ℕ) → ℕ → ℕ → ℕ → ℕ → List ℕ → Reading
read_from m s σ from zero x [] = done []
read_from m s σ from (suc i) x [] = bad unfinished from []
read_from m s σ from i x (y ∷ w) =
    let r : ℕ = rank_at m s i x y in
    let next : Reading = ahead r (read_from m s σ (from + suc i) 0 0 w) in
    let later : Reading = read_from m s σ from (suc i) (x * (m - s i) + (y - s i)) w in
    let stopped : Reading = cond (ltb r σ) next (bad beyond from []) in
    cond (ltb y (s i)) stopped later

-- the codewords of a row of ranks, one after the other
unfoldable pub write : ℕ → (ℕ → ℕ) → List ℕ → List ℕ
write m s [] = []
write m s (r ∷ rs) = codeword m s r ++ write m s rs
