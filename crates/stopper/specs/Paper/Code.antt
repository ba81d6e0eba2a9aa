-- The code: base symbols, codewords, ranks.
--
-- `m` is the number of base symbols, 2 ^ k. `s i` is the stopper count of place i of a codeword (the base: the same at every place),
-- and `m - s i` its continuer count. Places count from 0. A symbol below `s i` at place i is a stopper, any other below m a continuer.
use Rattle.std.specs.Prelude.{Bool, false, cond, ◌&&◌, List, [], ◌∷◌, ℕ, zero, suc, ◌+◌, ◌-◌, ◌*◌, ◌/◌, ◌%◌, ◌≤◌, ◌<◌, ltb, leb}

-- every place has a stopper and a continuer: what a good code (`good_code`) gives, and all that the laws of the code ask
pub record Good (m : ℕ) (s : ℕ → ℕ) : Type 0 where
  pub low : (i : ℕ) → 0 < s i
  pub high : (i : ℕ) → s i < m

-- zero or more continuers and then one stopper, from place i on
pub data IsCodeword (m : ℕ) (s : ℕ → ℕ) : ℕ → List ℕ → Type 0 where
  stop : {i y : ℕ} → y < s i → IsCodeword m s i (y ∷ [])
  more : {i y : ℕ} {w : List ℕ} → s i ≤ y → y < m → IsCodeword m s (suc i) w → IsCodeword m s i (y ∷ w)

-- how many rows of i continuers there are: the product of the continuer counts of places 0 .. i-1
unfoldable pub opens : ℕ → (ℕ → ℕ) → ℕ → ℕ
opens m s zero = 1
opens m s (suc i) = opens m s i * (m - s i)

-- how many codewords have at most i symbols; `opens m s i * s i` have one more
unfoldable pub shorter : ℕ → (ℕ → ℕ) → ℕ → ℕ
shorter m s zero = 0
shorter m s (suc i) = shorter m s i + opens m s i * s i

-- codeword r has its stopper at place i
pub record Within (m : ℕ) (s : ℕ → ℕ) (r i : ℕ) : Type 0 where
  pub above : shorter m s i ≤ r
  pub below : r < shorter m s (suc i)

-- the first i from `from` on that passes the test, looking at `many` at most
unfoldable pub first : (ℕ → Bool) → ℕ → ℕ → ℕ
first p zero from = from
first p (suc many) from = let later : ℕ = first p many (suc from) in cond (p from) from later

-- the stopper's place in codeword r: its length less 1. Each length has a codeword at least, so r places are enough to look at
unfoldable pub place : ℕ → (ℕ → ℕ) → ℕ → ℕ
place m s r = first (λ i. ltb r (shorter m s (suc i))) r 0

-- i continuers, the digits of x, most significant first, each plus its place's stopper count; and then w
unfoldable pub spell : ℕ → (ℕ → ℕ) → ℕ → ℕ → List ℕ → List ℕ
spell m s zero x w = w
spell m s (suc i) x w = spell m s i (x / (m - s i)) ((s i + x % (m - s i)) ∷ w)

-- codeword r: with q the rank less the number of shorter codewords, the digits of q div s and the stopper q mod s
unfoldable pub codeword : ℕ → (ℕ → ℕ) → ℕ → List ℕ
codeword m s r =
    let i : ℕ = place m s r in
    let q : ℕ = r - shorter m s i in
    spell m s i (q / s i) ((q % s i) ∷ [])

-- the rank of a codeword whose stopper y stands at place i, after continuers that spell x
unfoldable pub rank_at : ℕ → (ℕ → ℕ) → ℕ → ℕ → ℕ → ℕ
rank_at m s i x y = shorter m s i + (x * s i + y)

-- the rank of a codeword, read from place i on, after continuers that spell x
unfoldable pub rank_from : ℕ → (ℕ → ℕ) → ℕ → ℕ → List ℕ → ℕ
rank_from m s i x [] = 0
rank_from m s i x (y ∷ w) =
    let later : ℕ = rank_from m s (suc i) (x * (m - s i) + (y - s i)) w in
    cond (ltb y (s i)) (rank_at m s i x y) later

-- of codewords alone: what follows a stopper is not looked at
unfoldable pub rank_of : ℕ → (ℕ → ℕ) → List ℕ → ℕ
rank_of m s w = rank_from m s 0 0 w

-- the test of a codeword, from place i on
unfoldable pub is_word : ℕ → (ℕ → ℕ) → ℕ → List ℕ → Bool
is_word m s i [] = false
is_word m s i (y ∷ []) = ltb y (s i)
is_word m s i (y ∷ z ∷ w) = leb (s i) y && ltb y m && is_word m s (suc i) (z ∷ w)
