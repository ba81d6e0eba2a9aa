-- Where codewords end, by their stoppers alone. `st i` is the stopper count of place i of a codeword, and i the place of the next symbol.
use Rattle.std.specs.Prelude.{◌≡◌, cond, List, [], ◌∷◌, ℕ, zero, suc, ◌+◌, ◌/◌, ◌%◌, ◌^◌, ◌≤◌, ◌<◌, T, ltb, drop}
use Rattle.ground.specs.Paper.Rows.{tab}
use Rattle.stopper.specs.Paper.Table.{stoppers, good_code}
use Rattle.stopper.specs.declared.code.Code.{Code}
use Rattle.symbols.specs.Paper.Symbols.{symbols_of}

-- how many codewords end among some symbols
unfoldable pub stops : (ℕ → ℕ) → ℕ → List ℕ → ℕ
stops st i [] = 0
stops st i (y ∷ ys) =
    let next : ℕ = suc (stops st 0 ys) in
    let later : ℕ = stops st (suc i) ys in
    cond (ltb y (st i)) next later

-- how many symbols there are up to the end of the n-th
unfoldable pub end_of : (ℕ → ℕ) → ℕ → ℕ → List ℕ → ℕ
end_of st zero i ys = 0
end_of st (suc n) i [] = 0
end_of st (suc n) i (y ∷ ys) =
    let next : ℕ = suc (end_of st n 0 ys) in
    let later : ℕ = suc (end_of st (suc n) (suc i) ys) in
    cond (ltb y (st i)) next later

-- the symbols of a buffer from symbol p on
abbrev pub symbols_from : Code → List ℕ → ℕ → List ℕ
symbols_from c buf p = drop p (symbols_of c.k buf)

-- the symbol behind the n-th codeword from there
unfoldable pub end_from : Code → List ℕ → ℕ → ℕ → ℕ
end_from c buf p n = p + end_of (stoppers c) n 0 (symbols_from c buf p)

-- n codewords end behind symbol p of a buffer, which is where one starts
pub record Ending (c : Code) (buf : List ℕ) (p n : ℕ) : Type 0 where
  pub good : T (good_code c)
  pub enough : n ≤ stops (stoppers c) 0 (symbols_from c buf p)
  pub counts : end_from c buf p n < 2 ^ 64

-- so many codewords from symbol p on end where those that are left do from symbol q on
pub record Passing (c : Code) (buf : List ℕ) (p count q left : ℕ) : Type 0 where
  pub good : T (good_code c)
  pub enough : left ≤ stops (stoppers c) 0 (symbols_from c buf q)
  pub ends : end_from c buf p count ≡ q + end_of (stoppers c) left 0 (symbols_from c buf q)
  pub counts : end_from c buf p count < 2 ^ 64

-- how many of the four symbols of byte b are below s, at 256 * (s - 1) + b, for s of 1, 2 and 3
unfoldable pub stops_of_two : List ℕ
stops_of_two = tab (λ i. stops (λ _. i / 256 + 1) 0 (symbols_of 2 (i % 256 ∷ []))) 0 768

-- how many codewords end in a byte, for each byte value
unfoldable pub stops_by_byte : Code → List ℕ
stops_by_byte c = tab (λ b. stops (stoppers c) 0 (symbols_of c.k (b ∷ []))) 0 256
