-- The room that a text takes.
use Rattle.std.specs.Prelude.{cond, List, [], ◌∷◌, ℕ, suc, ◌-◌, leb}
use Rattle.stopper.specs.Paper.Table.{rank_in, length_of}
use Rattle.stopper.specs.declared.code.Code.{Code}

-- the number of the first character whose codeword does not fit, codewords counted together from the first, or the text's length; `left` is
-- the room that is left
unfoldable pub first_over : Code → List ℕ → ℕ → List ℕ → ℕ
first_over c l left [] = 0
first_over c l left (b ∷ text) =
    let n : ℕ = length_of c (rank_in l b) in
    let later : ℕ = suc (first_over c l (left - n) text) in
    cond (leb n left) later 0
