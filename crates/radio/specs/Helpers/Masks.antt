-- The places of a pattern where a character stands, a bit for each.
use Rattle.std.specs.Prelude.{cond, List, [], ◌∷◌, ℕ, ◌+◌, ◌*◌, eqb}
use Rattle.ground.specs.Paper.Rows.{tab}

-- bit j is 1 where character j of the pattern is b
unfoldable pub mask_of : List ℕ → ℕ → ℕ
mask_of [] b = 0
mask_of (x ∷ pattern) b = cond (eqb x b) 1 0 + 2 * mask_of pattern b

-- for all byte values
abbrev pub masks_of : List ℕ → List ℕ
masks_of pattern = tab (mask_of pattern) 0 256
