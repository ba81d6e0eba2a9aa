-- Hits, over texts alone: the numbers of the places where the pattern stands, overlapping ones too.
use Rattle.std.specs.Prelude.{Bool, true, false, cond, not, ◌&&◌, List, [], ◌∷◌, ◌++◌, ℕ, suc, eqb, leb, length, take, drop}
use Rattle.stopper.specs.Paper.Table.{has}

-- whether the pattern stands at the start of the text (an empty one would stand everywhere; refusal 11 comes before)
unfoldable pub stands : List ℕ → List ℕ → Bool
stands [] text = true
stands (b ∷ pattern) [] = false
stands (b ∷ pattern) (x ∷ text) = eqb b x && stands pattern text

-- the places from i on, i being the number of the text's first character here
unfoldable pub hits_from : List ℕ → ℕ → List ℕ → List ℕ
hits_from pattern i [] = []
hits_from pattern i (x ∷ text) =
    let later : List ℕ = hits_from pattern (suc i) text in
    cond (stands pattern (x ∷ text)) (i ∷ later) later

unfoldable pub hits : List ℕ → List ℕ → List ℕ
hits pattern text = hits_from pattern 0 text

-- a good pattern has 1 to 64 characters, and byte 10 is none of them
abbrev pub most_pattern : ℕ
most_pattern = 64

unfoldable pub good_pattern : List ℕ → Bool
good_pattern pattern = leb 1 (length pattern) && (leb (length pattern) most_pattern && not (has 10 pattern))

-- the first of a list, as many as the slice holds; later entries of the slice unchanged
abbrev pub listed : List ℕ → List ℕ → List ℕ
listed found slice = take (length slice) found ++ drop (length found) slice
