-- A text under a row of characters.
use Rattle.std.specs.Prelude.{not, List, ℕ}
use Rattle.ground.specs.Paper.Rows.{first_where}
use Rattle.stopper.specs.Paper.Table.{has}

-- the place of the first character that is not in the row, or the text's length
unfoldable pub first_foreign : List ℕ → List ℕ → ℕ
first_foreign l text = first_where (λ b. not (has b l)) text
