-- What helpers answer: the stopper's place, a character's rank, the ranks of all byte values, a codeword's rank.
use Rattle.std.specs.Prelude.{cond, List, ℕ, ◌-◌, ltb, Option, Some, None}
use Rattle.ground.specs.Paper.Rows.{tab}
use Rattle.stopper.specs.Paper.Code.{place, shorter, rank_of}
use Rattle.stopper.specs.Paper.Table.{has, rank_in, base, stoppers}
use Rattle.stopper.specs.Paper.Operations.{is_one}
use Rattle.stopper.specs.declared.code.Code.{Code}
use Rattle.stopper.specs.declared.code.Place.{Place}

-- the place of its stopper, and its rank less the number of shorter codewords
unfoldable pub place_of : Code → ℕ → Place
place_of c r = let i : ℕ = place (base c) (stoppers c) r in record { at = i; q = r - shorter (base c) (stoppers c) i }

-- the rank of a character, if it is in the row
unfoldable pub ranked_in : List ℕ → ℕ → Option ℕ
ranked_in l b = cond (has b l) (Some (rank_in l b)) None

-- the ranks of all byte values
unfoldable pub ranks_of : List ℕ → List ℕ
ranks_of l = tab (rank_in l) 0 256

-- its rank, if it is one
unfoldable pub ranked_as : Code → ℕ → List ℕ → Option ℕ
ranked_as c σ w = cond (is_one c σ w) (Some (rank_of (base c) (stoppers c) w)) None

unfoldable pub if_last : ℕ → ℕ → ℕ → Option ℕ
if_last rank read long = cond (ltb read long) None (Some rank)
