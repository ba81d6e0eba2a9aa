-- The limit is no greater than this, whatever it is: contracts of helpers name it, so that no number of symbols wraps.
use Rattle.std.specs.Prelude.{ℕ}

abbrev pub limit_bound : ℕ
limit_bound = 16777216
