-- A sound roll whose table's row of places is as long as its type says.
use Rattle.std.specs.Prelude.{◌≡◌, List, ℕ, length}
use Rattle.sound.specs.Paper.Roll.{Sound}
use Rattle.sound.specs.declared.records.Roll.{Roll}

pub record Held (r : Roll) (buf : List ℕ) : Type 0 where
  pub sound : Sound r buf
  pub places : length r.table.places ≡ 256
