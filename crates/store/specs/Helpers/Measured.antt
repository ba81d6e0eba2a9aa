-- A text measured under a table, its codewords laid out by character.
use Rattle.std.specs.Prelude.{◌≡◌, List, ℕ, ◌≤◌, ◌<◌, length, Result, Ok, Err}
use Rattle.stopper.specs.Paper.Table.{characters}
use Rattle.stopper.specs.declared.table.Table.{Table}
use Rattle.texts.specs.Paper.Characters.{first_foreign}
use Rattle.sound.specs.Paper.Roll.{symbols_for}
use Rattle.store.specs.Paper.Fitting.{first_over}
use Rattle.store.specs.Helpers.Words.{WordsLaid, row_of}
use Rattle.ground.specs.declared.refusal.Refusal.{Refusal}
use Rattle.ground.specs.declared.refusal.Refusal.TheVariants.{NotInTable, NoRoom}
use Rattle.store.specs.declared.measure.Misfit.{Misfit}
use Rattle.store.specs.declared.measure.Misfit.TheVariants.{Foreign, Over}

-- a text of the table, with so many symbols, and they are found among the words laid out
pub record Spelled (t : Table) (lengths words text : List ℕ) (taken : ℕ) : Type 0 where
  pub known : first_foreign (characters t) text ≡ length text
  pub count : taken ≡ length (symbols_for t text)
  pub laid : WordsLaid t.code.k lengths words
  pub row : row_of lengths words text ≡ symbols_for t text

unfoldable pub Measured : Table → ℕ → List ℕ → List ℕ → List ℕ → Result ℕ Misfit → Type 0
Measured t room text lengths words (Ok n) = Spelled t lengths words text n × (n ≤ room)
Measured t room text lengths words (Err (Foreign v)) = (v ≡ first_foreign (characters t) text) × (v < length text)
Measured t room text lengths words (Err (Over v)) =
    (first_foreign (characters t) text ≡ length text) × (v ≡ first_over t.code (characters t) room text) × (v < length text)

-- the refusal that a misfit is
abbrev pub refused_for : Misfit → Refusal → Type 0
refused_for (Foreign v) e = e ≡ NotInTable v
refused_for (Over v) e = e ≡ NoRoom v
