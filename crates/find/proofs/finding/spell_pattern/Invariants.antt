use Rattle.std.proofs.Common.{◌≡◌, ℕ, ◌+◌, ◌*◌, ◌≤◌, List, length, take, drop}
use Rattle.stopper.specs.Paper.Table.{longest}
use Rattle.stopper.specs.declared.code.Code.{Code}
use Rattle.stopper.specs.Helpers.Alphabets.{characters_in}
use Rattle.texts.specs.Paper.Characters.{first_foreign}
use Rattle.sound.specs.Paper.Roll.{text_row}
use Rattle.find.proofs.finding.spell_pattern.Given as goal

-- the characters before character i are in the row, and their symbols are the first p
pub record Spelling (c : Code) (l pattern symbols : List ℕ) (p i : ℕ) : Type 0 where
  pub few : p ≤ i * longest
  pub foreign : first_foreign l pattern ≡ i + first_foreign l (drop i pattern)
  pub long : p ≡ length (text_row c l (take i pattern))
  pub row : take p symbols ≡ text_row c l (take i pattern)

abbrev pub invariant-loop-b : goal.invariant-loop-b
invariant-loop-b l = Spelling l.alphabet.ranks.good.code (characters_in l.alphabet) l.pattern l.symbols l.p l.b-index
