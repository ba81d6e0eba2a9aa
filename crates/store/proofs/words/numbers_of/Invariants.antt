use Rattle.std.proofs.Common.{ℕ, ◌<◌, List, get_or}
use Rattle.symbols.specs.Helpers.Gathered.{Joins}
use Rattle.store.specs.Helpers.Words.{word_at}
use Rattle.store.proofs.words.numbers_of.Given as goal

-- the codewords of the characters below b are joined
pub record Joined (k : ℕ) (lengths words numbers : List ℕ) (b : ℕ) : Type 0 where
  pub joins : (x : ℕ) → x < b → get_or lengths x 0 < 9 → Joins k (word_at lengths words x) (get_or numbers x 0)

abbrev pub invariant-loop-b : goal.invariant-loop-b
invariant-loop-b l = Joined l.k l.words.lengths l.words.symbols l.number-items l.b
