use Rattle.std.proofs.Common.{◌≡◌, true, cond, ℕ, ◌+◌, ◌*◌, ◌≤◌, ◌<◌, List, length, take, drop}
use Rattle.ground.specs.Paper.Rows.{tab}
use Rattle.stopper.specs.Paper.Table.{has, rank_in, word_of, length_of, longest}
use Rattle.stopper.specs.Helpers.Alphabets.{characters_in}
use Rattle.stopper.specs.declared.code.Code.{Code}
use Rattle.store.proofs.words.spell_all.Given as goal

-- the rank of b among the characters from place i on, counted from the first; the symbols that it takes, 0 if it is not there
abbrev pub rank_from : List ℕ → ℕ → ℕ → ℕ
rank_from l i b = i + rank_in (drop i l) b

abbrev pub length_from : Code → List ℕ → ℕ → ℕ → ℕ
length_from c l i b = cond (has b (drop i l)) (length_of c (rank_from l i b)) 0

pub record From (c : Code) (l : List ℕ) (i : ℕ) (lengths words : List ℕ) : Type 0 where
  pub inside : i ≤ length l
  pub few : length l ≤ 256
  pub sizes : lengths ≡ tab (length_from c l i) 0 256
  pub long : length words ≡ 256 * longest
  pub word : (b : ℕ) → b < 256 → has b (drop i l) ≡ true → take (length_of c (rank_from l i b)) (drop (b * longest) words) ≡ word_of c (rank_from l i b)

abbrev pub invariant-loop-i : goal.invariant-loop-i
invariant-loop-i l = From l.alphabet.ranks.good.code (characters_in l.alphabet) l.i l.words.lengths l.words.symbols
