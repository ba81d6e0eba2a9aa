use Rattle.std.proofs.Common.{◌≡◌, ℕ, ◌+◌, ◌-◌, ◌≤◌, List, drop}
use Rattle.store.specs.Helpers.Words.{upto_of, taken_of}
use Rattle.store.proofs.words.fitting.Given as goal

-- the characters below i fit, and take so many symbols
pub record Passed (lengths : List ℕ) (room : ℕ) (text : List ℕ) (i taken : ℕ) : Type 0 where
  pub fits : taken ≤ room
  pub upto : i + upto_of lengths (room - taken) (drop i text) ≡ upto_of lengths room text
  pub takes : taken + taken_of lengths (room - taken) (drop i text) ≡ taken_of lengths room text

abbrev pub invariant-loop-i : goal.invariant-loop-i
invariant-loop-i l = Passed l.words.lengths l.room l.text l.i l.taken
