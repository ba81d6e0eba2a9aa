use Rattle.std.proofs.Common.{◌≡◌, ◌≤◌, ◌<◌, ℕ, Bool, false, List, length, take, drop, get_or}
use Rattle.stopper.specs.Paper.Table.{has, repeats}
use Rattle.stopper.proofs.table.good_characters.Given as goal

-- the characters from place i on are marked, and do not repeat
pub record Met (places : List ℕ) (n : ℕ) (met : List Bool) (i : ℕ) : Type 0 where
  pub long : length places ≡ 256
  pub upto : i ≤ n
  pub few : n ≤ 256
  pub marks : (b : ℕ) → b < 256 → get_or met b false ≡ has b (drop i (take n places))
  pub room : length met ≡ 256
  pub apart : repeats (drop i (take n places)) ≡ false

abbrev pub invariant-loop-i : goal.invariant-loop-i
invariant-loop-i l = Met l.table.places l.n l.met l.i
