-- Characters numbered by the codewords that end before them.
use Rattle.std.specs.Prelude.{◌≡◌, List, ℕ, ◌*◌, ◌≤◌, take}
use Rattle.stopper.specs.Paper.Table.{stoppers}
use Rattle.stopper.specs.declared.code.Code.{Code}
use Rattle.symbols.specs.Paper.Symbols.{per, symbols_of}
use Rattle.sound.specs.Helpers.Ends.{stops}

-- how many codewords end before symbol a: the number of the character that starts there
abbrev pub number_at : Code → List ℕ → ℕ → ℕ
number_at c buf a = stops (stoppers c) 0 (take a (symbols_of c.k buf))

-- so many codewords end in the first `next` bytes, which lie before symbol a
pub record Counts (c : Code) (buf : List ℕ) (a next ended : ℕ) : Type 0 where
  pub number : ended ≡ number_at c buf (next * per c.k)
  pub before : next * per c.k ≤ a
