-- Hits in the order of their symbols: those that start below a symbol.
use Rattle.std.specs.Prelude.{◌≡◌, Bool, List, ℕ, zero, suc, T, drop}
use Rattle.stopper.specs.Paper.Table.{stoppers}
use Rattle.stopper.specs.declared.code.Code.{Code}
use Rattle.symbols.specs.Paper.Symbols.{symbols_of}
use Rattle.texts.specs.Paper.Hits.{stands, listed}
use Rattle.texts.specs.Helpers.Passing.{passing}
use Rattle.reading.specs.Paper.Reading.{row_upto}
use Rattle.find.specs.Helpers.Finding.{stands_behind}
use Rattle.find.specs.Laws.Hits.{AfterStopper}
use Rattle.jump.specs.Helpers.Counting.{number_at}

-- whether symbols stand at symbol a of the first h of a buffer
abbrev pub occurs : Code → ℕ → List ℕ → List ℕ → ℕ → Bool
occurs c h buf symbols a = stands symbols (drop a (row_upto c h buf))

-- symbol a starts a hit: the symbols stand there, and it is the first or stands after a stopper
abbrev pub Hit : Code → ℕ → List ℕ → List ℕ → ℕ → Type 0
Hit c h buf symbols a = T (occurs c h buf symbols a) × AfterStopper (stoppers c 0) (symbols_of c.k buf) a

-- how many codewords start below symbol a
unfoldable pub starts_below : Code → List ℕ → ℕ → ℕ
starts_below c buf zero = 0
starts_below c buf (suc a) = suc (number_at c buf a)

-- the hits among them
unfoldable pub hits_below : Code → ℕ → List ℕ → List ℕ → ℕ → List ℕ
hits_below c h buf symbols a = passing (stands_behind c buf h symbols) (starts_below c buf a)

-- a slice that listed some hits lists more, whatever it held at first
abbrev pub Grows : (hits hits' old new : List ℕ) → Type 0
Grows hits hits' old new = (first : List ℕ) → old ≡ listed hits first → new ≡ listed hits' first
