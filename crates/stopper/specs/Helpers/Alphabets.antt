-- What an alphabet has.
use Rattle.std.specs.Prelude.{List, ℕ, take}
use Rattle.stopper.specs.declared.table.Alphabet.{Alphabet}

-- its characters, in rank order
abbrev pub characters_in : Alphabet → List ℕ
characters_in a = take a.ranks.sigma a.places.now
