-- The definitions at a few values: 27 is 00 01 10 11, 165 is 1010 0101.
use Rattle.std.specs.Prelude.{◌≡◌, [], ◌∷◌}
use Rattle.symbols.specs.Paper.Symbols.{bytes_for, symbols_of, bytes_of}

abbrev pub Worked : Type 0
Worked =
    (symbols_of 2 (27 ∷ 64 ∷ []) ≡ 0 ∷ 1 ∷ 2 ∷ 3 ∷ 1 ∷ 0 ∷ 0 ∷ 0 ∷ [])
    × (symbols_of 4 (165 ∷ []) ≡ 10 ∷ 5 ∷ [])
    × (bytes_of 2 (0 ∷ 1 ∷ 2 ∷ 3 ∷ 1 ∷ []) ≡ 27 ∷ 64 ∷ [])
    × (bytes_of 4 (10 ∷ 5 ∷ 1 ∷ []) ≡ 165 ∷ 16 ∷ [])
    × (bytes_for 2 0 ≡ 0)
    × (bytes_for 2 4 ≡ 1)
    × (bytes_for 4 5 ≡ 3)
