-- Numbers and bytes, written: decimal, hexadecimal, and lines of them, each ended by byte 10.
use Rattle.std.specs.Prelude.{cond, List, [], ◌∷◌, ◌++◌, ℕ, zero, suc, ◌+◌, ◌/◌, ◌%◌, ltb, eqb}

-- a digit: 0 to 9, then a to f
abbrev pub glyph : ℕ → ℕ
glyph d = cond (ltb d 10) (48 + d) (87 + d)

-- a number in decimal, most significant digit first, with no leading zero; 20 digits hold every number of 64 bits
unfoldable pub decimal_in : ℕ → ℕ → List ℕ
decimal_in zero n = []
decimal_in (suc places) n = let more : List ℕ = decimal_in places (n / 10) ++ (glyph (n % 10) ∷ []) in cond (ltb n 10) (glyph n ∷ []) more

unfoldable pub decimal : ℕ → List ℕ
decimal n = decimal_in 20 n

-- a byte in hexadecimal
abbrev pub hex_of : ℕ → List ℕ
hex_of b = glyph (b / 16) ∷ glyph (b % 16) ∷ []

-- bytes in hexadecimal
unfoldable pub hex_row : List ℕ → List ℕ
hex_row [] = []
hex_row (b ∷ bytes) = hex_of b ++ hex_row bytes

-- bytes in hexadecimal, 32 a line; `i` stand on the line already
unfoldable pub hex_from : ℕ → List ℕ → List ℕ
hex_from zero [] = []
hex_from (suc i) [] = 10 ∷ []
hex_from i (b ∷ bytes) =
    let next : List ℕ = 10 ∷ hex_from 0 bytes in
    let same : List ℕ = hex_from (suc i) bytes in
    hex_of b ++ cond (eqb i 31) next same

abbrev pub hex_lines : List ℕ → List ℕ
hex_lines bytes = hex_from 0 bytes

-- each number on a line
unfoldable pub number_lines : List ℕ → List ℕ
number_lines [] = []
number_lines (n ∷ numbers) = decimal n ++ (10 ∷ number_lines numbers)
