-- Which beginnings of a pattern end at the last character of a text, in one number: bit j is 1 where the beginning of j + 1 characters does, for all beginnings but the
-- whole pattern.
use Rattle.std.specs.Prelude.{Bool, cond, List, [], ◌∷◌, ℕ, suc, ◌+◌, ◌-◌, ◌*◌, ◌/◌, ◌%◌, ◌^◌, leb, eqb, length}

-- one character more, the whole pattern among them: the beginning of one character ends there if it is that character; one that is longer if it is its last character and
-- the beginning without it ended just before. `before` says whether that one did: for the first character it is the empty one, which ends everywhere
unfoldable pub grown : ℕ → ℕ → List ℕ → ℕ → ℕ
grown before bits [] character = 0
grown before bits (x ∷ pattern) character = cond (eqb x character) before 0 + 2 * grown (bits % 2) (bits / 2) pattern character

abbrev pub advanced : List ℕ → ℕ → ℕ → ℕ
advanced pattern bits character = grown 1 bits pattern character

-- the bit of the whole pattern
abbrev pub whole_bit : List ℕ → ℕ
whole_bit pattern = 2 ^ (length pattern - 1)

-- whether the whole pattern ends there, and the other beginnings that do
abbrev pub ends_there : List ℕ → ℕ → ℕ → Bool
ends_there pattern bits character = leb (whole_bit pattern) (advanced pattern bits character)

abbrev pub matches : List ℕ → ℕ → ℕ → ℕ
matches pattern bits character = advanced pattern bits character % whole_bit pattern

-- a text behind `count` characters: the beginnings that end at its last character, and the hits whose last character is among its own
unfoldable pub matches_all : List ℕ → ℕ → List ℕ → ℕ
matches_all pattern bits [] = bits
matches_all pattern bits (x ∷ text) = matches_all pattern (matches pattern bits x) text

unfoldable pub named : List ℕ → ℕ → ℕ → List ℕ → List ℕ
named pattern bits count [] = []
named pattern bits count (x ∷ text) =
    let later : List ℕ = named pattern (matches pattern bits x) (suc count) text in
    cond (ends_there pattern bits x) ((suc count - length pattern) ∷ later) later
