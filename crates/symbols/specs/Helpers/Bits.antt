-- A symbol of k bits in a byte, above its `low` lowest bits.
use Rattle.std.specs.Prelude.{ℕ, ◌+◌, ◌-◌, ◌*◌, ◌/◌, ◌%◌, ◌^◌}

-- that symbol
abbrev pub cut_out : (k low b : ℕ) → ℕ
cut_out k low b = b / 2 ^ low % 2 ^ k

-- the byte with another symbol there
abbrev pub laid_in : (k low y b : ℕ) → ℕ
laid_in k low y b = (b / 2 ^ (k + low) * 2 ^ k + y) * 2 ^ low + b % 2 ^ low

-- a byte of the bits of two, the first of which leaves its `skip` highest out
abbrev pub joined : (skip first second : ℕ) → ℕ
joined skip first second = first % 2 ^ (8 - skip) * 2 ^ skip + second / 2 ^ (8 - skip)
