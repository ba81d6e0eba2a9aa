-- Base symbols of k bits in bytes: symbol 0 fills the highest bits of byte 0, and so on down; unused symbols of the last byte
-- are 0; the room of a buffer is the smaller of the limit and its bytes times 8/k.
use Rattle.std.specs.Prelude.{cond, List, ℕ, zero, suc, ◌+◌, ◌-◌, ◌*◌, ◌/◌, ◌%◌, ◌^◌, leb, length, get_or}
use Rattle.ground.specs.Paper.Limit.{limit}
use Rattle.ground.specs.Paper.Rows.{tab}

-- symbols in a byte
unfoldable pub per : ℕ → ℕ
per k = 8 / k

-- bytes that h symbols take
unfoldable pub bytes_for : ℕ → ℕ → ℕ
bytes_for k h = (h + (per k - 1)) / per k

-- symbols that a buffer of so many bytes holds
unfoldable pub room : ℕ → ℕ → ℕ
room k bytes = cond (leb limit (bytes * per k)) limit (bytes * per k)

-- the bits of a byte below its symbol t
unfoldable pub shift : ℕ → ℕ → ℕ
shift k t = 8 - k * suc t

-- symbol i of a buffer, 0 past its end
unfoldable pub symbol_at : ℕ → List ℕ → ℕ → ℕ
symbol_at k bytes i = get_or bytes (i / per k) 0 / 2 ^ shift k (i % per k) % 2 ^ k

-- the row of all symbols of a buffer
unfoldable pub symbols_of : ℕ → List ℕ → List ℕ
symbols_of k bytes = tab (symbol_at k bytes) 0 (length bytes * per k)

-- the number whose n digits in base m are f 0, f 1, .., the most significant first
unfoldable pub number : ℕ → (ℕ → ℕ) → ℕ → ℕ
number m f zero = 0
number m f (suc n) = number m f n * m + f n

-- byte j of a row, 0 past its end: its symbols j * per k, j * per k + 1, ..
unfoldable pub byte_at : ℕ → List ℕ → ℕ → ℕ
byte_at k row j = number (2 ^ k) (λ t. get_or row (j * per k + t) 0) (per k)

-- a row packed
unfoldable pub bytes_of : ℕ → List ℕ → List ℕ
bytes_of k row = tab (byte_at k row) 0 (bytes_for k (length row))
