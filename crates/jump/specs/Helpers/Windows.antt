-- Windows of whole bytes in which a pattern is looked for, at all its alignments in a byte, and the table of jumps.
use Rattle.std.specs.Prelude.{◌≡◌, ◌⊎◌, List, ◌++◌, ℕ, zero, suc, ◌+◌, ◌-◌, ◌*◌, ◌/◌, ◌%◌, ◌^◌, ◌≤◌, ◌<◌, length, drop, get_or}
use Rattle.ground.specs.Helpers.Below.{Below}
use Rattle.symbols.specs.Paper.Symbols.{per, number, byte_at}
use Rattle.jump.specs.declared.windows.Window.{Window}

-- the byte that symbols j, j + 1, … of a row make
abbrev pub byte_from : ℕ → List ℕ → ℕ → ℕ
byte_from k row j = byte_at k (drop j row) 0

-- the number that n symbols of a row make, from symbol j on
abbrev pub number_from : ℕ → List ℕ → ℕ → ℕ → ℕ
number_from k row j n = number (2 ^ k) (λ t. get_or row (j + t) 0) n

-- A window is `wide` bytes. Each alignment of the pattern fills them but for at most `free` symbols before its first; the table has
-- keys of one byte, or of two that are `back` apart, at `places` places of the window. A place and one is to fit a byte.
pub record Fits (k long : ℕ) (v : Window) : Type 0 where
  pub sum : v.places + v.back ≡ v.wide
  pub some : 0 < v.places
  pub near : v.back ≤ 1
  pub few : v.free < per k
  pub filled : v.wide * per k + (per k - 1) ≤ v.free + long
  pub small : v.wide ≤ 255

-- where the table has a byte y, or y and the byte z behind it: 13 bits of a product into which all of theirs go. Any rule would do.
unfoldable pub key_of : (back y z : ℕ) → ℕ
key_of zero y z = y
key_of (suc n) y z = (y + 256 * z) * 2654435761 % 4294967296 / 524288

-- the key at symbol j of a row
abbrev pub key_from : ℕ → ℕ → List ℕ → ℕ → ℕ
key_from k back row j = key_of back (byte_from k row j) (byte_from k row (j + back * per k))

-- The table has, whatever the free symbols are, each key of the symbols below j with at least its place and one; and no entry is over `most`.
pub record Upto (k back free most : ℕ) (symbols t : List ℕ) (j : ℕ) : Type 0 where
  pub long : length t ≡ 8192
  pub seen : (u : List ℕ) → length u ≡ free → Below (2 ^ k) u → (i : ℕ) → i < j → suc (i / per k) ≤ get_or t (key_from k back (u ++ symbols) i) 0
  pub under : (x : ℕ) → get_or t x 0 ≤ most

-- a table that may be gone by: it has the keys at all symbols at which a window's keys stand
abbrev pub Safe : ℕ → Window → List ℕ → List ℕ → Type 0
Safe k v symbols t = Upto k v.back v.free v.places symbols t (v.places * per k)

-- what the table says of the window that ends with byte e
abbrev pub says : (back : ℕ) → List ℕ → List ℕ → ℕ → ℕ
says back t buf e = get_or t (key_of back (get_or buf (e - back) 0) (get_or buf e 0)) 0

-- the first symbol that a window from byte f on is for
abbrev pub first_of : ℕ → ℕ → ℕ → ℕ
first_of k free f = f * per k + free + 1 - per k

-- a row of the window's last byte at each alignment below n, by how many symbols stand before the window
abbrev pub Lasts : ℕ → Window → List ℕ → List ℕ → ℕ → Type 0
Lasts k v symbols last n = (o : ℕ) → o < n → get_or last o 0 ≡ byte_from k symbols ((v.wide - 1) * per k + o - v.free)

-- a table with 1 at the keys of the first n bytes that end in `head`, the byte z being behind them; such bytes are `step` apart
pub record Marks (back z head step : ℕ) (old new : List ℕ) (n : ℕ) : Type 0 where
  pub long : length new ≡ length old
  pub kept : (x : ℕ) → (get_or new x 0 ≡ get_or old x 0) ⊎ (get_or new x 0 ≡ 1)
  pub seen : (i : ℕ) → i < n → get_or new (key_of back (i * step + head) z) 0 ≡ 1

-- windows jumped, each as far as the table says, from the one that ends with byte `from` on
pub data Skipped (back places : ℕ) (t buf : List ℕ) (from : ℕ) : ℕ → Type 0 where
  none : Skipped back places t buf from from
  also : {e : ℕ} → Skipped back places t buf from e → (to : ℕ) → to ≡ e + (places - says back t buf e) → Skipped back places t buf from to
