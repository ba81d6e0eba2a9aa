-- Symbols on their way into a buffer: whole bytes are stored, and the symbols behind them wait as the digits of a number.
use Rattle.std.specs.Prelude.{◌≡◌, List, [], ◌∷◌, ◌++◌, ℕ, zero, suc, ◌+◌, ◌*◌, ◌/◌, ◌%◌, ◌^◌, ◌≤◌, ◌<◌, length, take, drop}
use Rattle.symbols.specs.Paper.Symbols.{per, symbols_of}
use Rattle.symbols.specs.declared.gather.Gather.{Gather}

-- the last n digits of a number in base m, the most significant first
unfoldable pub digits : ℕ → ℕ → ℕ → List ℕ
digits m zero v = []
digits m (suc n) v = digits m n (v / m) ++ (v % m ∷ [])

-- n symbols of k bits as one number
pub record Joins (k : ℕ) (row : List ℕ) (v : ℕ) : Type 0 where
  pub small : v < 2 ^ (k * length row)
  pub symbols : digits (2 ^ k) (length row) v ≡ row

-- all symbols up to the last that waits: those of the bytes before `next`, and the waiting ones
unfoldable pub gathered : ℕ → Gather → List ℕ → List ℕ
gathered k g buf = symbols_of k (take g.next buf) ++ digits (2 ^ k) g.count g.bits

-- how many they are
abbrev pub up_to : ℕ → Gather → ℕ
up_to k g = g.next * per k + g.count

-- fewer wait than four bytes hold; `more` behind them are within the buffer
pub record Waiting (k : ℕ) (g : Gather) (buf : List ℕ) (more : ℕ) : Type 0 where
  pub few : g.count < 4 * per k
  pub small : g.bits < 2 ^ (k * g.count)
  pub within : up_to k g + more ≤ length (symbols_of k buf)
  pub counts : up_to k g + more < 2 ^ 64

-- what adding a row does: it stands behind those before it, and bytes not yet stored are as they were
pub record Added (k : ℕ) (g : Gather) (before row : List ℕ) (r : Gather) (after : List ℕ) : Type 0 where
  pub few : r.count < 4 * per k
  pub small : r.bits < 2 ^ (k * r.count)
  pub onward : g.next ≤ r.next
  pub upto : up_to k r ≡ up_to k g + length row
  pub symbols : gathered k r after ≡ gathered k g before ++ row
  pub rest : drop r.next after ≡ drop r.next before
