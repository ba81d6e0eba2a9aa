-- A stretch of symbols read at once: whole codewords, by one number for the continuers of the open one, or a symbol.
use Rattle.std.specs.Prelude.{◌≡◌, ◌⊎◌, Bool, true, false, cond, ◌&&◌, List, [], map, ℕ, ◌+◌, ◌-◌, ◌*◌, ◌^◌, ◌≤◌, ◌<◌, ltb, leb, length, take, drop, get_or, Option, Result, IfSome, IfNone, IfOk, IfErr, OnSome}
use Rattle.ground.specs.Paper.Runs.{run}
use Rattle.stopper.specs.Paper.Table.{base, stoppers}
use Rattle.stopper.specs.Helpers.State.{Small, opened}
use Rattle.stopper.specs.declared.code.Code.{Code}
use Rattle.stopper.specs.declared.reading.Reader.{Reader}
use Rattle.symbols.specs.Paper.Symbols.{per, shift, symbols_of}
use Rattle.symbols.specs.Helpers.Bits.{cut_out}
use Rattle.judge.specs.Paper.Judge.{flag, progress, hears_all, ranks_heard}
use Rattle.judge.specs.declared.records.Progress.{Progress}
use Rattle.stretches.specs.declared.codewords.Role.{Role}
use Rattle.stretches.specs.declared.codewords.Passed.{Passed}
use Rattle.stretches.specs.declared.codewords.Stretch.{Stretch}

-- ---- a roll that comes in

-- the characters whose codewords end in a row of symbols
abbrev pub characters_in : Code → ℕ → List ℕ → ℕ → Progress → List ℕ → List ℕ
characters_in c σ places h p w = map (λ rank. get_or places rank 0) (ranks_heard c σ h p w)

-- a codeword that is open at symbol h is bad
abbrev pub bad_at : ℕ → ℕ → ℕ → ℕ
bad_at h read first = flag (leb h read && ltb first read)

-- ---- what a symbol y does, with s stoppers and c continuers

abbrev pub times_of : ℕ → ℕ → ℕ → ℕ
times_of s c y = cond (ltb y s) 0 c

abbrev pub plus_of : ℕ → ℕ → ℕ
plus_of s y = cond (ltb y s) 0 (y - s + 1)

abbrev pub low_of : ℕ → ℕ → ℕ
low_of s y = cond (ltb y s) y 0

abbrev pub stops_of : ℕ → ℕ → ℕ
stops_of s y = cond (ltb y s) 1 0

abbrev pub role_of : ℕ → ℕ → ℕ → Role
role_of s c y = record { times = times_of s c y; plus = plus_of s y; low = low_of s y; stops = stops_of s y }

-- all symbols' roles
pub record RolesOf (s c : ℕ) (roles : List Role) : Type 0 where
  pub all : length roles ≡ 16
  pub each : (y : ℕ) (d : Role) → y < 16 → get_or roles y d ≡ role_of s c y

-- ---- the open codeword in one number

-- the stoppers and the continuers at every place
abbrev pub few : Code → ℕ
few c = stoppers c 0

abbrev pub many : Code → ℕ
many c = base c - few c

-- the numbers of a reading state by the one number; past σ the one number says so too
pub record OpenBy (c : Code) (r : Reader) (x : ℕ) : Type 0 where
  pub going : r.past ≡ false
  pub rank : r.shorter + r.value * few c ≡ x * few c
  pub row : r.shorter + r.rows * few c ≡ r.shorter * many c + few c

abbrev pub ByNumber : Code → ℕ → Reader → ℕ → Type 0
ByNumber c σ r x = OpenBy c r x ⊎ ((r.past ≡ true) × (σ ≤ x * few c))

-- symbols heard behind the progress q, a codeword beginning with the first: n characters, and the number x of the open codeword
pub record Passing (c : Code) (σ : ℕ) (places : List ℕ) (h : ℕ) (q : Progress) (heard text : List ℕ) (x n : ℕ) : Type 0 where
  pub r : Reader
  pub first : ℕ
  pub number : ByNumber c σ r x
  pub started : first ≤ q.read + length heard
  pub closed : x ≡ 0 → 0 < length heard → (r ≡ opened) × (first ≡ q.read + length heard)
  pub progress : hears_all c σ h q heard ≡ progress (q.read + length heard) (q.count + n) first r (bad_at h (q.read + length heard) first) q.stained
  pub told : characters_in c σ places h q heard ≡ take n text

-- wherever in a roll they stand
abbrev pub PassingAny : Code → ℕ → List ℕ → List ℕ → List ℕ → ℕ → ℕ → Type 0
PassingAny c σ places heard text x n =
    (h read count first stained : ℕ) → first ≤ read → read < h → read + length heard ≤ h → Passing c σ places h (progress read count first opened 0 stained) heard text x n

-- symbols w from the reading state r on: they end these characters' codewords and leave the state `to`; whether one ends with the last of them
pub record Through (c : Code) (σ : ℕ) (places : List ℕ) (r : Reader) (w text : List ℕ) (to : Reader) (ended : Bool) : Type 0 where
  pub few : length text ≤ length w
  pub none : ended ≡ false → length text ≡ 0
  pub going : to.past ≡ false
  pub small : Small to
  pub heard : (h read count first stained : ℕ) → first ≤ read → read < h → read + length w ≤ h → let start : ℕ = cond ended (read + length w) first in
      hears_all c σ h (progress read count first r 0 stained) w ≡ progress (read + length w) (count + length text) start to (bad_at h (read + length w) start) stained
  pub told : (h read count first stained : ℕ) → first ≤ read → read < h → read + length w ≤ h → characters_in c σ places h (progress read count first r 0 stained) w ≡ text

-- no codeword ends well from here on
abbrev pub Silent : Code → ℕ → Reader → List ℕ → Type 0
Silent c σ r w = (h read count first stained : ℕ) → read < h → ranks_heard c σ h (progress read count first r 0 stained) w ≡ []

-- ---- what the functions ask and answer

-- the symbols of byte b stand in a row from place `at` on; those before it stay
pub record ByteLaid (k b at : ℕ) (row after : List ℕ) : Type 0 where
  pub same : length after ≡ length row
  pub before : (i : ℕ) → i < at → get_or after i 0 ≡ get_or row i 0
  pub symbols : (t : ℕ) → t < per k → get_or after (at + t) 0 ≡ cut_out k (shift k t) b

-- the first n places of a row hold the symbols of the bytes from byte `first` on
pub record LaidOut (k : ℕ) (piece : List ℕ) (first n : ℕ) (row : List ℕ) : Type 0 where
  pub long : length row ≡ 256
  pub few : n ≤ 256
  pub inside : first * per k + n ≤ length (symbols_of k piece)
  pub symbols : (i : ℕ) → i < n → get_or row i 0 ≡ get_or (symbols_of k piece) (first * per k + i) 0

pub record Passes (row : List ℕ) (from to : ℕ) (text : List ℕ) : Type 0 where
  pub order : from < to
  pub near : to ≤ 256
  pub inside : to ≤ length row
  pub small : (i : ℕ) → i < to → get_or row i 0 < 16
  pub long : length text ≡ 256

-- so many characters; or the place before which less can be tried
pub record PassedAll (c : Code) (σ : ℕ) (places row : List ℕ) (from to : ℕ) (r : Result ℕ ℕ) (text : List ℕ) : Type 0 where
  pub long : length text ≡ 256
  pub short : IfErr r (λ before. before < to)
  pub few : IfOk r (λ n. n ≤ 256)
  pub whole : IfOk r (λ n. Through c σ places opened (run row from to) (take n text) opened true)

pub record PassedSome (c : Code) (σ : ℕ) (places : List ℕ) (state : Reader) (piece : List ℕ) (from upto : ℕ) (r : Option Passed) (text : List ℕ) : Type 0 where
  pub long : length text ≡ 256
  pub begins : OnSome r (state ≡ opened)
  pub on : IfSome r (λ p. from < p.to)
  pub within : IfSome r (λ p. p.to ≤ upto)
  pub few : IfSome r (λ p. p.characters ≤ 256)
  pub whole : IfSome r (λ p. Through c σ places opened (run (symbols_of c.k piece) from p.to) (take p.characters text) opened true)

pub record Reads (k : ℕ) (r : Reader) (piece : List ℕ) (at upto : ℕ) (text : List ℕ) : Type 0 where
  pub small : Small r
  pub order : at < upto
  pub inside : upto ≤ length (symbols_of k piece)
  pub fits : upto < 2 ^ 32
  pub long : length text ≡ 256

-- a stretch; none where no codeword ends well from here on
pub record ReadStretch (c : Code) (σ : ℕ) (places : List ℕ) (r : Reader) (piece : List ℕ) (at upto : ℕ) (x : Option Stretch) (text : List ℕ) : Type 0 where
  pub long : length text ≡ 256
  pub on : IfSome x (λ s. at < s.to)
  pub within : IfSome x (λ s. s.to ≤ upto)
  pub few : IfSome x (λ s. s.characters ≤ 256)
  pub through : IfSome x (λ s. Through c σ places r (run (symbols_of c.k piece) at s.to) (take s.characters text) s.reader s.ended)
  pub silent : IfNone x (Silent c σ r (drop at (symbols_of c.k piece)))
