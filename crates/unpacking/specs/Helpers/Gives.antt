-- The characters that symbols give, and a row's characters written as far as it was read.
use Rattle.std.specs.Prelude.{◌≡◌, false, List, [], ◌∷◌, map, ℕ, ◌+◌, ◌-◌, ◌*◌, ◌/◌, ◌%◌, ◌≤◌, ◌<◌, length, take, drop, get_or}
use Rattle.stopper.specs.declared.code.Code.{Code}
use Rattle.symbols.specs.Paper.Symbols.{per, symbols_of}
use Rattle.reading.specs.Paper.Reading.{row_upto, row_reading, is_bad, ranks_read}
use Rattle.reading.specs.Helpers.Codewords.{Reads}
use Rattle.moves.specs.Helpers.States.{ranks_ended}
use Rattle.moves.specs.Helpers.Moves.{bound_in, MoveIn, Here}
use Rattle.unpacking.specs.declared.giving.Gives.{Gives}
use Rattle.moves.specs.declared.passing.Way.{Way}

-- the characters of ranks
abbrev pub characters_of : List ℕ → List ℕ → List ℕ
characters_of places rs = map (λ rank. get_or places rank 0) rs

-- the symbols w end no codeword; or first one of rank X * times + plus, X being the state before them, and then others, whose characters are the first of `later`
pub data Spells (c : Code) (places w : List ℕ) (times plus : ℕ) (later : List ℕ) : Type 0 where
  silent : ((x : ℕ) → ranks_ended c x w ≡ []) → times ≡ 0 → plus ≡ 0 → Spells c places w times plus later
  speaks : (rs : List ℕ) → ((x : ℕ) → ranks_ended c x w ≡ (x * times + plus) ∷ rs) → characters_of places rs ≡ take (length rs) later
      → Spells c places w times plus later

-- what the symbols w give
abbrev pub Says : Code → List ℕ → List ℕ → Gives → Type 0
Says c places w g = Spells c places w g.times g.plus (g.second ∷ g.third ∷ g.fourth ∷ [])

-- what a byte gives, in one number
abbrev pub first_times : ℕ → ℕ
first_times g = g % 256

abbrev pub first_plus : ℕ → ℕ
first_plus g = g / 256 % 256

abbrev pub later_in : ℕ → List ℕ
later_in g = (g / 65536 % 256) ∷ (g / 16777216 % 256) ∷ (g / 4294967296 % 256) ∷ []

-- its move and what it gives: this is known where the move is one of any state
abbrev pub KnownIn : Code → ℕ → List ℕ → ℕ → ℕ → ℕ → Type 0
KnownIn c σ places b e g = MoveIn c σ (symbols_of c.k (b ∷ [])) e × (0 < bound_in e → Spells c places (symbols_of c.k (b ∷ [])) (first_times g) (first_plus g) (later_in g))

-- those of all byte values, as far as they are worked out
abbrev pub KnownByByte : Code → ℕ → List ℕ → List ℕ → List ℕ → Type 0
KnownByByte c σ places t u = (b : ℕ) → KnownIn c σ places b (get_or t b 0) (get_or u b 0)

-- all codewords from symbol p on are good, and there are m of them at least
pub record Unpacks (c : Code) (σ : ℕ) (buf : List ℕ) (h p m : ℕ) : Type 0 where
  pub reads : Reads c σ buf h p
  pub whole : is_bad (row_reading c σ (row_upto c h buf) p) ≡ false
  pub enough : m ≤ length (ranks_read (row_reading c σ (row_upto c h buf) p))

-- before symbol `at` of a row that is read from symbol p on: the characters of the codewords that ended are written
pub record Wrote (c : Code) (σ : ℕ) (places row : List ℕ) (p : ℕ) (out : List ℕ) (way : Way) : Type 0 where
  pub from : p ≤ way.at
  pub here : Here c σ (drop p row) (way.at - p) way.x way.n
  pub front : take way.n out ≡ characters_of places (ranks_ended c 0 (take (way.at - p) (drop p row)))

-- where bytes are counted
abbrev pub WroteBytes : Code → ℕ → List ℕ → List ℕ → ℕ → List ℕ → Way → Type 0
WroteBytes c σ places row p out way = Wrote c σ places row p out (record { at = way.at * per c.k; x = way.x; n = way.n })
