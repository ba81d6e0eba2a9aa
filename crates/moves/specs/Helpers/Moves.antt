-- Symbols as one move of a reading's state: X * times + plus, as long as X is below a bound.
use Rattle.std.specs.Prelude.{◌≡◌, List, [], ◌∷◌, ℕ, suc, ◌+◌, ◌*◌, ◌/◌, ◌%◌, ◌^◌, ◌≤◌, ◌<◌, length, take, get_or}
use Rattle.ground.specs.Helpers.Below.{Below}
use Rattle.stopper.specs.Paper.Table.{base}
use Rattle.stopper.specs.declared.code.Code.{Code}
use Rattle.symbols.specs.Paper.Symbols.{symbols_of}
use Rattle.symbols.specs.Helpers.Gathered.{digits}
use Rattle.moves.specs.Helpers.States.{state_after, ranks_ended}
use Rattle.moves.specs.declared.byte.Move.{Move}
use Rattle.moves.specs.declared.byte.Parts.{Parts}

-- the symbols w move each state X below the bound to X * times + add, and end so many codewords, all good: wherever they stand
pub record Goes (c : Code) (σ : ℕ) (w : List ℕ) (bound times add stops : ℕ) : Type 0 where
  pub state : (x : ℕ) → x < bound → state_after c x w ≡ x * times + add
  pub ends : (x : ℕ) → x < bound → length (ranks_ended c x w) ≡ stops
  pub good : (x : ℕ) → x < bound → Below σ (ranks_ended c x w)

abbrev pub Moves : Code → ℕ → List ℕ → Move → Type 0
Moves c σ w m = Goes c σ w m.bound m.times m.plus m.stops

-- the numbers of a move are small
pub record Small (m : Move) : Type 0 where
  pub bound : m.bound ≤ 511
  pub times : m.times ≤ 255
  pub plus : m.plus ≤ 255
  pub stops : m.stops ≤ 127

-- a move in one number: the bound takes nine bits of it, times, plus and stops are bytes
abbrev pub bound_in : ℕ → ℕ
bound_in e = e / 65536 % 512

abbrev pub part_in : ℕ → ℕ → ℕ
part_in low e = e / 2 ^ low % 256

abbrev pub plus_in : ℕ → ℕ
plus_in e = part_in 0 e

abbrev pub times_in : ℕ → ℕ
times_in e = part_in 8 e

abbrev pub stops_in : ℕ → ℕ
stops_in e = part_in 25 e

pub record In (e : ℕ) (m : Move) : Type 0 where
  pub bound : bound_in e ≡ m.bound
  pub times : times_in e ≡ m.times
  pub plus : plus_in e ≡ m.plus
  pub stops : stops_in e ≡ m.stops

abbrev pub MoveIn : Code → ℕ → List ℕ → ℕ → Type 0
MoveIn c σ w e = Goes c σ w (bound_in e) (times_in e) (plus_in e) (stops_in e)

-- symbol y before what the move e does
abbrev pub SymbolBefore : Code → ℕ → ℕ → ℕ → ℕ → Type 0
SymbolBefore c σ y e r = (w : List ℕ) → MoveIn c σ w e → MoveIn c σ (y ∷ w) r

-- the moves of all rows of n symbols, each at the number that it spells
abbrev pub MovesOf : Code → ℕ → ℕ → List ℕ → Type 0
MovesOf c σ n t = (v : ℕ) → v < base c ^ n → MoveIn c σ (digits (base c) n v) (get_or t v 0)

-- one symbol more: t has the moves of `size` rows
abbrev pub Longer : Code → ℕ → ℕ → List ℕ → List ℕ → Type 0
Longer c σ size t r = (n : ℕ) → size ≡ base c ^ n → MovesOf c σ n t → MovesOf c σ (suc n) r

-- the moves of the byte values
abbrev pub MovesByByte : Code → ℕ → List ℕ → Type 0
MovesByByte c σ t = (b : ℕ) → b < 256 → MoveIn c σ (symbols_of c.k (b ∷ [])) (get_or t b 0)

-- a part of the first n moves in a row of its own
abbrev pub PartIn : (ℕ → ℕ) → List ℕ → ℕ → List ℕ → Type 0
PartIn part t n r = (b : ℕ) → b < n → get_or r b 0 ≡ part (get_or t b 0)

-- so by_moves reads them
pub record Rows (c : Code) (σ : ℕ) (p : Parts) : Type 0 where
  pub low : (b : ℕ) → b < 256 → get_or p.bound.now b 0 < 512
  pub moves : (b : ℕ) → b < 256 → Goes c σ (symbols_of c.k (b ∷ [])) (get_or p.bound.now b 0) (get_or p.times.now b 0) (get_or p.plus.now b 0) (get_or p.stops.now b 0)

-- before symbol q of a row the state is x, after n codewords, all good
pub record Here (c : Code) (σ : ℕ) (row : List ℕ) (q x n : ℕ) : Type 0 where
  pub inside : q ≤ length row
  pub state : state_after c 0 (take q row) ≡ x
  pub ends : length (ranks_ended c 0 (take q row)) ≡ n
  pub good : Below σ (ranks_ended c 0 (take q row))
