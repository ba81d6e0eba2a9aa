-- Reading a codeword symbol by symbol, as a state.
use Rattle.std.specs.Prelude.{true, false, cond, ℕ, zero, suc, ◌+◌, ◌-◌, ◌*◌, ◌≤◌, ltb, leb}
use Rattle.stopper.specs.Paper.Code.{shorter, opens}
use Rattle.stopper.specs.Paper.Table.{base, stoppers}
use Rattle.stopper.specs.declared.code.Code.{Code}
use Rattle.stopper.specs.declared.reading.Reader.{Reader}
use Rattle.stopper.specs.declared.reading.Step.{Step}
use Rattle.stopper.specs.declared.reading.Step.TheVariants.{Rank, Bad, Open}

-- places are counted as far as 2: from there on all are alike
abbrev pub near : ℕ → ℕ
near zero = 0
near (suc zero) = 1
near (suc (suc i)) = 2

unfoldable pub nearer : ℕ → ℕ
nearer p = cond (ltb p 2) (p + 1) 2

-- open before place i, after continuers that spell x
abbrev pub open_at : Code → ℕ → ℕ → Reader
open_at c i x = record { past = false; place = near i; shorter = shorter (base c) (stoppers c) i; rows = opens (base c) (stoppers c) i; value = x }

-- σ is reached and the stopper not yet read: no rank below σ can come any more
abbrev pub past_at : ℕ → Reader
past_at p = record { past = true; place = p; shorter = 0; rows = 1; value = 0 }

-- the state after i continuers that spell x. Every codeword that goes on from there has rank `shorter i + x` at least, and that bound
-- never falls: once it is σ the state is past. (A state that is not past promises nothing.)
unfoldable pub state_at : Code → ℕ → ℕ → ℕ → Reader
state_at c σ zero x = open_at c zero x
state_at c σ (suc i) x = cond (leb σ (shorter (base c) (stoppers c) (suc i) + x)) (past_at (near (suc i))) (open_at c (suc i) x)

-- before the first symbol of a codeword
abbrev pub opened : Reader
opened = record { past = false; place = 0; shorter = 0; rows = 1; value = 0 }

-- the numbers of a state are small, so none wraps in a step
pub record Small (r : Reader) : Type 0 where
  pub place : r.place ≤ 2
  pub shorter : r.shorter ≤ 256
  pub rows : r.rows ≤ 4096
  pub value : r.value ≤ 256

-- what one more symbol (below 2 ^ k) does: a stopper ends a codeword, of a rank below σ or a bad one; after a continuer the codeword stays open
unfoldable pub stepped : Code → ℕ → Reader → ℕ → Step
stepped c σ r y =
    let s : ℕ = stoppers c r.place in
    let rank : ℕ = r.shorter + (r.value * s + y) in
    let least : ℕ = r.shorter + r.rows * s in
    let next : ℕ = r.value * (base c - s) + (y - s) in
    let on : Reader = record { past = false; place = nearer r.place; shorter = least; rows = r.rows * (base c - s); value = next } in
    cond (ltb y s)
    (cond r.past Bad (cond (leb σ rank) Bad (Rank rank)))
    (Open (cond r.past (past_at (nearer r.place)) (cond (leb σ (least + next)) (past_at (nearer r.place)) on)))
