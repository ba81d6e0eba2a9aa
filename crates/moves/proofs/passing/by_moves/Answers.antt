-- `moves::passing::by_moves` meets its contract: `Here` after every two bytes.
use Rattle.std.proofs.Common.{◌≡◌, [], ◌∷◌, ℕ, suc, ◌+◌, ◌*◌, ◌≤◌, ◌<◌, length, get_or, refl, ap, subst, ◌∙◌, add-one, arith, mul-le-mul_right, le-mul_of_pos_right}
use Rattle.stopper.specs.Laws.Table.{code_width}
use Rattle.symbols.specs.Paper.Symbols.{per, symbols_of}
use Rattle.symbols.specs.Laws.Width.{per_pos}
use Rattle.symbols.specs.Laws.Rows.{starts_within}
use Rattle.reading.specs.Helpers.Codewords.{row_of}
use Rattle.moves.specs.Helpers.Moves.{Goes, Rows, Here}
use Rattle.moves.specs.Laws.Moves.{here_byte, here_as, here_few}
use Rattle.moves.specs.declared.byte.Parts.{Parts}
use Rattle.reading.specs.declared.packed.Packed.{Packed}
use Rattle.moves.proofs.passing.by_moves.Goals as goal

module _ (s : Packed) {whole : ℕ} (in-row : whole * per s.ranks.good.code.k ≤ s.h) where
  -- there are few bytes
  few : whole ≤ 16777216
  few = omega (arith, le-mul_of_pos_right whole (per_pos (code_width s.ranks.good.code s.ranks.good.good)), s.small)

  -- a byte before the last whole one is whole
  module _ (j : ℕ) (l : j < whole) where
    inside : suc j * per s.ranks.good.code.k ≤ s.h
    inside = omega (arith, mul-le-mul_right (per s.ranks.good.code.k) l)

    in_buffer : j < length s.buf.now
    in_buffer = let w = code_width s.ranks.good.code s.ranks.good.good in starts_within w s.buf.now j (omega (arith, inside, per_pos w, s.held))

  -- codewords that ended before a byte are few
  ended_few : (j : ℕ) → j < whole → (x : ℕ) {n : ℕ} → Here s.ranks.good.code s.ranks.sigma (row_of s) (j * per s.ranks.good.code.k) x n → n ≤ 16777216
  ended_few j l x w = omega (arith, here_few s.ranks.good.code s.ranks.sigma (row_of s) w, inside j l, s.small)

  module _ {p : Parts} (r : Rows s.ranks.good.code s.ranks.sigma p) where
    -- a byte b of the buffer, by its move
    one_byte : (j : ℕ) → j < whole → {b x n : ℕ} → b ≡ get_or s.buf.now j 0 → b < 256 → x < get_or p.bound.now b 0
        → Here s.ranks.good.code s.ranks.sigma (row_of s) (j * per s.ranks.good.code.k) x n
        → Here s.ranks.good.code s.ranks.sigma (row_of s) (suc j * per s.ranks.good.code.k) (x * get_or p.times.now b 0 + get_or p.plus.now b 0) (n + get_or p.stops.now b 0)
    one_byte j l {b} e k t w =
        here_byte s.ranks.good.code s.ranks.sigma s.ranks.good.good s.buf.now s.h j (inside j l) s.held
        (subst (λ (y : ℕ). Goes s.ranks.good.code s.ranks.sigma (symbols_of s.ranks.good.code.k (y ∷ [])) (get_or p.bound.now b 0) (get_or p.times.now b 0) (get_or p.plus.now b 0) (get_or p.stops.now b 0)) e (r.moves b k)) t w

    two_bytes : (j : ℕ) → j + 1 < whole → {b d x n : ℕ} → b ≡ get_or s.buf.now j 0 → d ≡ get_or s.buf.now (j + 1) 0 → b < 256 → d < 256
        → x < get_or p.bound.now b 0 → x * get_or p.times.now b 0 + get_or p.plus.now b 0 < get_or p.bound.now d 0
        → Here s.ranks.good.code s.ranks.sigma (row_of s) (j * per s.ranks.good.code.k) x n
        → Here s.ranks.good.code s.ranks.sigma (row_of s) ((j + 2) * per s.ranks.good.code.k) ((x * get_or p.times.now b 0 + get_or p.plus.now b 0) * get_or p.times.now d 0 + get_or p.plus.now d 0)
        (n + (get_or p.stops.now b 0 + get_or p.stops.now d 0))
    two_bytes j l {b} {d} e f k i t u w =
        let half = one_byte j (omega arith) e k t w in
        here_as (omega arith) refl (omega arith) (one_byte (suc j) (omega arith) (f ∙ ap (λ (o : ℕ). get_or s.buf.now o 0) (add-one j)) i u half)

pub overflow_add-at : goal.overflow_add-at
overflow_add-at c = omega (arith, few c.args.packed.now c.requires.0)

pub bounds-buf-at : goal.bounds-buf-at
bounds-buf-at c = in_buffer c.args.packed.now c.requires.0 c.loop-at.at (omega arith)

pub bounds-buf-at-in-loop-at : goal.bounds-buf-at-in-loop-at
bounds-buf-at-in-loop-at c = in_buffer c.args.packed.now c.requires.0 (c.loop-at.at + 1) c.loop-at-test.true

pub overflow_add-n-in-loop-at : goal.overflow_add-n-in-loop-at
overflow_add-n-in-loop-at c =
    omega (arith, ended_few c.args.packed.now c.requires.0 c.loop-at.at (omega arith) c.loop-at.x c.loop-at.invariant.here, c.from-in-loop-at-2.ensures, c.from-in-loop-at-3.ensures)

pub loop-at-preserved : goal.loop-at-preserved
loop-at-preserved c =
    let at = c.loop-at.at in
    let moves = c.requires.1 in
    let b = c.from-b.ensures in
    let d = c.from-d.ensures in
    let b_small : c.from-b.result < 256 = omega (arith, b, c.type_inv.buf at) in
    let d_small : c.from-d.result < 256 = omega (arith, d, c.type_inv.buf (at + 1)) in
    let taken = rw c.from.ensures at c.if-from-z.false in
    let taken_too = rw (c.moved.ensures.0, c.from-in-loop-at.ensures) at c.if-from-moved.false in
    record {
      inside = omega arith;
      small = omega (arith, c.moved_twice-x.ensures.1, taken_too, moves.low c.from-d.result d_small);
      here = rw (c.moved_twice-x.ensures.0, c.from-in-loop-at-2.ensures, c.from-in-loop-at-3.ensures)
          (two_bytes c.args.packed.now c.requires.0 moves at c.loop-at-test.true b d b_small d_small taken taken_too c.loop-at.invariant.here);
    }
