-- `symbols::whole::down` meets its contract: the bytes up to `j` have their symbols.
use Rattle.std.proofs.Common.{◌≡◌, ◌+◌, ◌*◌, ◌≤◌, ◌<◌, ℕ, List, sym, length, arith, mod-lt, div-add-mod', mul-le-mul_right}
use Rattle.ground.specs.Laws.Runs.{down_more}
use Rattle.symbols.specs.Paper.Symbols.{per, symbols_of}
use Rattle.symbols.specs.Laws.Rows.{symbols_even, starts_within}
use Rattle.symbols.specs.Laws.Width.{per_pos, per_few}
use Rattle.symbols.proofs.Moves.{byte_down}
use Rattle.symbols.proofs.whole.down.Goals as goal
use Rattle.symbols.proofs.whole.down.Goals.{In-loop-j}

-- where byte j takes its symbols from
record From (k by ahead place : ℕ) (bs : List ℕ) (j : ℕ) : Type 0 where
  split : by ≡ ahead * per k + place
  in_byte : place < per k
  fits : (j + ahead) * per k + place + per k ≤ length (symbols_of k bs)
  there : j + ahead < length bs

from : (c : In-loop-j) → From c.args.k c.args.by c.byte_of-ahead.result c.place_in_byte-place.result c.loop-j.buf c.loop-j.j
from c =
    let k = c.args.k in
    let by = c.args.by in
    let ahead = c.byte_of-ahead.result in
    let place = c.place_in_byte-place.result in
    let bs = c.loop-j.buf in
    let j = c.loop-j.j in
    let split : by ≡ ahead * per k + place = rw (c.place_in_byte-place.ensures, c.byte_of-ahead.ensures) (sym (div-add-mod' by (per k))) in
    let le : (j + 1) * per k ≤ c.args.last * per k = mul-le-mul_right (per k) (omega arith) in
    let fits : (j + ahead) * per k + place + per k ≤ length (symbols_of k bs) = omega (arith, symbols_even k bs c.args.buf.now c.loop-j.auto.buf) in
    record {
      split = split;
      in_byte = rw c.place_in_byte-place.ensures (mod-lt by (per_pos c.requires.0));
      fits = fits;
      there = starts_within c.requires.0 bs (j + ahead) (omega (arith, per_pos c.requires.0));
    }

pub overflow_cast-place : goal.overflow_cast-place
overflow_cast-place c =
    omega (arith, c.place_in_byte-place.ensures, mod-lt c.args.by (per_pos c.requires.0), per_few c.requires.0)

pub overflow_add-j : goal.overflow_add-j
overflow_add-j c = omega (arith, from (goal.at.overflow_add-j c).In-loop-j)

pub window-requires : goal.window-requires
window-requires c = let f = from (goal.at.window-requires c).In-loop-j in (c.requires.0, f.in_byte, f.fits)

pub bounds-buf-j : goal.bounds-buf-j
bounds-buf-j c = omega (arith, from (goal.at.bounds-buf-j c).In-loop-j)

pub loop-j-preserved : goal.loop-j-preserved
loop-j-preserved c =
    let w = c.requires.0 in
    let k = c.args.k in
    let by = c.args.by in
    let first = c.args.first in
    let bs = c.loop-j.buf in
    let j = c.loop-j.j in
    let f = from (goal.at.loop-j-preserved c).In-loop-j in
    let ge : first * per k ≤ j * per k = mul-le-mul_right (per k) (omega arith) in
    let most : (j + 1) * per k ≤ c.args.last * per k = mul-le-mul_right (per k) (omega arith) in
    down_more (symbols_of k c.args.buf.now) (first * per k + by) (j * per k + by) ((j + 1) * per k + by) by c.loop-j.invariant
    (byte_down w bs j c.byte_of-ahead.result c.place_in_byte-place.result by c.window.result (omega (arith, f)) f.split c.window.ensures)
    (omega arith) (omega arith) (omega arith) (omega arith)
