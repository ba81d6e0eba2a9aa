-- `symbols::whole::up` meets its contract: the bytes from `j` on have their symbols.
use Rattle.std.proofs.Common.{◌≡◌, ◌+◌, ◌-◌, ◌*◌, ◌≤◌, ◌<◌, ℕ, ap, ◌∙◌, length, set, arith, mul-le-mul_right}
use Rattle.ground.specs.Helpers.Moved.{moved_up}
use Rattle.ground.specs.Laws.Runs.{up_more}
use Rattle.symbols.specs.Paper.Symbols.{per, symbols_of}
use Rattle.symbols.specs.Laws.Rows.{symbols_length}
use Rattle.symbols.specs.Laws.Sizes.{bytes_for_enough, bytes_for_least, bytes_for_within}
use Rattle.symbols.specs.Laws.Width.{per_pos, per_few}
use Rattle.symbols.proofs.Moves.{byte_up}
use Rattle.symbols.proofs.whole.up.Goals as goal
use Rattle.symbols.proofs.whole.up.Goals.{After-unused-place}

-- `by` in whole bytes and symbols
record By (k by back place first : ℕ) : Type 0 where
  split : by + place ≡ back * per k
  in_byte : place < per k
  within : back ≤ first

by_is : (c : After-unused-place) → By c.args.k c.args.by c.bytes_for-back.result c.unused-place.result c.args.first
by_is c =
    let w = c.requires.0 in
    let by = c.args.by in
    rw (c.unused-place.ensures, c.bytes_for-back.ensures) record {
      split = omega (arith, bytes_for_enough w by);
      in_byte = omega (arith, bytes_for_enough w by, bytes_for_least w by, per_pos w);
      within = bytes_for_within w by c.args.first c.requires.2;
    }

pub overflow_cast-place : goal.overflow_cast-place
overflow_cast-place c = omega (arith, by_is (goal.at.overflow_cast-place c).After-unused-place, per_few c.requires.0)

pub overflow_sub-j : goal.overflow_sub-j
overflow_sub-j c = omega (arith, by_is (goal.at.overflow_sub-j c).After-unused-place)

pub window-requires : goal.window-requires
window-requires c =
    let k = c.args.k in
    let back = c.bytes_for-back.result in
    let place = c.unused-place.result in
    let b = by_is (goal.at.window-requires c).After-unused-place in
    let i = c.loop-j.j - 1 - back in
    let even : length (symbols_of k c.loop-j.buf) ≡ length c.args.buf.now * per k
    = symbols_length k c.loop-j.buf ∙ ap (λ (n : ℕ). n * per k) c.loop-j.auto.buf in
    let inside : i + back + 1 ≤ length c.args.buf.now = omega (arith, b) in
    (c.requires.0, b.in_byte, omega (arith, b, mul-le-mul_right (per k) inside))

pub loop-j-preserved : goal.loop-j-preserved
loop-j-preserved c =
    let w = c.requires.0 in
    let k = c.args.k in
    let by = c.args.by in
    let last = c.args.last in
    let back = c.bytes_for-back.result in
    let bs = c.loop-j.buf in
    let j = c.loop-j.j in
    let i = j - 1 - back in
    let b = by_is (goal.at.loop-j-preserved c).After-unused-place in
    let at_j : i + back ≡ j - 1 = omega (arith, b) in
    let at_end : j - 1 + 1 ≡ j = omega arith in
    let le : (j - 1) * per k ≤ j * per k = mul-le-mul_right (per k) (omega arith) in
    let ge : j * per k ≤ last * per k = mul-le-mul_right (per k) (omega arith) in
    let most : last * per k ≤ length c.args.buf.now * per k = mul-le-mul_right (per k) (omega arith) in
    let least : c.args.first * per k ≤ last * per k = mul-le-mul_right (per k) (omega arith) in
    let stored : symbols_of k (set bs (i + back) c.window.result) ≡ moved_up (symbols_of k bs) ((i + back) * per k - by) ((i + back + 1) * per k - by) by
    = byte_up w bs i back c.unused-place.result by c.window.result (omega arith) b.split c.window.ensures in (
      omega arith,
      up_more (symbols_of k c.args.buf.now) ((j - 1) * per k - by) (j * per k - by) (last * per k - by) by c.loop-j.invariant.1 (rw (at_j, at_end) at stored)
          (omega arith) (omega arith) (omega (arith, symbols_length k c.args.buf.now)),
    )
