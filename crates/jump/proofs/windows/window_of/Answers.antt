-- `jump::windows::window_of` meets its contract.
use Rattle.std.proofs.Common.{ℕ, ◌*◌, ◌/◌, ◌%◌, ◌≤◌, ◌<◌, div-add-mod', mod-lt, mul-le-mul_right, le-div_iff_mul-le, arith}
use Rattle.symbols.specs.Paper.Symbols.{per}
use Rattle.symbols.specs.Laws.Width.{per_pos}
use Rattle.jump.proofs.windows.window_of.Goals as goal

pub overflow_sub-result-2 : goal.overflow_sub-result-2
overflow_sub-result-2 c = omega (arith, c.per_byte.ensures, per_pos c.requires.0)

pub overflow_sub-result-3 : goal.overflow_sub-result-3
overflow_sub-result-3 c =
    omega (arith, c.per_byte.ensures, c.place_in_byte.ensures, mod-lt c.args.long (per_pos c.requires.0))

pub returns : goal.returns
returns c =
    let q : ℕ = per c.args.k in
    let n : ℕ = c.args.long in
    let wide = c.min-wide.ensures in
    let back = c.min-back.ensures in
    let r : n % q < q = mod-lt n (per_pos c.requires.0) in
    let one : 1 ≤ n / q = (le-div_iff_mul-le (per_pos c.requires.0)).1 (omega (arith, c.requires.1)) in
    let le : c.min-wide.result * q ≤ n / q * q = mul-le-mul_right q (omega (arith, wide, c.byte_of.ensures)) in
    record {
      sum = omega (arith, back);
      some = omega (arith, wide, back, one, c.byte_of.ensures);
      near = omega (arith, back);
      few = omega (arith, r, c.per_byte.ensures);
      filled = omega (arith, le, r, div-add-mod' n q, c.per_byte.ensures, c.place_in_byte.ensures);
      small = omega (arith, wide);
    }
