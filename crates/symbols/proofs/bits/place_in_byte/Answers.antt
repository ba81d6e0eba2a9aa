-- `symbols::bits::place_in_byte` meets its contract.
use mathlib.Core.Path.{◌≡◌}
use Prim.Native.Nat.{◌-◌, ◌%◌}
use native.Mathlib.Omega.{arith}
use lib.Bits.{bit_and, and_mask}
use Rattle.symbols.specs.Paper.Symbols.{per}
use Rattle.symbols.specs.Laws.Width.{by_width, per_pos}
use Rattle.symbols.proofs.bits.place_in_byte.Goals as goal

pub overflow_sub-result : goal.overflow_sub-result
overflow_sub-result c = omega (arith, c.per_byte.ensures, per_pos c.requires)

pub returns : goal.returns
unfolding per
returns c =
    let i = c.args.i in
    rw c.per_byte.ensures (by_width (λ k. bit_and i (per k - 1) ≡ i % per k) c.requires (and_mask i 2) (and_mask i 1))
