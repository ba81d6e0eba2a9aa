-- `symbols::bits::shift_of` meets its contract.
use Rattle.std.proofs.Common.{◌≡◌, ◌*◌, ◌%◌, ◌≤◌, ℕ, suc, arith, mod-lt}
use Rattle.symbols.specs.Paper.Symbols.{per, shift}
use Rattle.symbols.specs.Helpers.Widths.{Width}
use Rattle.symbols.specs.Laws.Width.{per_pos, per_few, ends_within}
use Rattle.symbols.proofs.bits.shift_of.Goals as goal

-- the symbol, and those before it, lie within the byte
ends : {k : ℕ} → Width k → (i : ℕ) {place : ℕ} → place ≡ i % per k → k * suc place ≤ 8
ends w i e = rw e (ends_within w (mod-lt i (per_pos w)))

pub overflow_cast-result : goal.overflow_cast-result
overflow_cast-result c = omega (arith, c.place_in_byte.ensures, mod-lt c.args.i (per_pos c.requires), per_few c.requires)

pub overflow_mul-result : goal.overflow_mul-result
overflow_mul-result c = omega (arith, ends c.requires c.args.i c.place_in_byte.ensures)

pub overflow_sub-result-2 : goal.overflow_sub-result-2
overflow_sub-result-2 c = omega (arith, ends c.requires c.args.i c.place_in_byte.ensures)

pub returns : goal.returns
unfolding shift
returns c = rw c.place_in_byte.ensures (omega arith)
