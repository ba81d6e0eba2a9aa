-- `jump::windows::step_of` meets its contract.
use Rattle.std.proofs.Common.{◌≡◌, ℕ, ◌*◌, ◌%◌, ◌^◌, ap, arith, pow_mono}
use Rattle.jump.specs.Laws.Table.{bits_few, step_whole}
use Rattle.jump.proofs.windows.step_of.Goals as goal

pub overflow_mul-result : goal.overflow_mul-result
overflow_mul-result c =
    omega (arith, bits_few c.requires.0 c.args.n c.requires.1, ap (λ (k : ℕ). k * c.args.n) c.from.ensures)

pub overflow_shl-result : goal.overflow_shl-result
overflow_shl-result c =
    omega (arith, bits_few c.requires.0 c.args.n c.requires.1, ap (λ (k : ℕ). k * c.args.n) c.from.ensures)

pub returns : goal.returns
returns c =
    let bits : ℕ = c.args.k * c.args.n in
    let whole : 1 * 2 ^ bits % 18446744073709551616 ≡ 2 ^ bits = omega (arith, pow_mono {i = bits} {j = 8} (bits_few c.requires.0 c.args.n c.requires.1)) in
    rw c.from.ensures (whole, rw whole (step_whole c.requires.0 c.args.n c.requires.1))
