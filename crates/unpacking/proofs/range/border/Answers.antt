-- `unpacking::range::border` meets its contract: p lies before the next byte.
use Rattle.std.proofs.Common.{ℕ, ◌+◌, ◌*◌, ◌/◌, ◌<◌, arith}
use Rattle.std.proofs.Math.Nat.{div-add-mod', mod-lt}
use Rattle.symbols.specs.Laws.Width.{per_pos}
use Rattle.unpacking.proofs.range.border.Goals as goal

before_next : (p d : ℕ) → 0 < d → p < (p / d + 1) * d
before_next p d h = omega (arith, div-add-mod' p d, mod-lt p h)

pub returns : goal.returns
returns c =
    let e = rw (c.byte_of.ensures, c.per_byte.ensures) at c.min.ensures in
    omega (arith, e, before_next c.args.p _ (per_pos c.requires.0))
